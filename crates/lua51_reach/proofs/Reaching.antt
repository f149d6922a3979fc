-- What the target or skip of a word says of refusals 10 and 14. Assumes nothing.
use Prim.Native.Nat.{ℕ, ◌+◌, ◌<◌, ◌≤◌}
use native.Mathlib.Omega.{arith}
use mathlib.Core.Bool.{Bool, true, false, cond, ◌||◌}
use mathlib.Core.List.{List, []}
use mathlib.Core.Path.{◌≡◌, refl}
use lib.Dec.{ltb, eqb}
use borrow.Author.Tests.{ltb-true, ltb-false, ne_eqb}
use Rattle.basics.specs.Range.{only, times}
use Rattle.basics.proofs.Tests.{clash, either_way}
use Rattle.lua51_instruction.specs.Word.{Flow, straight, skip, jump, test, test_set, loop_entry, numeric_loop, generic_loop, exit}
use Rattle.lua51_instruction.specs.Jump.{is_word, word_or}
use Rattle.lua51_instruction.specs.Proto.{Proto, size, word, arg_c, target_at}
use Rattle.std.specs.Prelude.{Option, Some, None}
use Rattle.lua51_instruction.proofs.Targets.{target_below}
use Rattle.lua51_lifter.specs.Check.{lands_inside, reaches}
use Rattle.lua51_reach.specs.Targets.{skip_of, reach_by, reach_of}
use Rattle.lua51_reach.specs.declared.reach.Reach.{Reach}
use Rattle.lua51_reach.specs.declared.reach.Reach.TheVariants.{Nowhere, To, Outside}

-- a target or skip is not outside
abbrev pub inside : Reach → Bool
inside Nowhere = true
inside (To t) = true
inside Outside = false

pub not_outside : (r : Reach) → (r ≡ Outside → ⊥) → true ≡ inside r
not_outside Nowhere n = refl
not_outside (To t) n = refl
not_outside Outside n = absurd (n refl)

-- the word that is a target or skip
abbrev pub word_of : Reach → List ℕ
word_of Nowhere = []
word_of (To t) = only t
word_of Outside = []

-- ------------------------------------------------------------ refusal 10

skip_inside : (i n : ℕ) → ltb (i + 2) n ≡ inside (skip_of i n)
skip_inside i n = either_way (ltb (i + 2) n) (λ h. rw h) (λ h. rw h)

jump_inside : (t : Option ℕ) → is_word t ≡ inside (reach_by t)
jump_inside (Some t) = refl
jump_inside None = refl

module _ (p : Proto) (i : ℕ) where
  pub lands_by : (f : Flow) → lands_inside p i f ≡ inside (reach_of p i f)
  unfolding lands_inside reach_of
  lands_by straight = refl
  lands_by skip = by (eqb (arg_c p i) 0)
    where
      by : (b : Bool) → b || ltb (i + 2) (size p) ≡ inside (cond b Nowhere (skip_of i (size p)))
      by true = refl
      by false = skip_inside i (size p)
  lands_by jump = jump_inside (target_at p i)
  lands_by test = skip_inside i (size p)
  lands_by test_set = skip_inside i (size p)
  lands_by loop_entry = jump_inside (target_at p i)
  lands_by numeric_loop = jump_inside (target_at p i)
  lands_by generic_loop = skip_inside i (size p)
  lands_by exit = refl

-- ------------------------------------------------------------ refusal 14

-- where a word of n leads, and what it has as its target or skip: nothing, a word, or one that is outside
pub data Led (n : ℕ) : Reach → List ℕ → Type 0 where
  nowhere : Led n Nowhere []
  to : {t : ℕ} → t < n → Led n (To t) (only t)
  outside : {t : ℕ} → n ≤ t → Led n Outside (only t)

skip_led : (i n : ℕ) → Led n (skip_of i n) (only (i + 2))
skip_led i n = either_way (ltb (i + 2) n) (λ h. rw h (to (ltb-true (i + 2) n h))) (λ h. rw h (outside (ltb-false (i + 2) n h)))

jump_led : (n : ℕ) (t : Option ℕ) → (is_word t ≡ true → word_or n t < n) → Led n (reach_by t) (only (word_or n t))
jump_led n (Some t) h = to (h refl)
jump_led n None h = outside {t = n} (omega arith)

module _ (p : Proto) (i : ℕ) where
  by_jump : Led (size p) (reach_by (target_at p i)) (only (word_or (size p) (target_at p i)))
  by_jump = jump_led (size p) (target_at p i) (target_below i (size p) (word p i))

  pub led_by : (f : Flow) → Led (size p) (reach_of p i f) (reaches p i f)
  unfolding reach_of reaches
  led_by straight = nowhere
  led_by skip = by (eqb (arg_c p i) 0)
    where
      by : (b : Bool) → Led (size p) (cond b Nowhere (skip_of i (size p))) (cond b [] (only (i + 2)))
      by true = nowhere
      by false = skip_led i (size p)
  led_by jump = by_jump
  led_by test = skip_led i (size p)
  led_by test_set = skip_led i (size p)
  led_by loop_entry = by_jump
  led_by numeric_loop = by_jump
  led_by generic_loop = skip_led i (size p)
  led_by exit = nowhere

-- among the words of the function, the two are the same
pub led_times : {n : ℕ} {r : Reach} {xs : List ℕ} → Led n r xs → (j : ℕ) → times j (word_of r) ≡ cond (ltb j n) (times j xs) 0
unfolding times
led_times {n} nowhere j = either_way (ltb j n) (λ h. rw h) (λ h. rw h)
led_times {n} (to {t} l) j = either_way (ltb j n) (λ h. rw h) (λ h. rw (h, ne_eqb j t (λ e. omega (arith, ltb-false j n h))))
led_times {n} (outside {t} l) j = either_way (ltb j n) (λ h. rw (h, ne_eqb j t (λ e. omega (arith, ltb-true j n h)))) (λ h. rw h)

-- what is not outside is not n
pub led_before : {n : ℕ} {r : Reach} {xs : List ℕ} → Led n r xs → inside r ≡ true → times n xs ≡ 0
unfolding times
led_before nowhere h = refl
led_before {n} (to {t} l) h = rw (ne_eqb n t (λ e. omega arith))
led_before (outside l) h = clash h refl
