-- Laws of captures: their numbers, their count, one turn of a loop over them. Assumes nothing.
use Prim.Native.Nat.{min, ℕ, zero, suc, ◌+◌, ◌≤◌, ◌<◌}
use mathlib.Core.Bool.{Bool, true, false, cond}
use mathlib.Core.Path.{◌≡◌, refl, sym, ap, ◌∙◌}
use mathlib.Core.List.{[], ◌∷◌, ◌++◌, append-nil}
use native.Mathlib.Omega.{arith}
use lib.ListN.{get_or, drop, get_or-eq_default}
use native.Mathlib.Decide.{dec_lt}
use Rattle.std.proofs.lemmas.List.{get_or-drop}
use Rattle.lua51_instruction.specs.Word.{MOVE}
use Rattle.lua51_instruction.specs.Proto.{Proto, size, word, is, arg_b}
use Rattle.ast.specs.Statement.{Exprs, register, upvalue, closure, set_register, run, expr, exprs, count}
use Rattle.lua51_runs.specs.Runs.{assigned}
use Rattle.lua51_lifter.specs.Lift.{captures}

capture_numbers : (b : Bool) (x : ℕ) → expr (cond b (register x) (upvalue x)) ≡ cond b 1 5 ∷ x ∷ []
unfolding expr
capture_numbers true x = refl
capture_numbers false x = refl

-- a closure: what stands before its captures
pub closure_numbers : (r f : ℕ) (xs : Exprs) → run (set_register r (closure f xs)) ≡ assigned r (12 ∷ f ∷ count xs ∷ []) ++ exprs xs
unfolding run count exprs expr
closure_numbers r f xs = rw append-nil

module _ (p : Proto) where
  pub count_captures : (i n : ℕ) → count (captures p i n) ≡ n
  unfolding captures count
  count_captures i zero = refl
  count_captures i (suc n) = ap suc (count_captures (i + 1) n)

  -- past the words every place holds the same
  word_past : (i : ℕ) → size p ≤ i → word p i ≡ 0
  word_past i h = get_or-eq_default p.words 0 h

  -- word k of those behind word i, where they are dropped up to n, the largest place being m
  pub word_behind : (i k n m : ℕ) → n ≡ min (size p) (min (i + 1) m) → size p ≤ m → word p (i + (k + 1)) ≡ get_or (drop n p.words) k 0
  word_behind i k n m e most = go (dec_lt i (size p)) ∙ sym (get_or-drop n p.words k 0)
    where
      go : Dec (i < size p) → word p (i + (k + 1)) ≡ word p (n + k)
      go (yes inside) = let same : i + (k + 1) ≡ n + k = omega arith in rw same
      go (no past) = word_past (i + (k + 1)) (omega arith) ∙ sym (word_past (n + k) (omega arith))

  pub first_capture : (i n : ℕ) → exprs (captures p i (suc n)) ≡ (cond (is p (i + 1) MOVE) 1 5 ∷ arg_b p (i + 1) ∷ []) ++ exprs (captures p (i + 1) n)
  unfolding captures exprs
  first_capture i n = rw (capture_numbers (is p (i + 1) MOVE) (arg_b p (i + 1)))

  -- the first of n captures behind word i, which is in word j, and the m behind it; and none
  pub captures_turn : (i j n m : ℕ) → j ≡ i + 1 → n ≡ m + 1
      → exprs (captures p i n) ≡ cond (is p j MOVE) 1 5 ∷ arg_b p j ∷ exprs (captures p j m)
  captures_turn i j n m next e =
      let more : n ≡ suc m = omega arith in
      rw (more, next) (first_capture i m)

  pub captures_done : (i n : ℕ) → n ≡ 0 → exprs (captures p i n) ≡ []
  unfolding captures exprs
  captures_done i n e = rw e
