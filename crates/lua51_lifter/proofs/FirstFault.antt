-- What `try_for_each` answers over the numbers below n, each judged by a call: the first fault. `of` is the verdict that a
-- judgement stands for. Assumes nothing.
use Prim.{Unit}
use Prim.Native.Nat.{ℕ, ◌+◌, ◌-◌, ◌<◌, ◌≤◌}
use native.Mathlib.Omega.{arith}
use mathlib.Core.List.{List, [], ◌∷◌}
use mathlib.Core.Path.{◌≡◌, refl, sym, subst, ◌∙◌}
use denote.Param.Members.{Mut}
use Rattle.std.proofs.Common.{Option, None, Some, Result, Ok, Err, MatchOption, Break, IsErr, IsErrAnd}
use Rattle.std.proofs.iter.Yields.{nat_range_steps}
use Rattle.std.proofs.lemmas.Result.{err_from_is_err_and}
use Rattle.std.specs.declared.ops.Range.{Range}
use Rattle.std.specs.Fn.{Called}
use Rattle.std.specs.Iterator.{YieldsThen, TryForEachTurn, TryCallsOnEach}
use Rattle.std.specs.List.{FoldsTo}
use Rattle.std.specs.Result.{result_from_control_flow}
use Rattle.lua51_lifter.specs.Check.{Verdict, fine, ◌else◌, first_refusal}
use Rattle.lua51_lifter.specs.Verdict.{Found}
use Rattle.lua51_lifter.proofs.Verdicts.{first_turn, first_end}

abbrev Judgement : Type 0 → Type 0
Judgement T = Result (Unit {0}) T

module _ {T : Type 0} (of : Judgement T → Verdict) (passes : of (Ok tt) ≡ fine)
    {F : Type 0} {g : Mut F (ℕ × Unit {0}) (Judgement T)} {f : F} where
  module _ (n : ℕ) (P : ℕ → Verdict → Type 0) (none : P n fine)
      (stays : (i : ℕ) (r : Judgement T) (q : F) → i < n → Called g f (i, tt) r q → q ≡ f)
      (last : (i : ℕ) (y : T) (q : F) → i < n → Called g f (i, tt) (Err y) q → P i (of (Err y)))
      (more : (i : ℕ) (q : F) (w : Verdict) → i < n → Called g f (i, tt) (Ok tt) q → P (i + 1) w → P i w) where
    -- by induction over the calls: P i holds of what is found from i on
    from_on : (xs : List ℕ) (s u : Range ℕ) (o : Option ℕ) (j : F) (r : Judgement T) → s.end ≡ n → s.start ≤ n → YieldsThen nat_range_steps s xs o u
        → FoldsTo (TryForEachTurn g (λ (a : Judgement T) flow. a ≡ result_from_control_flow flow)) f xs j
        → MatchOption o (r ≡ Ok tt) (λ x. (w : Judgement T) × (h : F) × (e : _) × Called g j (x, tt) w h × (w ≡ result_from_control_flow (Break e)) × (IsErr r × IsErrAnd r (λ y. y ≡ e.0)))
        → P s.start (of r)
    from_on [] s u None j r e le y c m =
        let over = subst (λ (t : Range ℕ). nat_range_steps t None u) (sym y.1) y.2 in
        let end : s.start ≡ n = omega (arith, over.1.0) in
        rw (m, end, passes) none
    from_on [] s u (Some x) j r e le y c m =
        let step = subst (λ (t : Range ℕ). nat_range_steps t (Some x) u) (sym y.1) y.2 in
        let called = subst (λ (i : ℕ). Called g f (i, tt) m.0 m.1) step.1.1 (subst (λ (q : F). Called g q (x, tt) m.0 m.1) (sym c) m.3) in
        let made = err_from_is_err_and r m.5.1 in
        rw (made.1, made.2) (last s.start m.2.0 m.1 (omega (arith, step.1.0)) (subst (λ (w : Judgement T). Called g f (s.start, tt) w m.1) m.4 called))
    from_on (x ∷ xs) s u o j r e le y c m =
        let step = y.1.1 in
        let below : s.start < n = omega (arith, step.1.0) in
        let called = subst (λ (i : ℕ). Called g f (i, tt) c.1.0 c.0) step.1.1 c.1.1 in
        more s.start c.0 (of r) below (subst (λ (w : Judgement T). Called g f (s.start, tt) w c.0) c.1.2 called)
        (subst (λ (i : ℕ). P i (of r)) step.1.2
        (from_on xs y.1.0 u o j r (step.0 ∙ e) (omega (arith, step.1.2)) (y.0, y.1.2, y.2)
        (subst (λ (q : F). FoldsTo (TryForEachTurn g (λ (a : Judgement T) flow. a ≡ result_from_control_flow flow)) q xs j) (stays s.start c.1.0 c.0 below called) c.2) m))

  module _ {n : ℕ} {r : Judgement T} {u : Range ℕ}
      (ran : TryCallsOnEach nat_range_steps g (λ a flow. a ≡ result_from_control_flow flow) (λ e a. IsErr a × IsErrAnd a (λ y. y ≡ e.0)) (record { start = 0; end = n }) f r u) where
    -- where each number below n is judged as v says, and a fault refuses, it is the first refusal of v
    pub first_of_run : ((y : T) (w : Verdict) → of (Err y) else w ≡ of (Err y)) → (v : ℕ → Verdict)
        → ((i : ℕ) (a : Judgement T) (q : F) → i < n → Called g f (i, tt) a q → (q ≡ f) × (of a ≡ v i)) → of r ≡ first_refusal v 0 n
    first_of_run refuses v by =
        let all : n - 0 ≡ n = omega arith in
        rw all at
        (from_on n (λ i w. w ≡ first_refusal v i (n - i)) (sym (first_end v n n (omega arith)))
        (λ i a q lt called. (by i a q lt called).0)
        (λ i y q lt called. let is = (by i (Err y) q lt called).1 in rw (first_turn v n i lt, ← is) (sym (refuses y (first_refusal v (i + 1) (n - (i + 1))))))
        (λ i q w lt called on. let is = (by i (Ok tt) q lt called).1 in rw (first_turn v n i lt, ← is, passes) on)
        ran.0 (record { start = 0; end = n }) u ran.1 ran.2 r refl (omega arith) ran.3 ran.4 ran.5)

    -- where each judgement is one of some numbers at one of the words, so is it
    pub found_of_run : (least most : ℕ) → ((i : ℕ) (a : Judgement T) (q : F) → i < n → Called g f (i, tt) a q → (q ≡ f) × Found least most n (of a)) → Found least most n (of r)
    found_of_run least most by =
        from_on n (λ i w. Found least most n w) tt (λ i a q lt called. (by i a q lt called).0)
        (λ i y q lt called. (by i (Err y) q lt called).1) (λ i q w lt called on. on)
        ran.0 (record { start = 0; end = n }) u ran.1 ran.2 r refl (omega arith) ran.3 ran.4 ran.5
