-- A `try_fold` by a reader reads each item in turn, from where the one before it ends. Assumes nothing.
use Rattle.std.proofs.Common.{◌≡◌, ◌∙◌, sym, ap, subst, refl, ℕ, List, [], ◌∷◌, length, Option, Some, None, Result, Ok, Err, MatchOption}
use Rattle.std.specs.Iterator.{Yields, AlwaysYields}
use Rattle.std.specs.List.{FoldsTo}
use Rattle.std.proofs.lemmas.Iterator.{YieldsList}
use Rattle.lua51_deserializer.specs.Chunk.{Read, here, refused, ◌then◌, again, exactly, signature}
use Rattle.lua51_deserializer.specs.Cursor.{read_of}
use Rattle.lua51_deserializer.specs.declared.fields.ChunkFault.{ChunkFault}

-- what h reads at each item, in turn
abbrev pub read_each : {B : Type 0} → (B → ℕ → Read) → List B → ℕ → Read
read_each h [] i = here i
read_each h (y ∷ ys) i = h y i then read_each h ys

-- s yields all, and a turn R goes from a state f with an offset to f with where the item's reading stands. The turns over xs came to a;
-- P is known at the end of the items, and Q of the item behind xs
module _ {S A B F : Type 0} (steps : S → Option A → S → Type 0) (v : A → B) (R : F × ℕ → A → F × ℕ → Type 0) (f : F) (h : B → ℕ → Read)
    (turn : (i : ℕ) (x : A) (q : F × ℕ) → R (f, i) x q → (q.0 ≡ f) × (here q.1 ≡ h (v x) i)) (r : Result ℕ ChunkFault) (q : F) (a : ℕ)
    (P : Type 0) (Q : A → Type 0) (ends : P → r ≡ Ok a) (stops : (x : A) → Q x → q ≡ f → (y : ChunkFault) × (r ≡ Err y) × (h (v x) a ≡ read_of (Err y))) where
  folded : (xs : List A) (o : Option A) (s t u : S) (i : ℕ) (all : List B)
      → AlwaysYields steps v s all → Yields steps s xs t → steps t o u → FoldsTo R (f, i) xs (q, a) → MatchOption o P Q → read_of r ≡ read_each h all i
  folded [] None s t u i [] y at next turns last = rw (ends last) (ap here (sym (ap (λ (p : F × ℕ). p.1) turns)))
  folded [] None s t u i (b ∷ all) y at next turns last = absurd (y.0 u (subst (λ z. steps z None u) (sym at) next))
  folded [] (Some x) s t u i [] y at next turns last = absurd (y x u (subst (λ z. steps z (Some x) u) (sym at) next))
  folded [] (Some x) s t u i (b ∷ all) y at next turns last =
      let item = (y.1 x u (subst (λ z. steps z (Some x) u) (sym at) next)).0 in
      let (e, fault, read) = stops x last (sym (ap (λ (p : F × ℕ). p.0) turns)) in
      let refused : h b i ≡ read_of (Err e) = ap (h b) (ap (λ (p : F × ℕ). p.1) turns) ∙ rw item at read in
      rw refused (ap read_of fault)
  folded (x ∷ xs) o s t u i [] y at next turns last = absurd (y x at.0 at.1)
  folded (x ∷ xs) o s t u i (b ∷ all) y at next turns last =
      let item = y.1 x at.0 at.1 in
      let (same, read) = turn i x turns.0 turns.1 in
      let rest = subst (λ (z : F). FoldsTo R (z, turns.0.1) xs (q, a)) same turns.2 in
      rw (← item.0, ← read) (folded xs o at.0 t u turns.0.1 all item.1 at.2 next rest last)

-- a reader that asks nothing of its items reads once for each
pub reads_again : {B : Type 0} (f : ℕ → Read) (ys : List B) (i : ℕ) → read_each (λ _. f) ys i ≡ again f (length ys) i
unfolding again
reads_again f [] i = refl
reads_again f (y ∷ ys) i = go (reads_again f ys) (f i)
  where
    go : ((j : ℕ) → read_each (λ _. f) ys j ≡ again f (length ys) j) → (r : Read) → (r then read_each (λ _. f) ys) ≡ (r then again f (length ys))
    go rest (here j) = rest j
    go rest (refused n p) = refl

-- the bytes of a header, each a field
pub reads_signature : (s bs : List ℕ) (i : ℕ) → read_each (λ b. exactly s b) bs i ≡ signature s bs i
unfolding signature
reads_signature s [] i = refl
reads_signature s (b ∷ bs) i = go (reads_signature s bs) (exactly s b i)
  where
    go : ((j : ℕ) → read_each (λ b. exactly s b) bs j ≡ signature s bs j) → (r : Read) → (r then read_each (λ b. exactly s b) bs) ≡ (r then signature s bs)
    go rest (here j) = rest j
    go rest (refused n p) = refl

-- what `try_fold` answers
pub folds_reads : {S A B F : Type 0} {steps : S → Option A → S → Type 0} {v : A → B} {f : F} {P : Type 0} {Q : A → Type 0}
    {o : Option A} {s t u : S} {q : F} {a : ℕ} {r : Result ℕ ChunkFault} {all : List B} (h : B → ℕ → Read) (R : F × ℕ → A → F × ℕ → Type 0) (xs : List A) (i : ℕ)
    → YieldsList steps v s all → Yields steps s xs t → steps t o u → FoldsTo R (f, i) xs (q, a) → MatchOption o P Q
    → (P → r ≡ Ok a) → ((x : A) → Q x → q ≡ f → (y : ChunkFault) × (r ≡ Err y) × (h (v x) a ≡ read_of (Err y)))
    → ((i : ℕ) (x : A) (q : F × ℕ) → R (f, i) x q → (q.0 ≡ f) × (here q.1 ≡ h (v x) i))
    → read_of r ≡ read_each h all i
folds_reads {steps = steps} {v = v} {f = f} {P = P} {Q = Q} {o = o} {s = s} {t = t} {u = u} {q = q} {a = a} {r = r} {all = all} h R xs i y at next turns last ends stops turn =
    folded steps v R f h turn r q a P Q ends stops xs o s t u i all y.runs at next turns last
