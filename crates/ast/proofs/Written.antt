-- Laws of what writers of a run leave: how they are composed, and loops of them. Assumes nothing.
use Prim.Native.Nat.{ℕ}
use mathlib.Core.Path.{◌≡◌, refl, sym, ap, ◌∙◌}
use mathlib.Core.List.{List, [], ◌++◌}
use lib.ListN.{length, take}
use Rattle.ast.specs.Buffer.{Buffer, buffer, adds}
use Rattle.ast.specs.Written.{Adds, Wrote}
use Rattle.ast.specs.declared.Run.{Run}
use Rattle.ast.proofs.Adds.{run_held, wrote, adds_then, adds_none, adds_append}

-- one writer after another
pub then : {o m n : Run} {xs ys : List ℕ} → Adds o m xs → Adds m n ys → Adds o n (xs ++ ys)
then {o} {m} {n} {xs} {ys} a b = record {
  same = b.same ∙ a.same;
  added = adds_then (buffer o.numbers.now o.used) xs ys a.added b.added;
}

-- what a writer wrote
pub some : {o n : Run} {xs : List ℕ} → Adds o n xs → Wrote o n
some {o} {n} {xs} a = record { same = a.same; written = wrote (buffer o.numbers.now o.used) xs a.added }

-- what is in a buffer after a run from its start
pub held : {o n : Run} {l xs : List ℕ} → buffer o.numbers.now o.used ≡ buffer l 0 → Adds o n xs → take n.used n.numbers.now ≡ take (length l) xs
held {o} {n} {l} {xs} e a = run_held l xs (a.added ∙ ap (λ (b : Buffer). adds b xs) e)

-- a loop that writes xs to the run o came to n, and has ys to write
pub record Left (o n : Run) (xs ys : List ℕ) : Type 0 where
  pub same : n.numbers.ghost_name ≡ o.numbers.ghost_name
  pub left : adds (buffer o.numbers.now o.used) xs ≡ adds (buffer n.numbers.now n.used) ys

-- its start, one turn, and its end
pub begun : (o : Run) (xs : List ℕ) → Left o o xs xs
begun o xs = record { same = refl; left = refl }

pub turned : {o m n : Run} {xs ys zs rest : List ℕ} → Left o m xs ys → Adds m n zs → ys ≡ zs ++ rest → Left o n xs rest
turned {o} {m} {n} {xs} {ys} {zs} {rest} l a e = record {
  same = a.same ∙ l.same;
  left = l.left ∙ (ap (λ (r : List ℕ). adds (buffer m.numbers.now m.used) r) e ∙ (adds_append (buffer m.numbers.now m.used) zs rest ∙ ap (λ (b : Buffer). adds b rest) (sym a.added)));
}

pub done : {o n : Run} {xs ys : List ℕ} → Left o n xs ys → ys ≡ [] → Adds o n xs
done {o} {n} {xs} {ys} l e = record {
  same = l.same;
  added = sym (l.left ∙ (ap (λ (r : List ℕ). adds (buffer n.numbers.now n.used) r) e ∙ adds_none (buffer n.numbers.now n.used)));
}

-- its end, where something is written behind it
pub last : {o m n : Run} {xs ys : List ℕ} → Left o m xs ys → {zs : List ℕ} → Adds m n zs → ys ≡ zs → Adds o n xs
last {o} {m} {n} {xs} {ys} l {zs} a e = record {
  same = a.same ∙ l.same;
  added = a.added ∙ sym (l.left ∙ ap (λ (r : List ℕ). adds (buffer m.numbers.now m.used) r) e);
}
