-- What the marks of leaders say at a word. Assumes nothing.
use Prim.Native.Nat.{ℕ, ◌+◌, ◌<◌}
use native.Mathlib.Omega.{arith}
use mathlib.Core.Bool.{Bool, true, false}
use mathlib.Core.List.{List}
use mathlib.Core.Path.{◌≡◌, refl}
use lib.Dec.{eqb}
use lib.ListN.{length, get_or}
use Rattle.lua51_instruction.specs.Proto.{Proto, size}
use Rattle.cfg.specs.Graph.{leader}
use Rattle.cfg.specs.Arrays.{bit, mark, leaders}
use Rattle.basics.proofs.Tables.{table_at, table_length}

bit_seen : (b : Bool) → eqb (bit b) 1 ≡ b
bit_seen true = refl
bit_seen false = refl

module _ (p : Proto) (a : List ℕ) (e : a ≡ leaders p) where
  pub marks_length : length a ≡ size p + 1
  marks_length = rw e (table_length (mark p) (size p + 1))

  -- a mark inside says whether a range starts there
  pub mark_leads : (j : ℕ) → j < length a → eqb (get_or a j 0) 1 ≡ leader p j
  mark_leads j lt =
      let at : get_or a j 0 ≡ mark p j = rw e (table_at (mark p) (size p + 1) j (omega (arith, marks_length))) in
      rw at (bit_seen (leader p j))
