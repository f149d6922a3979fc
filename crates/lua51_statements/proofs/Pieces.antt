-- Laws of printing a list piece by piece, and the statements of a word. Assumes nothing.
use Prim.Native.Nat.{ℕ, ◌+◌, ◌≤◌, ◌<◌}
use mathlib.Core.List.{List, ◌++◌, flat_map, append-nil}
use mathlib.Core.Path.{◌≡◌, sym}
use lib.ListN.{length, take, get_or, length-map, get_or-map}
use Rattle.std.proofs.lemmas.Grind.{flat_map-append}
use Rattle.basics.specs.Range.{over, only}
use Rattle.basics.proofs.Range.{over_split}
use Rattle.lines.specs.Out.{Puts}
use Rattle.lines.specs.declared.Output.{Output}
use Rattle.lines.proofs.Puts.{puts_nothing, puts_then, puts_equal, loop_start, loop_turn, loop_done}
use Rattle.ast.specs.Statement.{Stmt}
use Rattle.lua51_lifter.specs.Blocks.{Named, name, naming}

module _ {A : Type 0} (f : A → List ℕ) where
  pub pieces_one : (x : A) → flat_map f (only x) ≡ f x
  unfolding flat_map
  pieces_one x = append-nil (f x)

  pub pieces_append : (xs ys : List A) → flat_map f (xs ++ ys) ≡ flat_map f xs ++ flat_map f ys
  unfolding flat_map
  pieces_append xs ys = flat_map-append f xs ys

  -- a loop over the numbers of a range that prints f of each element that g gives: its start, and one turn
  module _ (g : ℕ → List A) where
    pub words_start : (o : Output) (i : ℕ) → Puts o o (flat_map f (over g i 0))
    unfolding over flat_map
    words_start o i = puts_nothing o

    words_more : (i n : ℕ) → flat_map f (over g i n) ++ flat_map f (g (i + n)) ≡ flat_map f (over g i (n + 1))
    unfolding over
    words_more i n = sym (rw (over_split g i n 1, append-nil, pieces_append (over g i n) (g (i + n))))

    pub words_turn : {a b c : Output} (i n : ℕ) → Puts a b (flat_map f (over g i n)) → Puts b c (flat_map f (g (i + n)))
        → Puts a c (flat_map f (over g i (n + 1)))
    words_turn i n p q = puts_equal (words_more i n) (puts_then p q)

-- a loop over statements that name word i, whose opcode is o: its start, one turn, and its end
module _ (f : Named → List ℕ) (i o : ℕ) (ss : List Stmt) where
  pub named_start : (out : Output) → Puts out out (flat_map f (take 0 (naming i o ss)))
  named_start out = loop_start f out (naming i o ss)

  pub named_turn : (d : Stmt) {a b c : Output} (k : ℕ) → Puts a b (flat_map f (take k (naming i o ss)))
      → Puts b c (f (name i o (get_or ss k d))) → k < length ss → Puts a c (flat_map f (take (k + 1) (naming i o ss)))
  unfolding naming
  named_turn d k p q h =
      loop_turn f (naming i o ss) k (name i o d) p q (rw (length-map ss (name i o)) h) (sym (get_or-map (name i o) ss k d))

  pub named_done : {a b : Output} (k : ℕ) → Puts a b (flat_map f (take k (naming i o ss))) → length ss ≤ k
      → Puts a b (flat_map f (naming i o ss))
  unfolding naming
  named_done k p h = loop_done f (naming i o ss) k p (rw (length-map ss (name i o)) h)
