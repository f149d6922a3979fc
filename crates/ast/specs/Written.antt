-- What a writer of a run leaves: the same buffer, with more numbers in it.
use Rattle.std.specs.Prelude.{ℕ, List, ◌≡◌}
use Rattle.ast.specs.Buffer.{buffer, adds, Writes}
use Rattle.ast.specs.declared.Run.{Run}

-- a run was o and is n: the numbers of xs were written behind it, in the buffer that it stood in
pub record Adds (o n : Run) (xs : List ℕ) : Type 0 where
  pub same : n.numbers.ghost_name ≡ o.numbers.ghost_name
  pub added : buffer n.numbers.now n.used ≡ adds (buffer o.numbers.now o.used) xs

-- a run was o and is n: some numbers were written behind it, one after the other, and nothing else
pub record Wrote (o n : Run) : Type 0 where
  pub same : n.numbers.ghost_name ≡ o.numbers.ghost_name
  pub written : Writes (buffer o.numbers.now o.used) (buffer n.numbers.now n.used)
