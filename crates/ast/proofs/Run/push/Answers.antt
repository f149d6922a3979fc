-- `push` meets its contract: a number is stored where the buffer has a place for it. Assumes nothing.
use mathlib.Core.Path.{refl}
use borrow.Author.Tests.{lt-ltb, le-ltb}
use Rattle.ast.specs.Buffer.{add, adds}
use Rattle.ast.proofs.Run.push.Goals as goal

pub returns-then-self : goal.returns-then-self
unfolding add adds
returns-then-self c = record { same = refl; added = rw (lt-ltb _ _ c.if-self.true) }

pub returns-else-self : goal.returns-else-self
unfolding add adds
returns-else-self c = record { same = refl; added = rw (le-ltb _ _ c.if-self.false) }
