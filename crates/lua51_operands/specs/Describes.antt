-- The function that is judged.
use Rattle.lua51_instruction.specs.Proto.{Proto}
use Rattle.lua51_function.specs.Function.{Stands}
use Rattle.lua51_operands.specs.declared.subject.Subject.{Subject}

-- p is the function that is described, but for its word lines
abbrev pub Describes : Proto → Subject → Type 0
Describes p s = Stands p s.head s.words.now s.kinds.now s.nested.now s.nups.now
