-- `check::lines_verdict`: the first fault of a run over the lines of words. Assumes nothing.
use mathlib.Core.Path.{refl}
use Rattle.std.proofs.Common.{rules}
use Rattle.lua51_lifter.specs.Check.{line_verdict}
use Rattle.lua51_lifter.specs.Verdict.{verdict_of}
use Rattle.lua51_lifter.proofs.FirstFault.{first_of_run, found_of_run}
use Rattle.lua51_checker.proofs.check.lines_verdict.Goals as goal

pub returns-clause-result_value : goal.returns-clause-result_value
returns-clause-result_value c = λ p h.
    first_of_run verdict_of refl c.try_for_each.ensures.ran (λ y w. refl) (line_verdict p) (λ i a q l k. (search rules, search rules))

pub returns-clause-anyway : goal.returns-clause-anyway
returns-clause-anyway c = found_of_run verdict_of refl c.try_for_each.ensures.ran 15 15 (λ i a q l k. (search rules, search rules))
