-- `uses::uses_verdict`: the first fault of a run over the words. Assumes nothing.
use Prim.Native.Nat.{ℕ}
use mathlib.Core.Path.{refl, sym, ap, ◌∙◌}
use lib.ListN.{length}
use Rattle.std.proofs.Common.{rules}
use Rattle.lua51_lifter.specs.Check.{use_verdict, first_refusal}
use Rattle.lua51_lifter.specs.Verdict.{verdict_of}
use Rattle.lua51_lifter.proofs.FirstFault.{first_of_run, found_of_run}
use Rattle.lua51_uses.proofs.uses.uses_verdict.Goals as goal

pub returns-clause-result_value : goal.returns-clause-result_value
returns-clause-result_value c = λ p h.
    first_of_run verdict_of refl c.try_for_each.ensures.ran (λ y w. refl) (use_verdict p) (λ i a q l k. (search rules, search rules))
    ∙ ap (λ (n : ℕ). first_refusal (use_verdict p) 0 n) (sym (ap length h.words))

pub returns-clause-anyway : goal.returns-clause-anyway
returns-clause-anyway c = found_of_run verdict_of refl c.try_for_each.ensures.ran 12 14 (λ i a q l k. (search rules, search rules))
