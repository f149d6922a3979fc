-- `check::words_verdict`: the first fault of a run over the words. Assumes nothing.
use Prim.Native.Nat.{ℕ}
use mathlib.Core.Path.{refl, sym, ap, ◌∙◌}
use lib.ListN.{length}
use Rattle.std.proofs.Common.{rules}
use Rattle.lua51_lifter.specs.Check.{word_verdict, first_refusal}
use Rattle.lua51_lifter.specs.Verdict.{verdict_of}
use Rattle.lua51_lifter.proofs.FirstFault.{first_of_run}
use Rattle.lua51_checker.proofs.check.words_verdict.Goals as goal

pub returns : goal.returns
returns c = λ p d.
    first_of_run verdict_of refl c.try_for_each.ensures.ran (λ y w. refl) (word_verdict p) (λ i a q l k. (search rules, search rules))
    ∙ ap (λ (n : ℕ). first_refusal (word_verdict p) 0 n) (sym (ap length d.words))
