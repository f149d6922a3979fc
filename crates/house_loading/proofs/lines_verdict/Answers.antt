-- `lines_verdict`: the first fault of a run over the lines. Assumes nothing.
use mathlib.Core.Path.{refl}
use Rattle.std.proofs.Common.{rules}
use Rattle.lua51_lifter.proofs.FirstFault.{first_of_run}
use Rattle.house_loading.specs.Loading.{form_verdict}
use Rattle.house_loading.specs.TableVerdict.{table_verdict_of}
use Rattle.house_loading.proofs.lines_verdict.Goals as goal

pub returns : goal.returns
returns c =
    first_of_run table_verdict_of refl c.try_for_each.ensures.ran (λ y w. refl) (form_verdict c.args.s.now)
    (λ i a q l k. (search rules, search rules))
