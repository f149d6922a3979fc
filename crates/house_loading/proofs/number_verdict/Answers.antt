-- `number_verdict`: whether a number is above 37 or stands in an earlier line. Assumes nothing.
use mathlib.Core.Bool.{true, false}
use mathlib.Core.Path.{◌≡◌, sym, ◌∙◌}
use lib.ListN.{get_or, take}
use Rattle.house_loading.specs.Loading.{number_verdict, repeated}
use Rattle.lua51_lifter.specs.Check.{wrong}
use Rattle.house_loading.proofs.Bytes.{number_above, number_again, number_right, contained}
use Rattle.house_loading.proofs.number_verdict.Goals.{then-number-gt-HIGHEST_OPCODE-via-then-number-gt-HIGHEST_OPCODE, then-number-gt-HIGHEST_OPCODE-via-else-number-gt-HIGHEST_OPCODE+then-contains}
use Rattle.house_loading.proofs.number_verdict.Goals as goal

pub returns-then-number-gt-HIGHEST_OPCODE : goal.returns-then-number-gt-HIGHEST_OPCODE
returns-then-number-gt-HIGHEST_OPCODE c =
    let i = c.args.i in
    let xs = c.args.numbers.now in
    let found : number_verdict xs i ≡ wrong 35 i = elim c.then-number-gt-HIGHEST_OPCODE.branch [
      | then-number-gt-HIGHEST_OPCODE-via-then-number-gt-HIGHEST_OPCODE w ↦ number_above xs i w.if-number-gt-HIGHEST_OPCODE.true
      | then-number-gt-HIGHEST_OPCODE-via-else-number-gt-HIGHEST_OPCODE+then-contains w ↦
          let again : repeated xs i ≡ true = sym (contained (get_or xs i 0) (take i xs)) ∙ (sym w.contains.ensures.value ∙ w.if-contains.true) in
          number_again xs i w.if-number-gt-HIGHEST_OPCODE.false again
    ] in
    sym found

pub returns : goal.returns
returns c =
    let i = c.args.i in
    let xs = c.args.numbers.now in
    let once : repeated xs i ≡ false = sym (contained (get_or xs i 0) (take i xs)) ∙ (sym c.contains.ensures.value ∙ c.if-contains.false) in
    sym (number_right xs i c.if-number-gt-HIGHEST_OPCODE.false once)
