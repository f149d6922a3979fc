-- `value::constant_at`: one law for each kind. Assumes nothing.
use Prim.Native.Nat.{◌+◌, ◌<◌, ◌^◌}
use native.Mathlib.Omega.{arith}
use Rattle.std.proofs.Common.{rules}
use mathlib.Core.Path.{◌≡◌, ◌∙◌, sym}
use Rattle.lua51_value.specs.Bytes.{byte_at, int_at}
use Rattle.lua51_value.specs.Constant.{pattern_at}
use Rattle.lua51_value.proofs.Ends.{byte_within, int_within, pattern_within}
use Rattle.lua51_value.proofs.Constants.{reads_nil, reads_boolean, reads_number, reads_string}
use Rattle.lua51_value.proofs.value.constant_at.Goals as goal

pub returns-in-0 : goal.returns-in-0
returns-in-0 c = reads_nil c.args.s.now c.args.at (sym c.at_or-kind.ensures ∙ c.in-0.is)

pub returns-in-1 : goal.returns-in-1
returns-in-1 c =
    let a = c.args in
    let b : c.at_or.result ≡ byte_at a.s.now (a.at + 1) =
    rw c.place_after-content.ensures at c.at_or.ensures ∙ byte_within a.s.now (a.at + 1) in
    rw b (reads_boolean a.s.now a.at (sym c.at_or-kind.ensures ∙ c.in-1.is))

pub returns-in-3 : goal.returns-in-3
returns-in-3 c =
    let a = c.args in
    let p : c.pattern_at.result ≡ pattern_at a.s.now (a.at + 1) =
    rw c.place_after-content.ensures at c.pattern_at.ensures
    ∙ pattern_within a.s.now (a.at + 1) in
    let small : pattern_at a.s.now (a.at + 1) < 2 ^ 64 = omega arith in
    rw (c.number.ensures, p)
    (reads_number a.s.now a.at (sym c.at_or-kind.ensures ∙ c.in-3.is) small)

pub returns-in_default : goal.returns-in_default
returns-in_default c =
    let a = c.args in
    let size : c.int_at.result ≡ int_at a.s.now (a.at + 1) =
    rw c.place_after-content.ensures at c.int_at.ensures ∙ int_within a.s.now (a.at + 1) in
    rw (c.saturating_sub.ensures, size, c.place_after.ensures)
    (reads_string a.s.now a.at
    (λ e. search rules)
    (λ e. search rules)
    (λ e. search rules))
