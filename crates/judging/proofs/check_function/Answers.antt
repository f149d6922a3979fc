-- `check_function`: the room holds the function whole, and so what is checked is the definition's function. Assumes nothing.
use Prim.Native.Nat.{◌+◌, ◌≤◌}
use mathlib.Core.Path.{◌≡◌}
use native.Mathlib.Omega.{arith}
use lib.ListN.{length}
use lib.Seq.{length-take-le}
use Rattle.house_table.specs.House.{word_by}
use Rattle.lua51_deserializer.specs.Chunk.{walk, proto_at, most_functions}
use Rattle.lua51_function.proofs.WholeFunction.{reworded_size}
use Rattle.judging.proofs.Judging.{holds_function, stands_function}
use Rattle.std.proofs.Common.{rules}
use Rattle.judging.proofs.check_function.Goals as goal

pub whole_as_front-check : goal.whole_as_front-check
whole_as_front-check g c =
    let q = c.requires in
    let loads = c.function_at-loaded.ensures.loads in
    let h = holds_function q.whole q.f_lt_count q.fits (search rules) (search rules) (search rules) (search rules) loads in
    (omega (arith, h.words, q.fits.marks), omega arith)

pub returns : goal.returns
returns g c =
    let a = c.args in
    let q = c.requires in
    let loads = c.function_at-loaded.ensures.loads in
    let marks = c.function_at-loaded.result.words + 1 in
    let r = a.room.now in
    let lw : length r.words ≡ g.row.WORDS = search rules in
    let lk : length r.kinds ≡ g.row.CONSTANTS = search rules in
    let ln : length r.nested ≡ most_functions = search rules in
    let lu : length r.nups ≡ most_functions = search rules in
    let h = holds_function q.whole q.f_lt_count q.fits lw lk ln lu loads in
    let size = reworded_size (word_by a.inverse.now) (proto_at a.chunk.bytes.now (walk a.chunk.bytes.now).places a.f) in
    let leaders : marks ≤ length r.leaders = search rules in
    let targets : marks ≤ length r.targets = search rules in
    c.check.ensures.result_value _ (stands_function q.whole q.f_lt_count q.fits lw lk ln lu loads) h.lines
    (omega (arith, size, length-take-le marks r.leaders leaders, h.words))
    (omega (arith, size, length-take-le marks r.targets targets, h.words))
