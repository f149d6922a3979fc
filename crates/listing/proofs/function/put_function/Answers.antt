-- `put_function`: in short or long room, by the inverse of the table. Assumes nothing.
use Rattle.listing.proofs.Loading.{lists_by, words_most}
use mathlib.Core.Path.{◌≡◌}
use lib.ListN.{length}
use Rattle.house_table.specs.House.{opcode_count}
use native.Mathlib.Omega.{arith}
use Rattle.std.proofs.Common.{rules}
use Rattle.listing.proofs.function.put_function.Goals as goal

pub returns-then-word_count-le-FEW_WORDS : goal.returns-then-word_count-le-FEW_WORDS
returns-then-word_count-le-FEW_WORDS c =
    -- the table has a number for each opcode
    let long : length c.args.table ≡ opcode_count = search rules in
    lists_by _ _ c.inverse_of-inverse.ensures long c.put_with.ensures

pub returns : goal.returns
returns c =
    let long : length c.args.table ≡ opcode_count = search rules in
    lists_by _ _ c.inverse_of-inverse.ensures long c.put_with-2.ensures

pub put_with-requires-2-clause-words : goal.put_with-requires-2-clause-words
put_with-requires-2-clause-words c =
    let a = c.args in
    λ end walked below. words_most a.chunk.bytes.now a.chunk.functions.now a.f end walked below

pub put_with-requires-clause-words : goal.put_with-requires-clause-words
put_with-requires-clause-words c = λ end walked below. omega arith
