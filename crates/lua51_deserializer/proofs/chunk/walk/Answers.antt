-- `chunk::walk` meets its contract. Assumes nothing.
use Rattle.std.proofs.Common.{arith}
use Rattle.std.proofs.lemmas.Result.{err_from_is_err_and}
use Rattle.basics.specs.Range.{over}
use Rattle.lua51_deserializer.specs.Chunk.{header}
use Rattle.lua51_deserializer.specs.Walked.{places_of}
use Rattle.lua51_deserializer.proofs.Nesting.{walk_long, walk_unsigned, walk_stops, walk_whole}
use Rattle.lua51_deserializer.proofs.Bounds.{signature_bounded, read_inside}
use Rattle.lua51_deserializer.proofs.chunk.walk.Goals as goal

pub returns-then-s-gt-MOST_BYTES : goal.returns-then-s-gt-MOST_BYTES
unfolding over
returns-then-s-gt-MOST_BYTES c = walk_long c.args.s.now c.if-s-gt-MOST_BYTES.true

pub returns-in_err-main : goal.returns-in_err-main
unfolding over
returns-in_err-main c =
    let p = err_from_is_err_and c.from_residual.result c.from_residual.ensures.1 in
    rw (p.1, p.2) (walk_unsigned c.args.s.now c.if-s-gt-MOST_BYTES.false c.in_err-main.ensures)

pub function-requires : goal.function-requires
function-requires c = record {
  short = c.if-s-gt-MOST_BYTES.false;
  reached = read_inside c.args.s.now c.in_ok-main.ensures (signature_bounded c.args.s.now header 0 (omega arith));
}

pub returns-in_err-behind : goal.returns-in_err-behind
unfolding over
returns-in_err-behind c =
    let p = err_from_is_err_and c.from_residual-in_err-behind.result c.from_residual-in_err-behind.ensures.1 in
    rw (p.1, p.2) (walk_stops c.args.s.now c.if-s-gt-MOST_BYTES.false c.in_ok-main.main c.in_ok-main.ensures c.in_err-behind.ensures)

pub returns : goal.returns
unfolding over
returns c =
    walk_whole c.args.s.now c.if-s-gt-MOST_BYTES.false c.in_ok-main.main c.in_ok-main.ensures
    (places_of c.function.new.functions) c.in_ok-behind.behind _ c.in_ok-behind.ensures c.ends.ensures
