-- `run::put_piece`: by the judgement, and by how many functions are listed. Assumes nothing.
use mathlib.Core.Path.{refl, ◌∙◌}
use native.Mathlib.Omega.{arith}
use Rattle.flow_listing.proofs.Pieces.{piece_refused, piece_none, listable, piece_next, next_few}
use Rattle.flow_listing.proofs.run.put_piece.Goals as goal

pub returns-then-count-k : goal.returns-then-count-k
returns-then-count-k c =
    let p = piece_none _ _ _ c.args.k c.requires.reached _ c.in-Ok.is c.if-count-k.true in
    record { out_after = p.0; prefix_len = (omega arith, refl); after = p.1 }

pub overflow_cast-k : goal.overflow_cast-k
overflow_cast-k c = omega (arith, next_few _ _ _ c.args.k c.requires.reached _ c.in-Ok.is c.if-count-k.false)

pub put_next-requires : goal.put_next-requires
put_next-requires c = record {
  listable = listable _ _ _ c.args.k c.requires.reached _ c.in-Ok.is c.if-count-k.false;
  buffer_in_bounds = c.requires.buffer_in_bounds;
  run_numbers_in_bounds = c.requires.run_numbers_in_bounds;
}

pub returns-in-Err : goal.returns-in-Err
returns-in-Err c =
    let p = piece_refused _ _ _ c.args.k c.requires.reached _ c.in-Err.is in
    let w = c.put_line.ensures in
    record { out_after = w.out_after ∙ p.0; prefix_len = w.prefix_len; after = p.1 }

pub returns-else-count-k : goal.returns-else-count-k
returns-else-count-k c =
    let w = c.put_next.ensures in
    let p = piece_next _ _ _ c.args.k c.requires.reached _ c.in-Ok.is c.if-count-k.false c.put_next.result.last w.last_value in
    record { out_after = w.out_after ∙ rw w.last_value at p.0; prefix_len = w.prefix_len; after = p.1 }
