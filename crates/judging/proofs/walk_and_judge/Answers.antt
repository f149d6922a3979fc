-- `walk_and_judge`: a chunk that was not read whole is refused where its reading ended; the others by their functions, whose words
-- are put back by the inverse of the table. Assumes nothing.
use mathlib.Core.Path.{◌≡◌, ap, ◌∙◌}
use lib.ListN.{length}
use Rattle.house_table.specs.House.{opcode_count}
use Rattle.lua51_deserializer.specs.Chunk.{Walk}
use Rattle.judging.proofs.Judging.{judge_refused, judged_by}
use Rattle.std.proofs.Common.{rules}
use Rattle.std.proofs.lemmas.Result.{err_from_is_err_and}
use Rattle.judging.proofs.walk_and_judge.Goals as goal

pub returns-in_err-_end : goal.returns-in_err-_end
returns-in_err-_end c =
    let p = err_from_is_err_and c.from_residual.result c.from_residual.ensures.1 in
    rw (p.1, p.2) (record {
      answer = judge_refused _ _ _ _ c.in_err-_end.ensures;
      places = ap (λ (w : Walk). w.places) c.in_err-_end.ensures;
    })

pub returns : goal.returns
returns c =
    -- the table has a number for each opcode
    let long : length c.args.table ≡ opcode_count = search rules in
    record {
      answer = c.judge_functions.ensures ∙ judged_by _ _ _ c.inverse_of.ensures long;
      places = ap (λ (w : Walk). w.places) c.in_ok-_end.ensures;
    }
