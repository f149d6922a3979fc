-- `chunk::signature` meets its contract. Assumes nothing.
use Rattle.std.proofs.Common.{◌≡◌, ◌∙◌, ap, sym, Err, rules}
use Rattle.std.proofs.lemmas.Result.{err_from_is_err_and}
use Rattle.std.proofs.lemmas.Iterator.{YieldsList-from_slice}
use Rattle.lua51_deserializer.specs.Chunk.{exactly, header}
use Rattle.lua51_deserializer.specs.Cursor.{read_of}
use Rattle.lua51_deserializer.proofs.ReadsInTurn.{folds_reads, reads_signature}
use Rattle.lua51_deserializer.proofs.chunk.signature.Goals as goal

pub returns : goal.returns
returns c =
    let s = c.args.s.now in
    let ran = c.try_fold.ensures.ran in
    folds_reads (λ b. exactly s b) _ _ _ (YieldsList-from_slice header c.iter.ensures.rest) ran.4.1 ran.4.2 ran.5 ran.6 (λ e. e)
    (λ x k same.
    let (z, d, m) = err_from_is_err_and c.try_fold.result k.5.1 in
    let called = rw same at k.3 in
    let read : read_of k.0 ≡ exactly s x.now ran.3 = search rules in
    (z, d, sym read ∙ ap read_of (k.4 ∙ ap Err (sym m)))) (λ i x q k.
    let read : read_of k.0 ≡ exactly s x.now i = search rules in
    (search rules, sym (ap read_of k.2) ∙ read))
    ∙ reads_signature s header 0
