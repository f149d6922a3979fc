-- `elements::elements` meets its contract. Assumes nothing.
use Rattle.std.proofs.Common.{◌∙◌, ◌≡◌, refl, ap, sym, Err, rules}
use Rattle.lua51_deserializer.specs.Cursor.{read_of}
use native.Mathlib.Nat.{sub-zero}
use Rattle.std.proofs.lemmas.Result.{err_from_is_err_and}
use Rattle.std.proofs.lemmas.Iterator.{YieldsList-from_range}
use Rattle.std.proofs.lemmas.List.FromFn.{length-range_with_len}
use Rattle.std.specs.List.{range_with_len}
use Rattle.lua51_deserializer.proofs.ReadsInTurn.{folds_reads, reads_again}
use Rattle.lua51_deserializer.proofs.elements.elements.Goals as goal

pub returns : goal.returns
returns g c =
    let a = c.args in
    let reads = g.E.Element.reads a.s.now in
    let ran = c.try_fold.ensures.ran in
    folds_reads (λ _. reads) _ _ _ (YieldsList-from_range 0 a.n a.n refl (sub-zero a.n)) ran.4.1 ran.4.2 ran.5 ran.6 (λ e. e)
    (λ x k same.
    let (z, d, m) = err_from_is_err_and c.try_fold.result k.5.1 in
    let called = rw same at k.3 in
    let read : read_of k.0 ≡ reads ran.3 = search rules in
    (z, d, sym read ∙ ap read_of (k.4 ∙ ap Err (sym m)))) (λ i x q k.
    let read : read_of k.0 ≡ reads i = search rules in
    (search rules, sym (ap read_of k.2) ∙ read))
    ∙ reads_again reads (range_with_len 0 a.n) a.at ∙ rw (length-range_with_len 0 a.n) refl
