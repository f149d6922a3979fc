-- `put_text`: its kind, its length, its bytes, between two places that are cut off at the chunk's end. Assumes nothing.
use Rattle.lua51_constants.proofs.ConstantLines.{text_order, text_inside, text_printed}
use Rattle.lua51_constants.proofs.put_text.Goals as goal

pub overflow_sub-past : goal.overflow_sub-past
overflow_sub-past c =
    let a = c.args in
    text_order a.s.now a.from a.len c.place_after-first.ensures c.place_after-past.ensures

pub slice_bounds-put_numbers-start : goal.slice_bounds-put_numbers-start
slice_bounds-put_numbers-start c =
    let a = c.args in
    text_order a.s.now a.from a.len c.place_after-first.ensures c.place_after-past.ensures

pub slice_bounds-put_numbers-end : goal.slice_bounds-put_numbers-end
slice_bounds-put_numbers-end c =
    let a = c.args in
    text_inside a.s.now a.from a.len c.place_after-first.ensures c.place_after-past.ensures

pub slice_bounds-put_numbers-count : goal.slice_bounds-put_numbers-count
slice_bounds-put_numbers-count c =
    let a = c.args in
    text_order a.s.now a.from a.len c.place_after-first.ensures c.place_after-past.ensures

pub returns : goal.returns
returns c =
    let a = c.args in
    text_printed a.s.now a.from a.len c.place_after-first.ensures c.place_after-past.ensures
    c.put_number.ensures c.put_number-2.ensures c.put_numbers.ensures
