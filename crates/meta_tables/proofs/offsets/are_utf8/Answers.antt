use Rattle.std.proofs.Common.{◌≤◌, arith, rules}
use Rattle.meta_tables.proofs.Whole.{above, within, no_text, text_cuts}
use Rattle.meta_tables.proofs.offsets.are_utf8.Goals as goal

pub slice_bounds-from_utf8-count : goal.slice_bounds-from_utf8-count
slice_bounds-from_utf8-count c =
    let least = above c.args.offset_type c.args.offsets.now c.args.values.now c.args.count
    c.requires.rise c.args.count (omega arith) in
    omega (arith, least, c.offset_at-start.ensures, c.offset_at-end.ensures)

pub slice_bounds-from_utf8-start : goal.slice_bounds-from_utf8-start
slice_bounds-from_utf8-start c =
    let least = above c.args.offset_type c.args.offsets.now c.args.values.now c.args.count
    c.requires.rise c.args.count (omega arith) in
    let last = within c.args.offset_type c.args.offsets.now c.args.values.now c.args.count
    c.requires.rise in
    let rise : c.offset_at-start.result ≤ c.offset_at-end.result =
    omega (arith, least, c.offset_at-start.ensures, c.offset_at-end.ensures) in
    search (rules, rise)

pub are_boundaries-requires-clause-above : goal.are_boundaries-requires-clause-above
are_boundaries-requires-clause-above c = λ k h.
    let least = above c.args.offset_type c.args.offsets.now c.args.values.now c.args.count
    c.requires.rise k (omega arith) in
    omega (arith, least, c.offset_at-start.ensures)

pub returns-in-Ok : goal.returns-in-Ok
returns-in-Ok c =
    text_cuts c.args.offset_type c.args.offsets.now c.args.values.now c.args.count c.requires.rise
    c.offset_at-start.result c.offset_at-end.result c.offset_at-start.ensures
    c.offset_at-end.ensures c.in-Ok.text.now c.are_boundaries.result c.in-Ok.ensures.cases.0
    c.in-Ok.ensures.cases.1 c.are_boundaries.ensures

pub returns-in-Err : goal.returns-in-Err
returns-in-Err c =
    no_text c.args.offset_type c.args.offsets.now c.args.values.now c.args.count c.requires.rise
    c.offset_at-start.result c.offset_at-end.result c.offset_at-start.ensures
    c.offset_at-end.ensures c.in-Err.ensures.cases.0
