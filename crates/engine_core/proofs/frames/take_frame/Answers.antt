use Rattle.std.proofs.Common.{◌==◌, ◌∙◌, ap, sym}
use Rattle.std.specs.List.{position}
use Rattle.engine_core.proofs.Firsts.{found_first, has_first, removes_first}
use Rattle.engine_core.proofs.frames.take_frame.Goals as goal

pub unreachable-requires : goal.unreachable-requires
unreachable-requires c =
    has_first (λ frame. frame.id == c.args.id) c.args.frames.now.items c.requires
    (ap (position (λ frame. frame.id == c.args.id)) (sym c.as_slice.ensures)
    ∙ sym c.place_of.ensures ∙ c.in-None.is)

pub returns-clause-frame : goal.returns-clause-frame
returns-clause-frame c =
    found_first (λ frame. frame.id == c.args.id) c.args.frames.now.items c.in-Some.at _
    (ap (position (λ frame. frame.id == c.args.id)) (sym c.as_slice.ensures)
    ∙ sym c.place_of.ensures ∙ c.in-Some.is) c.remove.ensures.value

pub returns-clause-frames : goal.returns-clause-frames
returns-clause-frames c =
    c.remove.ensures.rest
    ∙ removes_first (λ frame. frame.id == c.args.id) c.args.frames.now.items c.in-Some.at _
    (ap (position (λ frame. frame.id == c.args.id)) (sym c.as_slice.ensures)
    ∙ sym c.place_of.ensures ∙ c.in-Some.is) c.remove.ensures.value
