use Rattle.std.proofs.Common.{◌≡◌, ◌≤◌, true, subst}
use Rattle.frame_pins.specs.declared.why.Why.TheVariants.{FramesFull}
use Rattle.engine_state.specs.declared.limits.TheConstants.{FRAME_LIMIT}
use Rattle.engine_state.specs.Allowed.{may_refuse}
use Rattle.engine_state.specs.Journal.{replay}
use Rattle.engine_core.proofs.FullFrames.{frames_full, noted_full}
use Rattle.engine_core.proofs.parts.Parts.show.Goals as goal

pub add_refused-requires-clause-may : goal.add_refused-requires-clause-may
add_refused-requires-clause-may c =
    frames_full c.reserve_frame.new.self c.args.view c.held_frames_are_numbered.ensures
    c.reserve_frame.ensures.lives
    (subst (λ n. FRAME_LIMIT ≤ n) c.len.ensures c.if-len-ge-FRAME_LIMIT.true)

pub returns-then-len-ge-FRAME_LIMIT-clause-refused :
    goal.returns-then-len-ge-FRAME_LIMIT-clause-refused
returns-then-len-ge-FRAME_LIMIT-clause-refused c =
    let p = c.reserve_frame.new.self in
    let same = c.reserve_frame.ensures.same.entries in
    let may : may_refuse (replay p.entries.items) c.args.view FramesFull ≡ true =
    frames_full p c.args.view c.held_frames_are_numbered.ensures c.reserve_frame.ensures.lives
    (subst (λ n. FRAME_LIMIT ≤ n) c.len.ensures c.if-len-ge-FRAME_LIMIT.true) in (
      subst (λ es. may_refuse (replay es) c.args.view FramesFull ≡ true) same may,
      noted_full _ _ _ c.args.pass c.args.viewer _ c.args.view c.args.settled
          c.add_refused.ensures.journal same c.in_ok-noted.ensures,
    )
