use Rattle.std.proofs.Common.{arith, ◌+◌, ◌≡◌, ◌∙◌, ◌∷◌, [], map, take, set, append-nil}
use Rattle.std.proofs.Common.{rules}
use Rattle.std.proofs.Math.ListN.{length-set}
use Rattle.session_script.specs.Ascii.{colon, parts_at}
use Rattle.session_script.specs.ViewTexts.{text_of_plane}
use Rattle.session_script.proofs.PlanesRead.{all_read, found_more, left_more, parted, too_many}
use Rattle.session_script.proofs.PlanesRead.{unread}
use Rattle.session_script.proofs.planes.read_planes.Goals as goal

pub returns-in_err-planes-clause-spelled : goal.returns-in_err-planes-clause-spelled
returns-in_err-planes-clause-spelled c =
    let l = c.loop-index in
    let part = c.first_part.result.0.now in
    let parts = parted l.rest.now part c.first_part.result.1 c.first_part.ensures in
    λ all few fits spelled.
    absurd (unread c.args.text.now l.rest.now part parts.0 l.planes all l.index l.invariant parts.1
    c.in_err-planes.ensures few fits spelled)

pub returns-in-None-clause-found : goal.returns-in-None-clause-found
returns-in-None-clause-found c =
    let l = c.loop-index in
    let part = c.first_part.result.0.now in
    let parts : parts_at colon l.rest.now ≡ part ∷ [] = rw c.in-None.is at c.first_part.ensures in
    let found = found_more c.args.text.now l.rest.now part [] l.planes l.index
    c.in_ok-planes.field-0 l.invariant (omega (arith, l.invariant.room))
    parts c.in_ok-planes.ensures.found in (
      omega arith,
      found ∙ append-nil
          (map text_of_plane (take (l.index + 1) (set l.planes l.index c.in_ok-planes.field-0))),
    )

pub returns-in-None-clause-spelled : goal.returns-in-None-clause-spelled
returns-in-None-clause-spelled c =
    let l = c.loop-index in
    let part = c.first_part.result.0.now in
    let parts : parts_at colon l.rest.now ≡ part ∷ [] = rw c.in-None.is at c.first_part.ensures in
    λ all few fits spelled.
    all_read c.args.text.now l.rest.now part l.planes all l.index c.in_ok-planes.field-0 l.invariant
    (omega (arith, l.invariant.room)) parts c.in_ok-planes.ensures few fits spelled

pub loop-index-preserved : goal.loop-index-preserved
loop-index-preserved c =
    let l = c.loop-index in
    let part = c.first_part.result.0.now in
    let more = c.in-Some.more.now in
    let parts : parts_at colon l.rest.now ≡ part ∷ parts_at colon more =
    rw c.in-Some.is at c.first_part.ensures in
    record {
      utf8 = search rules;
      room = omega (arith, l.invariant.room, length-set l.planes l.index c.in_ok-planes.field-0);
      found = found_more c.args.text.now l.rest.now part (parts_at colon more)
          l.planes l.index c.in_ok-planes.field-0 l.invariant (omega (arith, l.invariant.room))
          parts c.in_ok-planes.ensures.found;
      spelled = λ all few fits spelled.
          left_more c.args.text.now l.rest.now part more l.planes all l.index c.in_ok-planes.field-0
          l.invariant (omega (arith, l.invariant.room))
          parts c.in_ok-planes.ensures few fits spelled;
    }

pub returns-clause-spelled : goal.returns-clause-spelled
returns-clause-spelled c =
    let l = c.loop-index in
    λ all few fits spelled.
    too_many c.args.text.now l.rest.now l.planes all l.index l.invariant
    (omega (arith, l.invariant.room)) (omega (arith, l.invariant.room)) few fits spelled
