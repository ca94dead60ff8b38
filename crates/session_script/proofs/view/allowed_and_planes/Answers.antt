use Rattle.std.proofs.Common.{arith, ◌≡◌, ◌∙◌, [], ◌∷◌, map, ap, sym}
use Rattle.std.specs.Fmt.{decimal}
use Rattle.session_script.specs.Ascii.{colon, parts_at}
use Rattle.session_script.specs.ViewTexts.{text_of_plane}
use Rattle.session_script.proofs.Fields.{allowed_parts}
use Rattle.session_script.proofs.Parts.{joined}
use Rattle.session_script.proofs.PlanesRead.{none_left, parted}
use Rattle.session_script.proofs.view.allowed_and_planes.Goals as goal

pub returns-in_err-allowed-clause-spelled : goal.returns-in_err-allowed-clause-spelled
returns-in_err-allowed-clause-spelled c =
    λ allowed planes small few fits e.
    let parts = parted c.args.text.now c.first_part.result.0.now c.first_part.result.1
    c.first_part.ensures in
    let same = allowed_parts c.args.text.now allowed planes small fits e in
    let first : c.first_part.result.0.now ≡ decimal allowed = cc (parts.1, same) in
    let none = c.in_err-allowed.ensures.spelled allowed small first in
    absurd (cc)

pub returns-in_err-read_planes-in-Some-clause-spelled :
    goal.returns-in_err-read_planes-in-Some-clause-spelled
returns-in_err-read_planes-in-Some-clause-spelled c =
    λ allowed planes small few fits e.
    let parts : parts_at colon c.args.text.now
    ≡ c.first_part.result.0.now ∷ parts_at colon c.in-Some.more.now =
    rw c.in-Some.is at c.first_part.ensures in
    let same = allowed_parts c.args.text.now allowed planes small fits e in
    let rest : parts_at colon c.in-Some.more.now ≡ map text_of_plane planes = cc (parts, same) in
    absurd (c.in_err-read_planes-in-Some.ensures.spelled planes few fits rest)

pub returns-in_ok-read_planes-in-Some-clause-found :
    goal.returns-in_ok-read_planes-in-Some-clause-found
returns-in_ok-read_planes-in-Some-clause-found c =
    let parts : parts_at colon c.args.text.now
    ≡ c.first_part.result.0.now ∷ parts_at colon c.in-Some.more.now =
    rw c.in-Some.is at c.first_part.ensures in
    let read = c.in_ok-read_planes-in-Some.ensures.found in
    let allowed = c.in_ok-allowed.ensures.found in (
      read.0,
      joined colon c.args.text.now _
          (parts ∙ (ap (λ t. t ∷ parts_at colon c.in-Some.more.now) allowed
          ∙ ap (λ ts. decimal c.in_ok-allowed.allowed ∷ ts) read.1)),
    )

pub returns-in_ok-read_planes-in-Some-clause-spelled :
    goal.returns-in_ok-read_planes-in-Some-clause-spelled
returns-in_ok-read_planes-in-Some-clause-spelled c =
    λ allowed planes small few fits e.
    let parts : parts_at colon c.args.text.now
    ≡ c.first_part.result.0.now ∷ parts_at colon c.in-Some.more.now =
    rw c.in-Some.is at c.first_part.ensures in
    let same = allowed_parts c.args.text.now allowed planes small fits e in
    let first : c.first_part.result.0.now ≡ decimal allowed = cc (parts, same) in
    let rest : parts_at colon c.in-Some.more.now ≡ map text_of_plane planes = cc (parts, same) in
    let number = c.in_ok-allowed.ensures.spelled allowed small first in
    let is : c.in_ok-allowed.allowed ≡ allowed = cc in
    (is, c.in_ok-read_planes-in-Some.ensures.spelled planes few fits rest)

pub returns-in-None-clause-found : goal.returns-in-None-clause-found
returns-in-None-clause-found c =
    let parts : parts_at colon c.args.text.now ≡ c.first_part.result.0.now ∷ [] =
    rw c.in-None.is at c.first_part.ensures in (
      omega arith,
      joined colon c.args.text.now (c.first_part.result.0.now ∷ []) parts
          ∙ c.in_ok-allowed.ensures.found,
    )

pub returns-in-None-clause-spelled : goal.returns-in-None-clause-spelled
returns-in-None-clause-spelled c =
    λ allowed planes small few fits e.
    let parts : parts_at colon c.args.text.now ≡ c.first_part.result.0.now ∷ [] =
    rw c.in-None.is at c.first_part.ensures in
    let same = allowed_parts c.args.text.now allowed planes small fits e in
    let first : c.first_part.result.0.now ≡ decimal allowed = cc (parts, same) in
    let rest : [] ≡ map text_of_plane planes = cc (parts, same) in
    let number = c.in_ok-allowed.ensures.spelled allowed small first in
    let is : c.in_ok-allowed.allowed ≡ allowed = cc in
    (is, sym (none_left planes rest))
