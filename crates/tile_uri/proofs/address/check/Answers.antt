use Rattle.std.proofs.Common.{rules, ◌≡◌, ◌<◌, ◌≤◌, true, false, length, sym}
use Rattle.url.specs.Parts.{serialize}
use Rattle.tile_uri.specs.declared.address.TheConstants.{ADDRESS_LIMIT}
use Rattle.tile_uri.proofs.Spaces.{has_space, checked_space, checked_long, checked_short}
use Rattle.tile_uri.proofs.address.check.Goals as goal

pub returns-then-contains-clause-value : goal.returns-then-contains-clause-value
returns-then-contains-clause-value c =
    let url = c.args.url.now in
    let some : has_space (serialize url) ≡ true = search rules in
    sym (checked_space url c.as_str-text.ensures.valid some)

pub returns-then-text-gt-ADDRESS_LIMIT-clause-value
    : goal.returns-then-text-gt-ADDRESS_LIMIT-clause-value
returns-then-text-gt-ADDRESS_LIMIT-clause-value c =
    let url = c.args.url.now in
    let none : has_space (serialize url) ≡ false = search rules in
    let long : ADDRESS_LIMIT < length (serialize url) = search rules in
    sym (checked_long url c.as_str-text.ensures.valid none long)

pub returns-clause-value : goal.returns-clause-value
returns-clause-value c =
    let url = c.args.url.now in
    let none : has_space (serialize url) ≡ false = search rules in
    let short : length (serialize url) ≤ ADDRESS_LIMIT = search rules in
    sym (checked_short url c.as_str-text.ensures.valid none short)
