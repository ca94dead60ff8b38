use Rattle.std.proofs.Common.{◌≡◌, ◌++◌, ◌∷◌, [], Some, false, length, ◌∙◌, ap, sym}
use Rattle.std.specs.Prelude.{bytes_eq, if◌then◌else◌, position}
use Rattle.std.specs.List.{list_any}
use Rattle.view_notes.proofs.Numbering.{found_is, new_is}
use Rattle.view_notes.proofs.names.number_for.Goals as goal

pub returns-in-Some-clause-number : goal.returns-in-Some-clause-number
returns-in-Some-clause-number c =
    let old = c.args.addresses.now.keys in
    let found : position (bytes_eq c.args.address.now) old ≡ Some c.in-Some.place =
    sym c.in-Some.ensures.index in
    rw c.in_ok-number_of.ensures (found_is c.args.address.now old c.in-Some.place found).0

pub returns-in-Some-clause-address : goal.returns-in-Some-clause-address
returns-in-Some-clause-address c =
    let old = c.args.addresses.now.keys in
    let found : position (bytes_eq c.args.address.now) old ≡ Some c.in-Some.place =
    sym c.in-Some.ensures.index in
    rw c.in_ok-number_of.ensures (found_is c.args.address.now old c.in-Some.place found).1

pub returns-clause-number : goal.returns-clause-number
returns-clause-number c =
    let a = c.args.address.now in
    let old = c.args.addresses.now.keys in
    let none : list_any (bytes_eq a) old ≡ false = sym c.in_default.ensures.found in
    let keys : c.insert.new.self.keys ≡ old ++ a ∷ [] =
    c.in_ok-insert.ensures.keys
    ∙ ap (λ t. if list_any (bytes_eq t) old then old else old ++ t ∷ []) c.in_ok-copy.ensures.value
    ∙ ap (λ b. if b then old else old ++ a ∷ []) none in
    let place : c.in_ok-place.place ≡ length old = c.in_ok-place.ensures ∙ c.len.ensures.len in
    rw (keys, place) (new_is a old none).0
