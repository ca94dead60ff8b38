use Rattle.std.proofs.Common.{rules, ◌≡◌, ◌++◌, true, string_bytes, ap, sym, ◌∙◌, subst}
use Rattle.std.specs.Prelude.{IfSome, option_map}
use Rattle.tile_uri.specs.Addresses.{Answers, join}
use Rattle.tile_uri.specs.Bases.{IsFolder}
use Rattle.tile_uri.specs.PlainPaths.{is_plain_path}
use Rattle.tile_uri.proofs.PlainBelow.{IsBelow, below}
use Rattle.tile_uri.proofs.base.Base.resolve.Goals as goal

pub address_below-requires-clause-address : goal.address_below-requires-clause-address
address_below-requires-clause-address c =
    let url = c.self.inside.url in
    let text = c.args.written.now in
    let folder : IsFolder url (string_bytes c.in-Some.folder) =
    subst (λ o. IfSome (option_map string_bytes o) (IsFolder url)) c.in-Some.is
    c.self.invariant.ready in
    let plain : is_plain_path text ≡ true = search rules in
    let is : IsBelow url text (c.as_str.result.now ++ text) =
    below url (option_map string_bytes c.self.inside.folder) (string_bytes c.in-Some.folder) text
    (c.as_str.result.now ++ text) c.self.invariant folder plain
    (ap (λ f. f ++ text) c.as_str.ensures.value) in
    is.address

pub returns : goal.returns
returns c =
    let url = c.self.inside.url in
    let text = c.args.written.now in
    let folder : IsFolder url (string_bytes c.in-Some.folder) =
    subst (λ o. IfSome (option_map string_bytes o) (IsFolder url)) c.in-Some.is
    c.self.invariant.ready in
    let plain : is_plain_path text ≡ true = search rules in
    let is : IsBelow url text (c.as_str.result.now ++ text) =
    below url (option_map string_bytes c.self.inside.folder) (string_bytes c.in-Some.folder) text
    (c.as_str.result.now ++ text) c.self.invariant folder plain
    (ap (λ f. f ++ text) c.as_str.ensures.value) in
    subst (Answers c.address_below.result) (sym is.joined ∙ ap (λ t. join t text) c.self.view_is)
    c.address_below.ensures
