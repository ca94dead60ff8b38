use Rattle.std.proofs.Common.{rules, ◌≡◌, ◌++◌, true, drop, length, drop_at, string_bytes, ap, sym, ◌∙◌, subst, refl}
use Rattle.std.specs.Prelude.{IfSome, option_map}
use Rattle.tile_uri.specs.Addresses.{join, within_limit}
use Rattle.tile_uri.specs.Bases.{IsFolder}
use Rattle.tile_uri.specs.PlainPaths.{is_plain_path}
use Rattle.tile_uri.specs.Templates.{fill}
use Rattle.tile_uri.proofs.CheckedTexts.{answers}
use Rattle.tile_uri.proofs.PlainBelow.{IsBelow, below}
use Rattle.tile_uri.proofs.base.Base.resolve_filled.Goals as goal

pub address_of_path-requires : goal.address_of_path-requires
address_of_path-requires c =
    let url = c.self.inside.url in
    let text = fill c.args.template.now c.args.level c.args.x c.args.y c.args.z in
    let kept = string_bytes c.in-Some.folder in
    let folder : IsFolder url kept =
    subst (λ o. IfSome (option_map string_bytes o) (IsFolder url)) c.in-Some.is
    c.self.invariant.ready in
    let whole : c.in-Ok.whole ≡ kept ++ text = search rules in
    let shown : is_plain_path (drop (length c.as_str-folder.result.now) c.as_bytes.result.now)
    ≡ true =
    sym c.is_plain_path_from.ensures ∙ c.if-is_plain_path_from.true in
    let plain : is_plain_path (drop (length kept) (kept ++ text)) ≡ true =
    subst (λ t. is_plain_path t ≡ true)
    (λ i. drop (length (c.as_str-folder.ensures.value i)) ((c.as_bytes.ensures.value ∙ c.as_str.ensures.value ∙ whole) i))
    shown in
    let is : IsBelow url text (c.in-Ok.whole) =
    below url (option_map string_bytes c.self.inside.folder) kept text (c.in-Ok.whole)
    c.self.invariant folder
    (subst (λ t. is_plain_path t ≡ true) (drop_at kept text (length kept) refl) plain) whole in
    is.address

pub returns-then-is_plain_path_from : goal.returns-then-is_plain_path_from
returns-then-is_plain_path_from c =
    let url = c.self.inside.url in
    let text = fill c.args.template.now c.args.level c.args.x c.args.y c.args.z in
    let kept = string_bytes c.in-Some.folder in
    let folder : IsFolder url kept =
    subst (λ o. IfSome (option_map string_bytes o) (IsFolder url)) c.in-Some.is
    c.self.invariant.ready in
    let whole : c.in-Ok.whole ≡ kept ++ text = search rules in
    let shown : is_plain_path (drop (length c.as_str-folder.result.now) c.as_bytes.result.now)
    ≡ true =
    sym c.is_plain_path_from.ensures ∙ c.if-is_plain_path_from.true in
    let plain : is_plain_path (drop (length kept) (kept ++ text)) ≡ true =
    subst (λ t. is_plain_path t ≡ true)
    (λ i. drop (length (c.as_str-folder.ensures.value i)) ((c.as_bytes.ensures.value ∙ c.as_str.ensures.value ∙ whole) i))
    shown in
    let is : IsBelow url text (c.in-Ok.whole) =
    below url (option_map string_bytes c.self.inside.folder) kept text (c.in-Ok.whole)
    c.self.invariant folder
    (subst (λ t. is_plain_path t ≡ true) (drop_at kept text (length kept) refl) plain) whole in
    let expected : within_limit (c.in-Ok.whole) ≡ join c.args.self.now text =
    sym is.joined ∙ ap (λ t. join t text) c.self.view_is in
    answers c.address_of_path.result (join c.args.self.now text)
    (c.address_of_path.ensures ∙ expected)
