use Rattle.std.proofs.Common.{rules, ◌≡◌, None, Some, Ok, Err, ap, sym, ◌∙◌, inl, inr, ⊎_elim, subst}
use Rattle.url.specs.Parts.{serialize}
use Rattle.url.specs.Parser.{IsOutOfRoom, parse_url}
use Rattle.url.proofs.Theorems.{parse_url_idempotent}
use Rattle.tile_uri.specs.Addresses.{Answers, address_in, checked, join}
use Rattle.tile_uri.specs.declared.error.UriError.TheVariants.{NotAnAddress}
use Rattle.tile_uri.proofs.CheckedTexts.{decided, address_checked, checked_address, join_parsed}
use Rattle.tile_uri.proofs.base.Base.parse_below.Goals as goal

pub returns-in-Err : goal.returns-in-Err
returns-in-Err c =
    let base = c.self.inside.url in
    let text = c.args.written.now in
    let joined : join c.args.self.now text ≡ address_in (parse_url (Some base) text) =
    ap (λ t. join t text) (sym c.self.view_is)
    ∙ join_parsed base text c.self.invariant.valid c.self.invariant.canonical in
    ⊎_elim
    inl
    (λ (other : (c.cause_of.result ≡ NotAnAddress) × (¬ (IsOutOfRoom c.in-Err.error))).
    let parsed : parse_url (Some base) text ≡ Err c.in-Err.error =
    ⊎_elim (λ e. e) (λ room. absurd (other.1 room)) c.in-Err.ensures in
    inr (joined ∙ ap address_in parsed ∙ ap Err (sym other.0)))
    c.cause_of.ensures

pub of_url-requires-clause-parsed : goal.of_url-requires-clause-parsed
of_url-requires-clause-parsed c =
    parse_url_idempotent (Some c.self.inside.url) None c.args.written.now c.in-Ok.url
    (c.self.invariant.valid, c.self.invariant.canonical) c.check.ensures.valid c.in-Ok.ensures

pub of_url-requires-clause-address : goal.of_url-requires-clause-address
of_url-requires-clause-address c =
    let is : checked (serialize c.in-Ok.url) ≡ Ok tt = search rules in
    let parsed = parse_url_idempotent (Some c.self.inside.url) None c.args.written.now c.in-Ok.url
    (c.self.invariant.valid, c.self.invariant.canonical) c.check.ensures.valid c.in-Ok.ensures in
    checked_address c.in-Ok.url parsed is

pub returns-in-Ok-check : goal.returns-in-Ok-check
returns-in-Ok-check c =
    let base = c.self.inside.url in
    let url = c.in-Ok.url in
    let text = c.args.written.now in
    let is : checked (serialize url) ≡ Ok tt = search rules in
    let parsed = parse_url_idempotent (Some base) None text url
    (c.self.invariant.valid, c.self.invariant.canonical) c.check.ensures.valid c.in-Ok.ensures in
    let joined : join c.args.self.now text ≡ Ok (serialize url) =
    ap (λ t. join t text) (sym c.self.view_is)
    ∙ join_parsed base text c.self.invariant.valid c.self.invariant.canonical
    ∙ ap address_in c.in-Ok.ensures
    ∙ address_checked url parsed
    ∙ ap (decided (serialize url)) is in
    subst (Answers c.of_url.result) (sym joined) c.of_url.ensures

pub returns : goal.returns
returns c =
    let base = c.self.inside.url in
    let url = c.in-Ok.url in
    let text = c.args.written.now in
    let is : checked (serialize url) ≡ Err c.in-Err-check.cause = search rules in
    let parsed = parse_url_idempotent (Some base) None text url
    (c.self.invariant.valid, c.self.invariant.canonical) c.check.ensures.valid c.in-Ok.ensures in
    inr (ap (λ t. join t text) (sym c.self.view_is)
    ∙ join_parsed base text c.self.invariant.valid c.self.invariant.canonical
    ∙ ap address_in c.in-Ok.ensures
    ∙ address_checked url parsed
    ∙ ap (decided (serialize url)) is)
