use Rattle.std.proofs.Common.{◌≡◌, ◌∙◌, ap, sym, Some, is_some, true, false, true≢false, refl}
use Rattle.std.proofs.Common.{[]}
use Rattle.std.specs.Prelude.{option_map}
use Rattle.tile_cache.specs.Residents.{has_address}
use Rattle.tile_cache.proofs.Entries.{contains_is, content_is}
use Rattle.tile_cache.proofs.cache.Cache.share.Goals as goal

pub returns-in_err-share-in-Some-clause-none : goal.returns-in_err-share-in-Some-clause-none
returns-in_err-share-in-Some-clause-none c =
    let es = c.self.inside.entries.entries in
    let a = c.args.address.now in
    let here : has_address c.args.self.now.residents a ≡ true =
    rw (← c.self.view_is) (sym (contains_is es a) ∙ ap is_some (sym c.in-Some.ensures)) in (
      λ e. let err = rw e at c.from_residual.ensures.0 in cc,
      λ e. absurd (true≢false (sym here ∙ e)),
    )

pub returns-in_err-share-in-Some-clause-empty : goal.returns-in_err-share-in-Some-clause-empty
returns-in_err-share-in-Some-clause-empty c e =
    let es = c.self.inside.entries.entries in
    let a = c.args.address.now in
    let found = rw (← c.self.view_is) at e in
    let content =
    ap (λ o. option_map (λ v. v.content) o) c.in-Some.ensures ∙ content_is es a ∙ found in
    let empty : c.in-Some.entry.now.content ≡ [] = cc in
    absurd (true≢false (sym (c.in_err-share-in-Some.ensures.empty empty)))

pub returns-in_ok-share-in-Some-clause-content : goal.returns-in_ok-share-in-Some-clause-content
returns-in_ok-share-in-Some-clause-content c =
    let es = c.self.inside.entries.entries in
    let a = c.args.address.now in
    rw (← c.self.view_is)
    (ap Some c.in_ok-share-in-Some.ensures.value
    ∙ ap (λ o. option_map (λ v. v.content) o) c.in-Some.ensures ∙ content_is es a)

pub returns-in_ok-share-in-Some-clause-none : goal.returns-in_ok-share-in-Some-clause-none
returns-in_ok-share-in-Some-clause-none c =
    let es = c.self.inside.entries.entries in
    let a = c.args.address.now in
    let here : has_address c.args.self.now.residents a ≡ true =
    rw (← c.self.view_is) (sym (contains_is es a) ∙ ap is_some (sym c.in-Some.ensures)) in
    (λ e. cc, λ e. absurd (true≢false (sym here ∙ e)))

pub returns-in-None-clause-content : goal.returns-in-None-clause-content
returns-in-None-clause-content c =
    let es = c.self.inside.entries.entries in
    let a = c.args.address.now in
    rw (← c.self.view_is)
    (ap (λ o. option_map (λ v. v.content) o) c.in-None.ensures ∙ content_is es a)

pub returns-in-None-clause-none : goal.returns-in-None-clause-none
returns-in-None-clause-none c =
    let es = c.self.inside.entries.entries in
    let a = c.args.address.now in
    let absent : has_address c.args.self.now.residents a ≡ false =
    rw (← c.self.view_is) (sym (contains_is es a) ∙ ap is_some (sym c.in-None.ensures)) in
    (λ _. absent, λ _. refl)
