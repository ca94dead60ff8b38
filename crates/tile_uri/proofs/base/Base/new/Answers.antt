use Rattle.std.proofs.Common.{rules, ◌≡◌, None, Ok, Err, ap, ◌∙◌, inr}
use Rattle.url.specs.Parts.{serialize}
use Rattle.url.specs.Parser.{parse_url}
use Rattle.url.proofs.ParsedCanonical.{parse_url_canonical}
use Rattle.url.proofs.Theorems.{parse_url_idempotent}
use Rattle.tile_uri.specs.Addresses.{address_in, checked}
use Rattle.tile_uri.proofs.CheckedTexts.{decided, address_checked, checked_ok}
use Rattle.tile_uri.proofs.base.Base.new.Goals as goal

pub invariant_of-result : goal.invariant_of-result
invariant_of-result c =
    let url = c.in-Ok.url in
    let is : checked (serialize url) ≡ Ok tt = search rules in
    let ok = checked_ok (serialize url) is in
    record {
      valid = c.check.ensures.valid;
      canonical = parse_url_canonical None c.args.text.now url tt c.check.ensures.valid
          c.in-Ok.ensures;
      clean = ok.0;
      short = ok.1;
      ready = search rules;
    }

pub returns-in-Ok-copy_of_folder : goal.returns-in-Ok-copy_of_folder
returns-in-Ok-copy_of_folder c =
    let url = c.in-Ok.url in
    let is : checked (serialize url) ≡ Ok tt = search rules in
    let parsed : parse_url None (serialize url) ≡ Ok url =
    parse_url_idempotent None None c.args.text.now url tt c.check.ensures.valid c.in-Ok.ensures in
    ap address_in c.in-Ok.ensures ∙ address_checked url parsed ∙ ap (decided (serialize url)) is

pub returns-in-Err-check : goal.returns-in-Err-check
returns-in-Err-check c =
    let url = c.in-Ok.url in
    let is : checked (serialize url) ≡ Err c.in-Err-check.cause = search rules in
    let parsed : parse_url None (serialize url) ≡ Ok url =
    parse_url_idempotent None None c.args.text.now url tt c.check.ensures.valid c.in-Ok.ensures in
    inr (ap address_in c.in-Ok.ensures ∙ address_checked url parsed
    ∙ ap (decided (serialize url)) is)

pub copy_of_folder-requires : goal.copy_of_folder-requires
copy_of_folder-requires c =
    let is : checked (serialize c.in-Ok.url) ≡ Ok tt = search rules in
    let ok = checked_ok (serialize c.in-Ok.url) is in
    record { clean = ok.0; short = ok.1 }
