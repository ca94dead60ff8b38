use Rattle.std.proofs.Common.{rules, ◌≡◌, take, length, string_bytes, ap, sym, ◌∙◌}
use Rattle.url.specs.Parts.{serialize}
use Rattle.tile_uri.specs.Addresses.{has_control_or_space}
use Rattle.tile_uri.proofs.CheckedTexts.{clean_front, short_front}
use Rattle.tile_uri.proofs.base.copy_of_folder.Goals as goal

pub returns-in_ok-from_str-in-Some : goal.returns-in_ok-from_str-in-Some
returns-in_ok-from_str-in-Some c =
    let text = serialize c.args.url.now in
    let kept = string_bytes c.in_ok-from_str-in-Some.field-0 in
    let same : kept ≡ c.in-Some.folder.now = search rules in
    let front : kept ≡ take (length kept) text =
    same ∙ c.in-Some.ensures.front ∙ (λ k. take (length (sym same k)) text) in
    record {
      special = c.in-Some.ensures.special;
      is = same ∙ c.in-Some.ensures.value;
      clean = ap has_control_or_space front ∙ clean_front (length kept) text c.requires.clean;
      short = short_front (length kept) kept text front c.requires.short;
    }
