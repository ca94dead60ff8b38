use Rattle.std.proofs.Common.{rules, ◌≡◌, true, Some, ap, sym, ◌∙◌}
use Rattle.std.specs.Prelude.{is_some, option_copied}
use Rattle.tile_uri.specs.Templates.{parts_of, split_at_braces, texts_behind}
use Rattle.tile_uri.proofs.Braces.{split_at_braces-split_once, texts_behind-first, wider_parts}
use Rattle.tile_uri.proofs.template.Template.read_checked.Goals as goal

pub read_parts-requires : goal.read_parts-requires
read_parts-requires c =
    let split = c.split_at_brace in
    ap (λ ts. is_some (parts_of c.args.octree ts))
    (texts_behind-first c.args.text.now (option_copied split.result.1) split.ensures.behind)
    ∙ c.requires

pub invariant_of-result : goal.invariant_of-result
invariant_of-result c =
    let text = c.args.text.now in
    let octree = c.args.octree in
    let split = c.split_at_brace in
    let parts = c.in_ok-parts.parts.items in
    let same : c.in_ok-text.text ≡ text = search rules in
    let head : c.in_ok-head.head ≡ split.result.0.now = search rules in
    let found : parts_of octree (texts_behind (option_copied split.result.1)) ≡ Some parts =
    search rules in
    let behind = texts_behind-first text (option_copied split.result.1) split.ensures.behind in
    record {
      before =
          head
          ∙ split.ensures.before
          ∙ sym (ap (λ r. r.0) (split_at_braces-split_once text))
          ∙ ap (λ t. (split_at_braces t).0) (sym same);
      read =
          ap (λ t. parts_of true (split_at_braces t).1) same
          ∙ wider_parts octree (split_at_braces text).1 parts
          (ap (parts_of octree) (sym behind) ∙ found);
    }
