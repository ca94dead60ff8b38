use Rattle.std.proofs.Common.{◌≡◌, ◌∙◌, rules, length, refl}
use Rattle.subtree_write.specs.Texts.{json_text}
use Rattle.subtree_write.proofs.Pieces.{json_is}
use Rattle.subtree_write.proofs.Adding.{fresh_views, fresh_binary}
use Rattle.subtree_write.proofs.writing.json_chunk.Goals as goal

pub returns-clause-json : goal.returns-clause-json
returns-clause-json c =
    let spec = c.args.spec.now in
    let new = c.push_available.new.streams in
    let adds = c.in_ok-push_available.ensures.rows in
    let v = fresh_views c.args.streams.now new _ c.requires.views c.requires.binary adds in
    let b = fresh_binary c.args.streams.now new _ c.requires.views c.requires.binary adds in
    let text : c.push-2.new.json.items ≡ json_text spec =
    json_is spec c.push.new.json.items c.push_storage.new.json.items
    c.extend_from_slice.new.self.items c.push-2.new.json.items
    (c.in_ok-push.ensures ∙ rw c.new-json.ensures.items refl)
    (rw (v, b) at c.in_ok-push_storage.ensures)
    (c.in_ok-extend_from_slice.ensures.items
    ∙ rw (
      c.as_slice.ensures.value,
      c.in_ok-push_available.ensures.json,
      c.new-available.ensures.items,
    ) refl)
    c.in_ok-push-2.ensures in
    let count : c.len-count.result ≡ length c.push-2.new.json.items = search rules in
    c.in_ok-push_padding.ensures ∙ rw (count, text) refl
