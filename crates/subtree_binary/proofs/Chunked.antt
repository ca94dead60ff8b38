-- The bits are read step by step, from what was read before.
use Rattle.std.proofs.Common.{◌≡◌, ℕ, Bool, Option, Some, None, Result, Ok, ap, sym, ◌∙◌, codes}
use Rattle.json_decimal.specs.JsonValue.{JsonValue, last_of}
use Rattle.json_decimal.specs.Parts.{members_of}
use Rattle.json_decimal.specs.Reading.{value_in}
use Rattle.subtree_binary.specs.Availability.{Storage, Members}
use Rattle.subtree_binary.specs.BitsSeen.{parts_by}
use Rattle.subtree_binary.specs.Causes.{◌>>=◌, or_cause, Gives}
use Rattle.subtree_binary.specs.Chunks.{buffers, views}
use Rattle.subtree_binary.specs.Reading.{available, in_chunks, parts}
use Rattle.subtree_binary.specs.Reading.{storage as storage_of}
use Rattle.subtree_binary.specs.Seen.{or_null, json_in}
use Rattle.subtree_binary.specs.declared.error.SubtreeError.{SubtreeError}
use Rattle.subtree_binary.specs.declared.error.SubtreeError.TheVariants.{NotJson, Shape}
use Rattle.subtree_binary.specs.declared.error.SubtreeField.TheVariants.{Top}
use Rattle.subtree_binary.specs.declared.header.Chunks.{Chunks}
use Rattle.subtree_binary.specs.declared.reading.SubtreeBits.{SubtreeBits}
use Rattle.subtree_binary.proofs.Chains.{then_ok}

module _ (octree : Bool) (levels contents : ℕ) (chunks : Chunks) (text : JsonValue)
    (read : or_cause NotJson (value_in chunks.json) ≡ Ok text) where
  is_text : json_in chunks.json ≡ text
  is_text = go (value_in chunks.json) read
    where
      go : (o : Option JsonValue) → or_cause NotJson o ≡ Ok text → or_null o ≡ text
      go None h = cc
      go (Some v) h = cc

  opened : in_chunks octree levels contents chunks
      ≡ parts octree levels contents chunks.binary text
  opened = ap (λ r. r >>= parts octree levels contents chunks.binary) read

  module _ (members : Members) (are : Some members ≡ members_of text) (storage : Storage)
      (stored : storage_of chunks.binary members ≡ Ok storage) where
    with_members : in_chunks octree levels contents chunks
        ≡ available octree levels contents text members storage
    with_members = opened
        ∙ ap (λ o. or_cause (Shape Top) o >>= λ members. storage_of chunks.binary members
        >>= available octree levels contents text members) (sym are)
        ∙ ap (λ r. r >>= available octree levels contents text members) stored

    same_binary : storage.binary ≡ chunks.binary
    same_binary = then_ok (buffers (last_of (codes "buffers") members)) _ storage stored
        λ bs e h. then_ok (views (last_of (codes "bufferViews") members)) _ storage h
        λ vs e h.
        let held : Storage = record { buffers = bs; views = vs; binary = chunks.binary } in
        let same : held ≡ storage = cc in
        sym (ap (λ s. s.binary) same)

    pub bits_are : (result : Result SubtreeBits SubtreeError)
        → Gives (parts_by text storage.binary) result
        (available octree levels contents text members storage)
        → Gives (parts_by (json_in chunks.json) chunks.binary) result
        (in_chunks octree levels contents chunks)
    bits_are result h = rw (is_text, with_members, ← same_binary) h
