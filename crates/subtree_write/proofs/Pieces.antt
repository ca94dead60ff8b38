-- The text of availability, piece by piece.
use Rattle.std.proofs.Common.{◌≡◌, ◌≢◌, ℕ, ◌+◌, Bool, List, [], ◌∷◌, ◌++◌, length, map, codes, decimal, refl, ◌∙◌, append_assoc}
use Rattle.subtree_write.specs.Rows.{binary, streams, views}
use Rattle.subtree_write.specs.Texts.{availability_text, availability_texts, contents_text, further, list_text, available_text, json_text, storage_text, streams_of, view_text}
use Rattle.subtree_write.specs.Writing.{header, in_file}
use Rattle.subtree_write.specs.declared.streams.View.{View}
use Rattle.subtree_write.specs.declared.spec.SubtreeSpec.{SubtreeSpec}

-- what is added behind what was added
pub joined : {A : Type 0} (old middle new front back : List A) → middle ≡ old ++ front
    → new ≡ middle ++ back → new ≡ old ++ (front ++ back)
joined old middle new front back one two = two ∙ rw one (append_assoc old front back)

-- one row behind a comma
pub row_text : (old middle new : List ℕ) (n m : ℕ) (row : List Bool) (rest more : List (List Bool))
    → rest ≡ row ∷ more → m ≡ n + length (streams (row ∷ []))
    → middle ≡ old ++ codes "," → new ≡ middle ++ availability_text n row
    → new ++ further (availability_texts m more) ≡ old ++ further (availability_texts n rest)
row_text old middle new n m row rest more split next comma text =
    let behind = further (availability_texts m more) in
    let text_is = joined old middle new (codes ",") (availability_text n row) comma text in
    let whole = joined old new (new ++ behind) (codes "," ++ availability_text n row) behind
    text_is refl in
    whole
    ∙ rw (next, split) refl

-- the rows of contents
pub contents_are : (old a b c new : List ℕ) (n m : ℕ) (rows : List (List Bool))
    (first : List Bool) (more : List (List Bool))
    → rows ≡ first ∷ more → m ≡ n + length (streams (first ∷ []))
    → a ≡ old ++ codes ",\"contentAvailability\":[" → b ≡ a ++ availability_text n first
    → c ≡ b ++ further (availability_texts m more) → new ≡ c ++ codes "]"
    → new ≡ old ++ contents_text n rows
contents_are old a b c new n m rows first more split next e f g h =
    let p = codes ",\"contentAvailability\":[" in
    let q = availability_text n first in
    let r = further (availability_texts m more) in
    joined old c new ((p ++ q) ++ r) (codes "]")
    (joined old b c (p ++ q) r (joined old a b p q e f) g) h
    ∙ rw (next, split) refl

-- the rows of all
pub available_is : (spec : SubtreeSpec) (old a b c d new : List ℕ) (n m : ℕ)
    → n ≡ length (streams (spec.tiles ∷ [])) → m ≡ length (streams (spec.tiles ∷ spec.contents))
    → a ≡ old ++ codes "\"tileAvailability\":"
    → b ≡ a ++ availability_text 0 spec.tiles
    → c ≡ b ++ contents_text n spec.contents
    → d ≡ c ++ codes ",\"childSubtreeAvailability\":"
    → new ≡ d ++ availability_text m spec.children
    → new ≡ old ++ available_text spec
unfolding available_text
available_is spec old a b c d new n m few more e f g h k =
    let p = codes "\"tileAvailability\":" in
    let q = availability_text 0 spec.tiles in
    let r = contents_text n spec.contents in
    let s = codes ",\"childSubtreeAvailability\":" in
    let t = availability_text m spec.children in
    joined old d new (((p ++ q) ++ r) ++ s) t
    (joined old c d ((p ++ q) ++ r) s
    (joined old b c (p ++ q) r (joined old a b p q e f) g) h) k
    ∙ rw (few, more) refl

-- the buffers and buffer views
pub storage_is : (views : List View) (bytes : ℕ) (old a b c d new : List ℕ) → views ≢ []
    → a ≡ old ++ codes "\"buffers\":[{\"byteLength\":" → b ≡ a ++ decimal bytes
    → c ≡ b ++ codes "}],\"bufferViews\":" → d ≡ c ++ list_text (map view_text views)
    → new ≡ d ++ codes ","
    → new ≡ old ++ storage_text views bytes
storage_is [] bytes old a b c d new some e f g h k = absurd (some refl)
storage_is (view ∷ views) bytes old a b c d new some e f g h k =
    let p = codes "\"buffers\":[{\"byteLength\":" in
    let q = decimal bytes in
    let r = codes "}],\"bufferViews\":" in
    let s = list_text (map view_text (view ∷ views)) in
    joined old d new (((p ++ q) ++ r) ++ s) (codes ",")
    (joined old c d ((p ++ q) ++ r) s
    (joined old b c (p ++ q) r (joined old a b p q e f) g) h) k

-- the whole
pub json_is : (spec : SubtreeSpec) (a b c new : List ℕ) → a ≡ codes "{"
    → b ≡ a ++ storage_text (views 0 (streams_of spec)) (length (binary (streams_of spec)))
    → c ≡ b ++ available_text spec → new ≡ c ++ codes "}"
    → new ≡ json_text spec
unfolding json_text
json_is spec a b c new e f g h = rw (h, g, f, e) refl

pub file_is : (json binary head front new : List ℕ) (n m : ℕ) → n ≡ length json
    → m ≡ length binary → head ≡ header n m → front ≡ head ++ json → new ≡ front ++ binary
    → new ≡ in_file json binary
file_is json binary head front new n m e f g h k = rw (k, h, g, e, f) refl
