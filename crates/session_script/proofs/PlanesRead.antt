-- How far the planes of a view are read.
use Rattle.std.proofs.Common.{◌≡◌, ◌∙◌, ℕ, ◌+◌, ◌<◌, ◌≤◌, List, [], ◌∷◌, ◌++◌, length, map, take}
use Rattle.std.proofs.Common.{set, refl, sym, ap, arith, append_assoc, length-append, append-nil}
use Rattle.std.proofs.Common.{add-one, Option, Some, None, Bor}
use Rattle.std.proofs.Math.Seq.{take-suc-set}
use Rattle.std.proofs.lemmas.List.{length-take-le, map-append, nil_from_length}
use Rattle.std.proofs.lemmas.List.Elements.{All-head, All-tail}
use Rattle.std.proofs.lemmas.List.Splits.{length-slice_split}
use Rattle.std.specs.Prelude.{All, IsUtf8, MatchOption, ◌==◌}
use Rattle.volumes.specs.declared.plane.Plane.{Plane}
use Rattle.error_test.specs.Views.{plane_limit}
use Rattle.session_script.specs.Ascii.{colon, parts_at}
use Rattle.session_script.specs.Readers.{Reads}
use Rattle.session_script.specs.ViewTexts.{IsPlaneOf64, text_of_plane}

-- of all the planes a prefix is read, and the rest of the text spells those that are left
pub record IsLeft (all prefix left : List Plane) (rest : List ℕ) : Type 0 where
  pub split : all ≡ prefix ++ left
  pub fits : All IsPlaneOf64 left
  pub spelled : parts_at colon rest ≡ map text_of_plane left

-- the first i planes are read
pub record PlanesRead (text rest : List ℕ) (planes : List Plane) (i : ℕ) : Type 0 where
  pub utf8 : IsUtf8 rest
  pub room : length planes ≡ plane_limit
  pub found : parts_at colon text ≡ map text_of_plane (take i planes) ++ parts_at colon rest
  pub spelled : (all : List Plane) → length all ≤ plane_limit → All IsPlaneOf64 all
      → parts_at colon text ≡ map text_of_plane all → (left : List Plane)
      × IsLeft all (take i planes) left rest

some_part : (text : List ℕ) → parts_at colon text ≡ [] → ⊥
some_part text h = omega (arith, length-slice_split (λ byte. byte == colon) text, ap length h)

-- the plane that is read next
pub record IsNext (all prefix : List Plane) (part : List ℕ) (others : List (List ℕ)) (q : Plane)
    (left : List Plane) : Type 0 where
  pub split : all ≡ prefix ++ (q ∷ left)
  pub fits : IsPlaneOf64 q
  pub others_fit : All IsPlaneOf64 left
  pub first : part ≡ text_of_plane q
  pub later : others ≡ map text_of_plane left

next_plane : (all prefix left : List Plane) (rest part : List ℕ) (others : List (List ℕ))
    → IsLeft all prefix left rest → parts_at colon rest ≡ part ∷ others → (q : Plane)
    × ((more : List Plane) × IsNext all prefix part others q more)
next_plane all prefix [] rest part others h e = absurd (some_part rest h.spelled)
next_plane all prefix (q ∷ left) rest part others h e =
    let same : part ∷ others ≡ text_of_plane q ∷ map text_of_plane left = sym e ∙ h.spelled in (
      q,
      (
        left,
        record {
          split = h.split;
          fits = All-head IsPlaneOf64 q left h.fits;
          others_fit = All-tail IsPlaneOf64 q left h.fits;
          first = cc;
          later = cc;
        },
      ),
    )

prefix_more : (planes : List Plane) (i : ℕ) (p : Plane) → i < length planes
    → take (i + 1) (set planes i p) ≡ take i planes ++ (p ∷ [])
prefix_more planes i p below = rw add-one (take-suc-set planes i p below)

-- ---- a turn of the loop

pub found_more : (text : List ℕ) (rest part : List ℕ) (others : List (List ℕ)) (planes : List Plane)
    (i : ℕ) (p : Plane) → PlanesRead text rest planes i → i < length planes
    → parts_at colon rest ≡ part ∷ others → part ≡ text_of_plane p
    → parts_at colon text ≡ map text_of_plane (take (i + 1) (set planes i p)) ++ others
found_more text rest part others planes i p h below e spelled =
    h.found ∙ (ap (λ parts. map text_of_plane (take i planes) ++ parts)
    (e ∙ ap (λ t. t ∷ others) spelled)
    ∙ sym (ap (λ prefix. map text_of_plane prefix ++ others) (prefix_more planes i p below)
    ∙ (ap (λ texts. texts ++ others) (map-append text_of_plane (take i planes) (p ∷ []))
    ∙ append_assoc (map text_of_plane (take i planes)) (text_of_plane p ∷ []) others)))

read_next : (part : List ℕ) (p q : Plane) → Reads text_of_plane IsPlaneOf64 part (Some p)
    → IsPlaneOf64 q → part ≡ text_of_plane q → p ≡ q
read_next part p q h fits e = let same : Some p ≡ Some q = h.spelled q fits e in cc

-- the prefix grows by the plane that is read
grown : (all planes left : List Plane) (i : ℕ) (p q : Plane) → i < length planes → p ≡ q
    → all ≡ take i planes ++ (q ∷ left) → all ≡ take (i + 1) (set planes i p) ++ left
grown all planes left i p q below same split =
    split
    ∙ (ap (λ r. take i planes ++ (r ∷ left)) (sym same)
    ∙ (sym (append_assoc (take i planes) (p ∷ []) left)
    ∙ ap (λ prefix. prefix ++ left) (sym (prefix_more planes i p below))))

pub left_more : (text rest part more : List ℕ) (planes all : List Plane) (i : ℕ) (p : Plane)
    → PlanesRead text rest planes i → i < length planes
    → parts_at colon rest ≡ part ∷ parts_at colon more
    → Reads text_of_plane IsPlaneOf64 part (Some p) → length all ≤ plane_limit → All IsPlaneOf64 all
    → parts_at colon text ≡ map text_of_plane all → (left : List Plane)
    × IsLeft all (take (i + 1) (set planes i p)) left more
left_more text rest part more planes all i p h below e reads few fits spelled =
    let now = h.spelled all few fits spelled in
    let next = next_plane all (take i planes) now.0 rest part (parts_at colon more) now.1 e in
    let q = next.0 in
    let facts = next.1.1 in (
      next.1.0,
      record {
        split = grown all planes next.1.0 i p q below
            (read_next part p q reads facts.fits facts.first) facts.split;
        fits = facts.others_fit;
        spelled = facts.later;
      },
    )

pub none_left : (left : List Plane) → [] ≡ map text_of_plane left → left ≡ []
none_left [] h = refl
none_left (q ∷ left) h = absurd (cc)

-- the last plane
pub all_read : (text rest part : List ℕ) (planes all : List Plane) (i : ℕ) (p : Plane)
    → PlanesRead text rest planes i → i < length planes → parts_at colon rest ≡ part ∷ []
    → Reads text_of_plane IsPlaneOf64 part (Some p) → length all ≤ plane_limit → All IsPlaneOf64 all
    → parts_at colon text ≡ map text_of_plane all → take (i + 1) (set planes i p) ≡ all
all_read text rest part planes all i p h below e reads few fits spelled =
    let now = h.spelled all few fits spelled in
    let next = next_plane all (take i planes) now.0 rest part [] now.1 e in
    let q = next.0 in
    let facts = next.1.1 in
    let split = grown all planes next.1.0 i p q below
    (read_next part p q reads facts.fits facts.first) facts.split in
    sym (split ∙ (ap (λ left. take (i + 1) (set planes i p) ++ left)
    (none_left next.1.0 facts.later) ∙ append-nil (take (i + 1) (set planes i p))))

-- no plane is spelled where none is read
pub unread : (text rest part : List ℕ) (others : List (List ℕ)) (planes all : List Plane) (i : ℕ)
    → PlanesRead text rest planes i → parts_at colon rest ≡ part ∷ others
    → Reads text_of_plane IsPlaneOf64 part None → length all ≤ plane_limit → All IsPlaneOf64 all
    → parts_at colon text ≡ map text_of_plane all → ⊥
unread text rest part others planes all i h e reads few fits spelled =
    let now = h.spelled all few fits spelled in
    let next = next_plane all (take i planes) now.0 rest part others now.1 e in
    let facts = next.1.1 in
    let none : None ≡ Some next.0 = reads.spelled next.0 facts.fits facts.first in
    cc

-- no more planes are spelled than there is room for
pub too_many : (text rest : List ℕ) (planes all : List Plane) (i : ℕ)
    → PlanesRead text rest planes i → plane_limit ≤ i → i ≤ length planes → length all ≤ plane_limit
    → All IsPlaneOf64 all → parts_at colon text ≡ map text_of_plane all → ⊥
too_many text rest planes all i h full room few fits spelled =
    let now = h.spelled all few fits spelled in
    let count = ap length now.1.split in
    let none : length now.0 ≡ 0 = omega
    (arith, count, length-append (take i planes) now.0, length-take-le i planes room) in
    some_part rest (now.1.spelled ∙ ap (λ left. map text_of_plane left)
    (nil_from_length now.0 none))

-- the first part and the others
pub parted : (rest part : List ℕ) (more : Option (Bor (List ℕ)))
    → MatchOption more (parts_at colon rest ≡ part ∷ [])
    (λ m. parts_at colon rest ≡ part ∷ parts_at colon m.now) → (others : List (List ℕ))
    × (parts_at colon rest ≡ part ∷ others)
parted rest part None h = ([], h)
parted rest part (Some m) h = (parts_at colon m.now, h)
