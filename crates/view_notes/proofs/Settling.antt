-- Contents that become resident or absent.
use Rattle.std.proofs.Common.{ℕ, ◌≡◌, Bool, true, false, not, ◌&&◌, ◌||◌, List, refl, sym, ◌∙◌, ap}
use Rattle.std.specs.Prelude.{bytes_eq}
use Rattle.std.proofs.lemmas.Slice.Eq.{bytes_eq-Decides}
use Rattle.cut_core.specs.Cut.{Holdings}
use Rattle.cut_core.specs.Wants.{is_missing}
use Rattle.cut_core.proofs.Bools.{and_left, and_right, or_true}
use Rattle.view_notes.specs.Changes.{Settles, BecomesResident, BecomesAbsent}
use Rattle.view_notes.proofs.Bools.{not_true}

less_resident : (e x r : Bool) → (not x && not (e || r)) ≡ (not e && (not x && not r))
less_resident true true r = refl
less_resident true false r = refl
less_resident false x r = refl

less_absent : (e x r : Bool) → (not (e || x) && not r) ≡ (not e && (not x && not r))
less_absent true x r = refl
less_absent false x r = refl

pub missing_present : (h : Holdings) (a : List ℕ) → is_missing h a ≡ true → h.absent a ≡ false
missing_present h a m = not_true (h.absent a) (and_left _ _ m)

pub missing_nonresident : (h : Holdings) (a : List ℕ) → is_missing h a ≡ true
    → h.resident a ≡ false
missing_nonresident h a m = not_true (h.resident a) (and_right (not (h.absent a)) _ m)

pub settles_resident : (a : List ℕ) (old new : Holdings) → BecomesResident a old new
    → Settles a old new
settles_resident a old new b = record {
  grows = record {
    absent = λ x h. b.absent x ∙ h;
    resident = λ x h r. (
      b.absent x ∙ h,
      b.resident x ∙ ap (λ c. bytes_eq a x || c) r ∙ or_true (bytes_eq a x),
    );
  };
  missing = λ x.
      ap (λ c. not c && not (new.resident x)) (b.absent x)
      ∙ ap (λ c. not (old.absent x) && not c) (b.resident x)
      ∙ less_resident (bytes_eq a x) (old.absent x) (old.resident x);
}

-- what is resident isn't the content that was missing
other : (a x : List ℕ) (old : Holdings) (e : Bool) → bytes_eq a x ≡ e → is_missing old a ≡ true
    → old.resident x ≡ true → e ≡ false
other a x old true h m r =
    let same : a ≡ x = (bytes_eq-Decides a x).0 h in
    let no : true ≡ false = sym (ap old.resident same ∙ r) ∙ missing_nonresident old a m in cc
other a x old false h m r = refl

pub settles_absent : (a : List ℕ) (old new : Holdings) → BecomesAbsent a old new
    → Settles a old new
settles_absent a old new b = record {
  grows = record {
    absent = λ x h. b.absent x ∙ ap (λ c. bytes_eq a x || c) h ∙ or_true (bytes_eq a x);
    resident = λ x h r. (
      b.absent x ∙ ap (λ c. c || old.absent x) (other a x old (bytes_eq a x) refl b.was r) ∙ h,
      b.resident x ∙ r,
    );
  };
  missing = λ x.
      ap (λ c. not c && not (new.resident x)) (b.absent x)
      ∙ ap (λ c. not (bytes_eq a x || old.absent x) && not c) (b.resident x)
      ∙ less_absent (bytes_eq a x) (old.absent x) (old.resident x);
}
