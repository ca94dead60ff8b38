-- Holdings that agree at every address are the same.
use Rattle.std.proofs.Common.{◌≡◌, Option, List, sym, ◌∙◌, ap, subst}
use Rattle.std.proofs.Math.Path.{fun_ext}
use Rattle.error_test.specs.Views.{ViewParts}
use Rattle.expanded_tree.specs.Tree.{Tree}
use Rattle.cut_core.specs.Cut.{Holdings}
use Rattle.view_notes.specs.Asking.{AreNotesOfEach}
use Rattle.view_notes.specs.Changes.{SameHoldings}
use Rattle.view_notes.specs.Follows.{AreNotesOf, Noted}
use Rattle.view_notes.specs.Views.{wanted_by}

module _ (old new : Holdings) (same : SameHoldings old new) where
  alike : old ≡ new
  alike = ap (λ r. record { resident = r; absent = old.absent }) (sym (fun_ext same.resident))
      ∙ ap (λ a. record { resident = new.resident; absent = a }) (sym (fun_ext same.absent))

  pub notes_alike : (n : Noted) (view : ViewParts) (root : Option Tree) → AreNotesOf n view old root
      → AreNotesOf n view new root
  notes_alike n view root are = subst (λ h. AreNotesOf n view h root) alike are

  pub each_alike : (ns : List Noted) (views : List ViewParts) (root : Option Tree)
      → AreNotesOfEach ns views old root → AreNotesOfEach ns views new root
  each_alike ns views root are = subst (λ h. AreNotesOfEach ns views h root) alike are

  pub wanted_alike : (views : List ViewParts) (root : Option Tree)
      → wanted_by views new root ≡ wanted_by views old root
  wanted_alike views root = ap (λ h. wanted_by views h root) (sym alike)
