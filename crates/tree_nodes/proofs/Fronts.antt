-- Lists behind which further values stand, and tables of such lists.
use Rattle.std.proofs.Common.{ℕ, ◌≡◌, ◌≤◌, Some, List, [], ◌++◌, length, sym, ap, subst, ◌∙◌, arith, append_assoc, append-nil, length-append}
use Rattle.std.specs.List.{slice_get}
use Rattle.tree_nodes.specs.declared.tables.Tables.{Tables}
use Rattle.tree_nodes.specs.Fronts.{Continues, IsFront}
use Rattle.tree_nodes.proofs.Elements.{slice_get-left}

pub IsFront-same : {A : Type 0} (xs : List A) → IsFront xs xs
IsFront-same xs = record { behind = []; whole = sym (append-nil xs) }

pub IsFront-then : {A : Type 0} (xs ys zs : List A) → IsFront xs ys → IsFront ys zs → IsFront xs zs
IsFront-then xs ys zs f g = record {
  behind = f.behind ++ g.behind;
  whole = g.whole ∙ ap (λ us. us ++ g.behind) f.whole ∙ append_assoc xs f.behind g.behind;
}

pub IsFront-length : {A : Type 0} (xs ys : List A) → IsFront xs ys → length xs ≤ length ys
IsFront-length xs ys f = omega (arith, ap length f.whole, length-append xs f.behind)

pub front_get : {A : Type 0} (xs ys : List A) → IsFront xs ys → (i : ℕ) (x : A)
    → slice_get xs i ≡ Some x → slice_get ys i ≡ Some x
front_get xs ys f i x e =
    ap (λ us. slice_get us i) f.whole ∙ slice_get-left xs f.behind i x e

-- ---- tables

pub Continues-same : (tables : Tables) → Continues tables tables
Continues-same tables = record {
  transforms = IsFront-same tables.transforms.items;
  waiting = IsFront-same tables.waiting.items;
  tops = IsFront-same tables.tops.items;
  places = IsFront-same tables.places.items;
  contents = IsFront-same tables.contents.items;
  external = IsFront-same tables.external.items;
}

pub Continues-then : (a b c : Tables) → Continues a b → Continues b c → Continues a c
Continues-then a b c f g = record {
  transforms = IsFront-then _ _ _ f.transforms g.transforms;
  waiting = IsFront-then _ _ _ f.waiting g.waiting;
  tops = IsFront-then _ _ _ f.tops g.tops;
  places = IsFront-then _ _ _ f.places g.places;
  contents = IsFront-then _ _ _ f.contents g.contents;
  external = IsFront-then _ _ _ f.external g.external;
}

pub IsFront-more : {A : Type 0} (xs ys zs : List A) → ys ≡ xs ++ zs → IsFront xs ys
IsFront-more xs ys zs e = record { behind = zs; whole = e }

pub IsFront-is : {A : Type 0} (xs ys : List A) → ys ≡ xs → IsFront xs ys
IsFront-is xs ys e = record { behind = []; whole = e ∙ sym (append-nil xs) }

-- further values in one list of them alone, or two
module _ (old new : Tables) where
  abbrev same : Continues old old
  same = Continues-same old

  pub more_transforms : new ≡ record old { transforms = new.transforms }
      → IsFront old.transforms.items new.transforms.items → Continues old new
  more_transforms e f =
      subst (Continues old) (sym e) (record {
        transforms = f;
        waiting = same.waiting;
        tops = same.tops;
        places = same.places;
        contents = same.contents;
        external = same.external;
      })

  pub more_waiting : new ≡ record old { waiting = new.waiting }
      → IsFront old.waiting.items new.waiting.items → Continues old new
  more_waiting e f =
      subst (Continues old) (sym e) (record {
        transforms = same.transforms;
        waiting = f;
        tops = same.tops;
        places = same.places;
        contents = same.contents;
        external = same.external;
      })

  pub more_places : new ≡ record old { places = new.places }
      → IsFront old.places.items new.places.items → Continues old new
  more_places e f =
      subst (Continues old) (sym e) (record {
        transforms = same.transforms;
        waiting = same.waiting;
        tops = same.tops;
        places = f;
        contents = same.contents;
        external = same.external;
      })

  pub more_tops : new ≡ record old { transforms = new.transforms; tops = new.tops }
      → IsFront old.transforms.items new.transforms.items
      → IsFront old.tops.items new.tops.items → Continues old new
  more_tops e f g =
      subst (Continues old) (sym e) (record {
        transforms = f;
        waiting = same.waiting;
        tops = g;
        places = same.places;
        contents = same.contents;
        external = same.external;
      })

  pub more_contents : new ≡ record old { contents = new.contents; external = new.external }
      → IsFront old.contents.items new.contents.items
      → IsFront old.external.items new.external.items → Continues old new
  more_contents e f g =
      subst (Continues old) (sym e) (record {
        transforms = same.transforms;
        waiting = same.waiting;
        tops = same.tops;
        places = same.places;
        contents = f;
        external = g;
      })
