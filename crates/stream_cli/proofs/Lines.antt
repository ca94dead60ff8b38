-- The lines of a node.
use Rattle.std.proofs.Common.{◌≡◌, ℕ, Bool, Option, Some, None, is_none, false, List, [], ◌∷◌, ◌++◌, map}
use Rattle.std.proofs.Common.{ap, append_assoc, codes, option_map, refl, sym, ◌∙◌}
use Rattle.std.specs.Option.{is_some}
use Rattle.expanded_tree.specs.Tree.{Tree, tile, pending, addresses_of, facts_of, key_of, name_of}
use Rattle.std.specs.Fmt.{decimal}
use Rattle.expanded_tree.specs.Facts.{Facts}
use Rattle.stream_cli.specs.Listing.{content_line, known_volume_text, line_end, lines_of, refine_word, tile_line}

pub tile_lines : (t : Tree) → key_of t ≡ None
    → tile_line (name_of t) (facts_of t) ∷ map (content_line (name_of t)) (addresses_of t)
    ≡ lines_of t
tile_lines (tile parts children) e = refl
tile_lines (pending name facts key) e = cc

pub no_lines : (t : Tree) → is_none (key_of t) ≡ false → [] ≡ lines_of t
no_lines (tile parts children) e = cc
no_lines (pending name facts key) e = refl

-- a node for which no key is found has none
pub no_key : {A B : Type 0} (f : B → A) (key : Option A) (found : Option B) (is : Bool)
    → is ≡ is_some found → option_map f found ≡ key → is ≡ false → key ≡ None
no_key f key None is some at none = sym at
no_key f key (Some b) is some at none = cc

-- seven parts behind a front
behind_front : (front b r e v n : List ℕ)
    → front ++ (b ++ r ++ b ++ e ++ b ++ v ++ n) ≡ front ++ b ++ r ++ b ++ e ++ b ++ v ++ n
behind_front front b r e v n =
    sym (append_assoc front (b ++ r ++ b ++ e ++ b ++ v) n)
    ∙ ap (λ t. t ++ n) (sym (append_assoc front (b ++ r ++ b ++ e ++ b) v)
    ∙ ap (λ t. t ++ v) (sym (append_assoc front (b ++ r ++ b ++ e) b)
    ∙ ap (λ t. t ++ b) (sym (append_assoc front (b ++ r ++ b) e)
    ∙ ap (λ t. t ++ e) (sym (append_assoc front (b ++ r) b)
    ∙ ap (λ t. t ++ b) (sym (append_assoc front b r))))))

-- the line of a tile is its name and the end
pub tile_parts : (name : List ℕ) (facts : Facts)
    → codes "tile " ++ name ++ line_end facts ≡ tile_line name facts
unfolding tile_line
tile_parts name facts =
    behind_front (codes "tile " ++ name) (codes " ") (refine_word facts.refine)
    (decimal facts.error) (known_volume_text facts.volume) (codes "\n")
