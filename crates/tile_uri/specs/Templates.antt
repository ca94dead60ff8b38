-- Template URIs (OGC 22-025r4, "Implicit Tiling", "Template URIs"): texts with variables, for which
-- the numbers of a tile are put.
use Rattle.std.specs.Prelude.{◌≡◌, ℕ, Bool, true, not, ◌==◌, List, [], ◌∷◌, ◌++◌, length, take, drop, codes, bytes_eq, decimal, flat_map, Option, Some, None, is_some, unwrap_or, option_map, Result, Err, if◌then◌else◌}
use Rattle.std.specs.Option.{option_or, option_and_then}
use Rattle.tile_uri.specs.declared.error.UriError.{UriError}
use Rattle.tile_uri.specs.declared.error.UriError.TheVariants.{Placeholder}
use Rattle.tile_uri.specs.declared.variable.Variable.{Variable}
use Rattle.tile_uri.specs.declared.variable.Variable.TheVariants.{Level, X, Y, Z}
use Rattle.tile_uri.specs.declared.part.Part.{Part}
use Rattle.tile_uri.specs.Addresses.{within_limit}

-- `b'{'`
abbrev pub opening_brace : ℕ
opening_brace = 0x7B

-- the text before the first opening brace, and the text behind each up to the next
abbrev pub split_at_braces : List ℕ → List ℕ × List (List ℕ)
split_at_braces [] = ([], [])
split_at_braces (b ∷ text) =
    let later = split_at_braces text in
    if b == opening_brace then ([], later.0 ∷ later.1) else (b ∷ later.0, later.1)

-- a variable's name, and the brace that closes it
abbrev pub name_of : Variable → List ℕ
name_of Level = codes "level}"
name_of X = codes "x}"
name_of Y = codes "y}"
name_of Z = codes "z}"

-- what stands behind a front that the text begins with
abbrev pub behind : List ℕ → List ℕ → Option (List ℕ)
behind front text =
    if bytes_eq front (take (length front) text) then Some (drop (length front) text) else None

-- this variable, where its name begins the text, and the literal text behind it
abbrev pub part_of : Variable → List ℕ → Option Part
part_of variable text =
    option_map (λ literal. record { variable = variable; literal = literal })
    (behind (name_of variable) text)

-- the variable that the text begins with; `z` is one in an octree alone
abbrev pub part_at : Bool → List ℕ → Option Part
part_at octree text =
    option_or (part_of Level text) (option_or (part_of X text) (option_or (part_of Y text)
    (if octree then part_of Z text else None)))

-- the variables that all texts begin with, unless one begins with none
abbrev pub parts_of : Bool → List (List ℕ) → Option (List Part)
parts_of octree [] = Some []
parts_of octree (text ∷ texts) =
    option_and_then (λ part. option_map (λ parts. part ∷ parts) (parts_of octree texts))
    (part_at octree text)

-- each opening brace begins a variable
abbrev pub is_template : Bool → List ℕ → Bool
is_template octree text = is_some (parts_of octree (split_at_braces text).1)

-- the template of a text, or the first cause why it is none
abbrev pub template_of : Bool → List ℕ → Result (List ℕ) UriError
template_of octree text =
    if not (is_template octree text) then Err Placeholder else within_limit text

-- ---- filled templates

-- the number of a tile that a variable stands for
abbrev pub number_of : ℕ → ℕ → ℕ → ℕ → Variable → ℕ
number_of level x y z Level = level
number_of level x y z X = x
number_of level x y z Y = y
number_of level x y z Z = z

-- the number in decimal, and the literal text behind the variable
abbrev pub filled : ℕ → Part → List ℕ
filled number part = decimal number ++ part.literal

-- each variable replaced by its number in decimal
abbrev pub filled_parts : List Part → ℕ → ℕ → ℕ → ℕ → List ℕ
filled_parts parts level x y z =
    flat_map (λ part. filled (number_of level x y z part.variable) part) parts

-- the text with each variable replaced by its number in decimal
abbrev pub fill : List ℕ → ℕ → ℕ → ℕ → ℕ → List ℕ
fill text level x y z =
    (split_at_braces text).0
    ++ filled_parts (unwrap_or (parts_of true (split_at_braces text).1) []) level x y z

-- ---- what a template keeps ready

-- the texts behind a brace and behind each later one
abbrev pub texts_behind : Option (List ℕ) → List (List ℕ)
texts_behind None = []
texts_behind (Some text) = (split_at_braces text).0 ∷ (split_at_braces text).1

-- the text before the first variable, and all variables with the literal text behind each
pub record IsRead (text head : List ℕ) (parts : List Part) : Type 0 where
  pub before : head ≡ (split_at_braces text).0
  pub read : parts_of true (split_at_braces text).1 ≡ Some parts
