-- What a base keeps ready.
use Rattle.std.specs.Prelude.{◌≡◌, ◌≤◌, ℕ, List, [], ◌∷◌, ◌++◌, length, take, false, Option, IfSome}
use Rattle.std.specs.List.{concat}
use Rattle.url.specs.declared.scheme.SchemeType.TheVariants.{SpecialNotFile}
use Rattle.url.specs.Ascii.{slash}
use Rattle.url.specs.Path.{without_last_segment}
use Rattle.url.specs.Parts.{Parts, kind_of, pieces, serialize, IsValid}
use Rattle.url.specs.Canonical.{IsCanonical}
use Rattle.tile_uri.specs.declared.address.TheConstants.{ADDRESS_LIMIT}
use Rattle.tile_uri.specs.Addresses.{has_control_or_space}

-- the text of a URL up to the last slash of its path
abbrev pub folder_of : Parts → List ℕ
folder_of url = concat (take 10 (pieces url)) ++ (without_last_segment url.path ++ slash ∷ [])

-- the folder of a URL whose scheme is special and isn't `file` (URL Standard, section 4.2)
pub record IsFolder (url : Parts) (folder : List ℕ) : Type 0 where
  pub special : kind_of url ≡ SpecialNotFile
  pub is : folder ≡ folder_of url
  pub clean : has_control_or_space folder ≡ false
  pub short : length folder ≤ ADDRESS_LIMIT

-- the parser could have written the URL, whose text is an address within the limit
pub record IsBase (url : Parts) (folder : Option (List ℕ)) : Type 0 where
  pub valid : IsValid url
  pub canonical : IsCanonical url
  pub clean : has_control_or_space (serialize url) ≡ false
  pub short : length (serialize url) ≤ ADDRESS_LIMIT
  pub ready : IfSome folder (IsFolder url)
