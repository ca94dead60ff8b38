-- Which file below the current folder an address names (RFC 3986, section 3).
use Rattle.std.specs.Prelude.{ℕ, List, [], length, take, drop, Bool, not, ◌==◌, ◌||◌, ◌&&◌, Option, Some, None, if◌then◌else◌, bytes_eq, codes}
use Rattle.std.specs.Char.{is_ascii_alphanumeric}
use Rattle.std.specs.List.{list_all, list_any, slice_split, before_first}

-- section 2.3: unreserved = ALPHA / DIGIT / "-" / "." / "_" / "~"
abbrev pub is_unreserved : ℕ → Bool
is_unreserved b = is_ascii_alphanumeric b || list_any (λ c. c == b) (codes "-._~")

-- a name of a file or a folder: not empty, neither `.` nor `..`, and of unreserved characters alone
abbrev pub is_name : List ℕ → Bool
is_name segment =
    not (bytes_eq segment []) && not (bytes_eq segment (codes ".")) && not (bytes_eq segment (codes ".."))
    && list_all is_unreserved segment

abbrev pub slash : ℕ
slash = 0x2F

abbrev pub question_mark : ℕ
question_mark = 0x3F

abbrev pub number_sign : ℕ
number_sign = 0x23

-- names, with slashes between them
abbrev pub is_path : List ℕ → Bool
is_path path = list_all is_name (slice_split (λ b. b == slash) path)

-- what stands before a query and a fragment
abbrev pub path_in : List ℕ → List ℕ
path_in bytes = before_first (λ b. b == question_mark) (before_first (λ b. b == number_sign) bytes)

-- what stands behind a front that the bytes begin with
abbrev pub behind : List ℕ → List ℕ → Option (List ℕ)
behind front bytes = if bytes_eq front (take (length front) bytes) then Some (drop (length front) bytes) else None

-- the path that begins the bytes, where it leads to a file below the folder
abbrev pub checked : Option (List ℕ) → Option (List ℕ)
checked None = None
checked (Some bytes) = if is_path (path_in bytes) then Some (path_in bytes) else None

-- the path below the current folder of an address that begins with `http://tiles/`
abbrev pub path_at : List ℕ → Option (List ℕ)
path_at address = checked (behind (codes "http://tiles/") address)
