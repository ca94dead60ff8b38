-- The first piece of bytes, and the first line of a text.
use Rattle.std.proofs.Common.{◌≡◌, ◌∙◌, ℕ, ◌+◌, ◌<◌, ◌==◌, List, [], ◌∷◌, length, take, drop, None, Some, Bool, false, true, ap, arith, ltb, cond, refl}
use Rattle.std.proofs.lemmas.Bool.{ltb-false, ltb-true}
use Rattle.std.proofs.lemmas.List.Splits.{length-slice_split, slice_split_first, slice_split_none}
use Rattle.std.proofs.lemmas.List.Sums.{fails_before_first}
use Rattle.std.specs.List.{position, position_or_len}
use Rattle.std.specs.Str.Lines.{lines_of_parts, strip_carriage_return}
use Rattle.session_script.specs.Ascii.{parts_at}

-- where the first mark stands
pub pieces_at : (mark at : ℕ) (bytes : List ℕ) → position (λ byte. byte == mark) bytes ≡ Some at
    → parts_at mark bytes ≡ take at bytes ∷ parts_at mark (drop (at + 1) bytes)
pieces_at mark at bytes found =
    go (ltb (position_or_len (λ byte. byte == mark) bytes) (length bytes)) refl found
  where
    go : (b : Bool) → ltb (position_or_len (λ byte. byte == mark) bytes) (length bytes) ≡ b
        → cond b (Some (position_or_len (λ byte. byte == mark) bytes)) None ≡ Some at
        → parts_at mark bytes ≡ take at bytes ∷ parts_at mark (drop (at + 1) bytes)
    go false e h = absurd (cc)
    go true e h =
        let first = position_or_len (λ byte. byte == mark) bytes in
        let same : first ≡ at = cc in
        let split = slice_split_first (λ byte. byte == mark) bytes 0 (ltb-true first (length bytes) e) in
        split ∙ ap (λ n. take n bytes ∷ parts_at mark (drop (n + 1) bytes)) same

-- no mark stands there
pub one_piece : (mark : ℕ) (bytes : List ℕ) → position (λ byte. byte == mark) bytes ≡ None
    → parts_at mark bytes ≡ bytes ∷ []
one_piece mark bytes found =
    go (ltb (position_or_len (λ byte. byte == mark) bytes) (length bytes)) refl found
  where
    go : (b : Bool) → ltb (position_or_len (λ byte. byte == mark) bytes) (length bytes) ≡ b
        → cond b (Some (position_or_len (λ byte. byte == mark) bytes)) None ≡ None
        → parts_at mark bytes ≡ bytes ∷ []
    go true e h = absurd (cc)
    go false e h =
        let long = ltb-false (position_or_len (λ byte. byte == mark) bytes) (length bytes) e in
        slice_split_none (λ byte. byte == mark) bytes
        (λ k d below. fails_before_first (λ byte. byte == mark) bytes k d (omega (arith, long, below)))

-- there is some part
pub some_part : (mark : ℕ) (bytes : List ℕ) → 0 < length (parts_at mark bytes)
some_part mark bytes =
    rw (length-slice_split (λ byte. byte == mark) bytes) (omega arith)

first_of : (line : List ℕ) (parts : List (List ℕ)) → 0 < length parts
    → lines_of_parts (line ∷ parts) ≡ strip_carriage_return line ∷ lines_of_parts parts
first_of line [] some = absurd (omega arith)
first_of line (part ∷ parts) some = refl

-- the first line, where a line feed stands behind it
pub line_before : (bytes line more : List ℕ) → parts_at 10 bytes ≡ line ∷ parts_at 10 more
    → lines_of_parts (parts_at 10 bytes)
    ≡ strip_carriage_return line ∷ lines_of_parts (parts_at 10 more)
line_before bytes line more e =
    ap lines_of_parts e ∙ first_of line (parts_at 10 more) (some_part 10 more)
