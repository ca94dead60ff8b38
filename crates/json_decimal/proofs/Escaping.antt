-- Texts that are printed run by run.
use Rattle.std.proofs.Common.{◌≡◌, ℕ, ◌≤◌, List, [], ◌∷◌, ◌++◌, length, take, drop, true, refl, sym, ap, ◌∙◌, arith, append_assoc, append-nil}
use Rattle.std.specs.List.{flat_map}
use Rattle.std.proofs.lemmas.Bool.Decides.{nat_tests}
use Rattle.std.proofs.lemmas.Grind.{flat_map-append}
use Rattle.std.proofs.lemmas.List.{take-append-drop, take-append-le, length-take, length-append}
use Rattle.json_decimal.specs.Printed.{escaped}
use Rattle.json_decimal.specs.Strings.{is_plain, plain_len}
use Rattle.json_decimal.proofs.Steps.{either}

plain_byte : (b : ℕ) → is_plain b ≡ true → escaped b ≡ b ∷ []
plain_byte b h = grind (arith, nat_tests)

-- bytes that stand for themselves are printed as they are
plain_run : (bs : List ℕ) → flat_map escaped (take (plain_len bs) bs) ≡ take (plain_len bs) bs
plain_run [] = refl
plain_run (b ∷ bs) =
    let P : ℕ → Type 0 = λ n. flat_map escaped (take n (b ∷ bs)) ≡ take n (b ∷ bs) in
    either (is_plain b) _ 0 P
    (λ h. ap (λ (t : List ℕ). t ++ flat_map escaped (take (plain_len bs) bs)) (plain_byte b h)
    ∙ ap (λ (t : List ℕ). b ∷ t) (plain_run bs))
    (λ h. refl)

-- a run, and what is behind it
pub run_printed : (rest run more : List ℕ) (n : ℕ) → n ≡ plain_len rest → run ≡ take n rest
    → more ≡ drop n rest → flat_map escaped rest ≡ run ++ flat_map escaped more
run_printed rest run more n e f g =
    rw (g, f, e)
    (ap (flat_map escaped) (sym (take-append-drop (plain_len rest) rest))
    ∙ flat_map-append escaped (take (plain_len rest) rest) (drop (plain_len rest) rest)
    ∙ ap (λ (t : List ℕ). t ++ flat_map escaped (drop (plain_len rest) rest)) (plain_run rest))

module _ (old into new text rest run more : List ℕ) (n : ℕ) (len : n ≡ plain_len rest)
    (front : run ≡ take n rest) (back : more ≡ drop n rest) (added : new ≡ into ++ run)
    (told : into ++ flat_map escaped rest ≡ old ++ flat_map escaped text) where
  -- a run is added
  run_added : new ++ flat_map escaped more ≡ old ++ flat_map escaped text
  run_added =
      ap (λ (t : List ℕ). t ++ flat_map escaped more) added
      ∙ append_assoc into run (flat_map escaped more)
      ∙ ap (λ (t : List ℕ). into ++ t) (sym (run_printed rest run more n len front back))
      ∙ told

  -- and it was the last
  pub last_run : more ≡ [] → new ≡ old ++ flat_map escaped text
  last_run h =
      sym (append-nil new)
      ∙ ap (λ (t : List ℕ). new ++ flat_map escaped t) (sym h)
      ∙ run_added

  -- and so is the byte behind it
  pub byte_added : (then : List ℕ) (byte : ℕ) (behind : List ℕ) → more ≡ byte ∷ behind
      → then ≡ new ++ escaped byte
      → then ++ flat_map escaped behind ≡ old ++ flat_map escaped text
  byte_added then byte behind h k =
      ap (λ (t : List ℕ). t ++ flat_map escaped behind) k
      ∙ append_assoc new (escaped byte) (flat_map escaped behind)
      ∙ ap (λ (t : List ℕ). new ++ flat_map escaped t) (sym h)
      ∙ run_added

-- what stood in front still does, behind two steps
pub kept_behind : (old into new then front back : List ℕ) → new ≡ into ++ front
    → then ≡ new ++ back → take (length old) into ≡ old → take (length old) then ≡ old
kept_behind old into new then front back e f h =
    let n : length old ≤ length into = omega (arith, ap length h, length-take (length old) into) in
    rw (f, e)
    (take-append-le (length old) (into ++ front) back (omega (arith, n, length-append into front))
    ∙ take-append-le (length old) into front n
    ∙ h)
