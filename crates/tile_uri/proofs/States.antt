-- The table of states reads a plain text.
use Rattle.std.proofs.Common.{length, take, drop, take_all, ◌-◌, ◌≡◌, ℕ, ◌+◌, ◌*◌, ◌<◌, ◌≤◌, ◌≢◌, subst, Bool, true, false, not, ◌&&◌, ◌||◌, ◌==◌, if◌then◌else◌, List, [], ◌∷◌, get_or, refl, sym, ap, ◌∙◌, ⊎_elim, arith}
use Rattle.std.proofs.lemmas.Bool.{cond_both, true≢false, cases_eq, or_parts}
use Rattle.std.proofs.lemmas.Bool.Decides.{Decides-eqb}
use Rattle.url.proofs.SetLemmas.{all_below, checked}
use Rattle.tile_uri.specs.declared.plain_path.TheConstants.{STEPS}
use Rattle.tile_uri.specs.PlainPaths.{is_plain_byte, is_plain_behind, step}

abbrev pub accepted : ℕ → List ℕ → Bool
accepted state text = not (state == 2) && is_plain_behind (if state == 1 then 47 else 0) text

-- ---- the table

abbrev row_is : ℕ → ℕ → Bool
row_is state b = get_or STEPS (state * 256 + b) 0 == step state b

row : (state b : ℕ) → all_below (row_is state) 256 ≡ true → b < 256
    → get_or STEPS (state * 256 + b) 0 ≡ step state b
row state b all below =
    (Decides-eqb (get_or STEPS (state * 256 + b) 0) (step state b)).0
    (checked (row_is state) 256 all b below)

pub entry : (state b : ℕ) → state ≤ 2 → b < 256 → get_or STEPS (state * 256 + b) 0 ≡ step state b
entry state b within below =
    ⊎_elim
    (λ (none : state ≡ 0). subst (λ n. get_or STEPS (n * 256 + b) 0 ≡ step n b) (sym none)
    (row 0 b refl below))
    (λ (some : state ≢ 0).
    ⊎_elim
    (λ (one : state ≡ 1). subst (λ n. get_or STEPS (n * 256 + b) 0 ≡ step n b) (sym one)
    (row 1 b refl below))
    (λ (more : state ≢ 1). subst (λ n. get_or STEPS (n * 256 + b) 0 ≡ step n b) {x = 2} {y = state}
    (omega arith) (row 2 b refl below))
    (cases_eq state 1))
    (cases_eq state 0)

pub step_within : (state b : ℕ) → step state b ≤ 2
step_within state b =
    cond_both _ 2 (if b == 47 then 1 else 0) (λ n. n ≤ 2) (λ _. omega arith)
    (λ _. cond_both (b == 47) 1 0 (λ n. n ≤ 2) (λ _. omega arith) (λ _. omega arith))

-- ---- what a state accepts

behind_same : (a b : ℕ) (text : List ℕ) → (a == 47) ≡ (b == 47)
    → is_plain_behind a text ≡ is_plain_behind b text
behind_same a b [] e = refl
behind_same a b (c ∷ text) e = ap
    (λ t. is_plain_byte c && not (t && (c == 46 || c == 47)) && is_plain_behind c text) e

decide : (two plain one mark slash : Bool) (b : ℕ) (text : List ℕ) → (mark ≡ false → slash ≡ false)
    → (b == 47) ≡ slash
    → (let next = if two || not plain || (one && mark) then 2 else (if slash then 1 else 0) in
    not (next == 2) && is_plain_behind (if next == 1 then 47 else 0) text)
    ≡ (not two && (plain && not ((if one then 47 else 0) == 47 && mark) && is_plain_behind b text))
decide true plain one mark slash b text other e = refl
decide false false one mark slash b text other e = refl
decide false true true true slash b text other e = refl
decide false true true false true b text other e = absurd (true≢false (other refl))
decide false true true false false b text other e = behind_same 0 b text (sym e)
decide false true false mark true b text other e = behind_same 47 b text (sym e)
decide false true false mark false b text other e = behind_same 0 b text (sym e)

pub accepted_step : (state b : ℕ) (text : List ℕ)
    → accepted (step state b) text ≡ accepted state (b ∷ text)
accepted_step state b text =
    decide (state == 2) (is_plain_byte b) (state == 1) (b == 46 || b == 47) (b == 47) b text
    (λ none. (or_parts (b == 46) (b == 47) none).1) refl

-- the same of a text that is not empty
pub next_accepted : (state next : ℕ) (text : List ℕ) → 1 ≤ length text
    → next ≡ step state (get_or text 0 0)
    → accepted next (take (length text - 1) (drop 1 text)) ≡ accepted state text
next_accepted state next [] some is = absurd (omega arith)
next_accepted state next (b ∷ text) some is =
    (λ i. accepted (is i) (take_all (length (b ∷ text) - 1) text (omega arith) i))
    ∙ accepted_step state b text
