-- What `clap` makes of a word that doesn't begin with `-`, where the command has no subcommand: it
-- goes to the next place.
use Rattle.std.proofs.Common.{◌≡◌, ℕ, false, ◌==◌, List, [], ◌∷◌, None, ap, ap₂, refl, arith}
use Rattle.std.proofs.lemmas.Bool.Decides.{nat_tests}
use Rattle.std.specs.Prelude.{fold}
use Rattle.std.specs.Str.{bytes_eq}
use Rattle.clap.specs.Faults.{check_fault, defaults_fault, settle_fault, step_fault, walk_fault}
use Rattle.clap.specs.Faults.{word_fault}
use Rattle.clap.specs.Kinds.{Kinds, or_else}
use Rattle.clap.specs.Lexer.{long_of, short_of}
use Rattle.clap.specs.Simple.{Shape}
use Rattle.clap.specs.Walk.{Held, Rule, Step, Text, Walk, after_step, arg_by_index, finished, idle}
use Rattle.clap.specs.Walk.{settled, to_positional, value, walked, word_met}
use Rattle.words_table.specs.Commands.{is_option}

-- ---- the word

no_hyphen : (x : ℕ) (xs : Text) → is_option (x ∷ xs) ≡ false → (x == 45) ≡ false
no_hyphen x xs plain = grind (arith, nat_tests)

no_dashes : (word : Text) → is_option word ≡ false → bytes_eq word (45 ∷ 45 ∷ []) ≡ false
no_dashes [] plain = refl
no_dashes (x ∷ xs) plain = rw (no_hyphen x xs plain) refl

no_long : (word : Text) → is_option word ≡ false → long_of word ≡ None
no_long [] plain = refl
no_long (x ∷ xs) plain = rw (no_hyphen x xs plain) refl

no_short : (word : Text) → is_option word ≡ false → short_of word ≡ None
no_short [] plain = refl
no_short (x ∷ xs) plain = rw (no_hyphen x xs plain) refl

-- ---- its step

plain_met : (rules : List Rule) (n : ℕ) (word : Text) (h : Held) → is_option word ≡ false
    → word_met rules [] false idle n word h ≡ (h, value)
plain_met rules n word h plain =
    rw (no_dashes word plain, no_long word plain, no_short word plain) refl

plain_fault : (s : Shape) (word : Text) (h : Held) → is_option word ≡ false
    → word_fault s [] false idle word h ≡ []
plain_fault s word h plain =
    rw (no_dashes word plain, no_long word plain, no_short word plain) refl

-- between two words, where the next place is the n-th
abbrev pub walk_at : Held → ℕ → Walk
walk_at h n = record {
  held = h;
  waiting = idle;
  position = n;
  is_trailing = false;
  stopped = None;
}

-- behind one more word
abbrev pub walk_behind : List Rule → ℕ → Text → Held → Walk
walk_behind rules n word h = to_positional rules (arg_by_index rules n) word (walk_at h n) h

pub walked_plain : (rules : List Rule) (h : Held) (n : ℕ) (word : Text) → is_option word ≡ false
    → walked rules [] (walk_at h n) word ≡ walk_behind rules n word h
unfolding walked
walked_plain rules h n word plain =
    ap (λ (met : Held × Step). after_step rules word (walk_at h n) met.0 met.1)
    (plain_met rules n word h plain)

-- ---- the kinds of error

-- what may fail behind the last word
abbrev pub end_fault : Shape → Held → Kinds
end_fault s end = or_else (settle_fault s.rules s.args_override_self end)
    (or_else (defaults_fault (settled s.rules end).rows s.rules)
    (check_fault s (finished s.rules end) false))

-- what may fail from here on
abbrev pub fault_from : Shape → Walk → List Text → Kinds
fault_from s w words =
    or_else (walk_fault s [] w words) (end_fault s (fold (walked s.rules []) w words).held)

abbrev pub with_step : Kinds → Kinds → Kinds → Kinds
with_step step behind end = or_else (or_else step behind) end

pub fault_step : (s : Shape) (h : Held) (n : ℕ) (word : Text) (words : List Text)
    → is_option word ≡ false
    → fault_from s (walk_at h n) (word ∷ words)
    ≡ with_step (step_fault s n h value) (walk_fault s [] (walk_behind s.rules n word h) words)
    (end_fault s (fold (walked s.rules []) (walk_behind s.rules n word h) words).held)
unfolding walk_fault
fault_step s h n word words plain =
    let turn : Held × Step → Kinds → Kinds = λ met kinds. or_else kinds
    (step_fault s n met.0 met.1) in
    let whole : Kinds → Walk → Kinds = λ step w. with_step step (walk_fault s [] w words)
    (end_fault s (fold (walked s.rules []) w words).held) in
    ap₂ whole (ap₂ turn (plain_met s.rules n word h plain) (plain_fault s word h plain))
    (walked_plain s.rules h n word plain)
