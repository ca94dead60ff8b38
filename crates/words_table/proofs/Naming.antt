-- What the first word names, where words are references.
use Rattle.std.proofs.Common.{◌≡◌, ◌∙◌, Bool, false, true, Bor, List, ℕ, ◌∷◌, Option, Some, None, ap, sym, if◌then◌else◌}
use Rattle.std.specs.List.{list_any}
use Rattle.clap.proofs.WalkLemmas.{list_any-map}
use Rattle.session_script.specs.Chains.{◌>>=◌}
use Rattle.words_table.specs.Commands.{is_option, name_of, named, texts}
use Rattle.words_table.specs.declared.command_name.CommandName.{CommandName}

abbrev Words : Type 0
Words = List (Bor (List ℕ))

-- the test of options
abbrev HasOption : Words → Bool → Type 0
HasOption behind answer = list_any (λ word. is_option word.now) behind ≡ answer

abbrev behind_name : Words → Bool → Option (List (List ℕ))
behind_name behind tested = if tested then None else Some (texts behind)

named_by : (words : Words) (first : Bor (List ℕ)) (behind : Words) (name : CommandName)
    (tested : Bool)
    → words ≡ first ∷ behind → name_of first.now ≡ Some name → HasOption behind tested
    → named (texts words) ≡ (behind_name behind tested >>= λ rest. Some (name, rest))
named_by words first behind name tested are is has =
    let option = sym (list_any-map is_option (λ (word : Bor (List ℕ)). word.now) behind) ∙ has in
    let whole : Option CommandName → Bool → Option (CommandName × List (List ℕ)) = λ o b.
    o >>= λ n. behind_name behind b >>= λ rest. Some (n, rest) in
    ap (λ (ws : Words). named (texts ws)) are
    ∙ ap (λ o. whole o (list_any is_option (texts behind))) is
    ∙ ap (λ b. whole (Some name) b) option

pub named_plain : (words : Words) (first : Bor (List ℕ)) (behind : Words) (name : CommandName)
    → words ≡ first ∷ behind → name_of first.now ≡ Some name → HasOption behind false
    → Some (name, texts behind) ≡ named (texts words)
named_plain words first behind name are is none =
    sym (named_by words first behind name false are is none)

pub named_option : (words : Words) (first : Bor (List ℕ)) (behind : Words) (name : CommandName)
    → words ≡ first ∷ behind → name_of first.now ≡ Some name → HasOption behind true
    → None ≡ named (texts words)
named_option words first behind name are is some =
    sym (named_by words first behind name true are is some)
