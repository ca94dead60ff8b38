-- What holds of the words of arguments that are given one by one.
use Rattle.std.specs.Prelude.{IfOk, ◌⊎◌}
use Rattle.std.proofs.Common.{ℕ, List, Result, Ok, Err, inl, inr, String, Global}
use Rattle.stream_cli.specs.Arguments.{AreGiven, Given, OfGiven, words_behind}

pub of_given : {E : Type 0} (r : Result Given E) (all : List (String Global)) (P : Type 0)
    (Q : List (List ℕ) → Type 0) → IfOk r (λ given. AreGiven given all)
    → (P → Q (words_behind all)) → IfOk r (λ given. P → OfGiven given Q)
of_given (Ok given) all P Q are holds = λ p. record {
  arguments = all;
  are = are;
  of_words = holds p;
}
of_given (Err e) all P Q are holds = tt

pub of_given_or : {E : Type 0} (r : Result Given E) (all : List (String Global)) (P U : Type 0)
    (Q : List (List ℕ) → Type 0) → IfOk r (λ given. AreGiven given all)
    → (P → Q (words_behind all) ⊎ U) → IfOk r (λ given. P → OfGiven given Q ⊎ U)
of_given_or (Ok given) all P U Q are holds = λ p. elim (holds p) [
  | inl q ↦ inl (record { arguments = all; are = are; of_words = q })
  | inr u ↦ inr u
]
of_given_or (Err e) all P U Q are holds = tt
