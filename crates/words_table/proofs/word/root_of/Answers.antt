use Rattle.std.proofs.Common.{◌≡◌, ◌≢◌, ◌∙◌, ◌⊎◌, List, ℕ, Ok, Err, codes, refl, sym, ap, inl, inr, subst}
use Rattle.std.specs.Result.{result_ok}
use Rattle.url.proofs.OnLiterals.{url_on_literals}
use Rattle.tile_uri.specs.Addresses.{address_of, join}
use Rattle.tile_uri.specs.declared.error.UriError.{UriError}
use Rattle.tile_uri.specs.declared.error.UriError.TheVariants.{OutOfMemory}
use Rattle.words_table.specs.Commands.{Answers, root_of}
use Rattle.words_table.specs.declared.error.WordsError.{WordsError}
use Rattle.words_table.specs.declared.error.WordsError.TheVariants as cause
use Rattle.words_table.proofs.word.root_of.Goals as goal

base_is : address_of (codes "http://tiles/") ≡ Ok (codes "http://tiles/")
unfolding url_on_literals
base_is = refl

pub returns-in-Ok-resolve : goal.returns-in-Ok-resolve
returns-in-Ok-resolve c =
    let word = c.args.word.now in
    let address = c.in-Ok-resolve.address in
    let base : c.in-Ok.base ≡ codes "http://tiles/" = cc (c.in-Ok.ensures, base_is) in
    let joined : join c.in-Ok.base word ≡ Ok address = c.in-Ok-resolve.ensures in
    ap (λ b. result_ok (join b word)) (sym base) ∙ ap result_ok joined

refused : (word : List ℕ) (error : UriError) (answer : WordsError)
    → (error ≡ OutOfMemory) ⊎ (join (codes "http://tiles/") word ≡ Err error)
    → (answer ≡ cause.OutOfMemory) ⊎ ((answer ≡ cause.NotACommand) × (error ≢ OutOfMemory))
    → Answers {A = List ℕ} (Err answer) (root_of word)
refused word error answer failed (inl memory) =
    let P : WordsError → Type 0 = λ e. Answers {A = List ℕ} (Err e) (root_of word) in
    subst P (sym memory) tt
refused word error answer (inl memory) (inr none) = absurd (none.1 memory)
refused word error answer (inr failed) (inr none) =
    let P : WordsError → Type 0 = λ e. Answers {A = List ℕ} (Err e) (root_of word) in
    subst P (sym none.0) (ap result_ok failed)

pub returns : goal.returns
returns c =
    let base : c.in-Ok.base ≡ codes "http://tiles/" = cc (c.in-Ok.ensures, base_is) in
    let failed = rw base at c.in-Err.ensures in
    refused c.args.word.now c.in-Err.error c.cause_of.result failed c.cause_of.ensures
