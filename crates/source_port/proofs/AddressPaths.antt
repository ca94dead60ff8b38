-- The path of an address, by the steps that look for it.
use Rattle.std.proofs.Common.{◌≡◌, ◌≢◌, ℕ, List, ◌++◌, true, false, Some, None, refl, sym, ap, ◌∙◌, if◌then◌else◌, take, drop, length, ⊎_elim}
use Rattle.std.specs.Prelude.{codes, bytes_eq}
use Rattle.std.proofs.lemmas.Bool.{cases_Bool}
use Rattle.std.proofs.lemmas.Bool.Decides.{Decides-eqb}
use Rattle.std.proofs.lemmas.Slice.Eq.{starts_is}
use Rattle.source_port.specs.Paths.{behind, checked, is_path, path_in, path_at}

behind_none : (front bytes : List ℕ) → ((rest : List ℕ) → bytes ≢ front ++ rest) → behind front bytes ≡ None
behind_none front bytes h = ⊎_elim (λ e. absurd (h _ ((starts_is Decides-eqb bytes front _ refl).0 e))) (λ e. ap (λ t. if t then Some (drop (length front) bytes) else None) e) (cases_Bool (bytes_eq front (take (length front) bytes)))

pub elsewhere : (address : List ℕ) → ((rest : List ℕ) → address ≢ codes "http://tiles/" ++ rest) → None ≡ path_at address
elsewhere address h = sym (ap checked (behind_none (codes "http://tiles/") address h))

opened : (address rest : List ℕ) → address ≡ codes "http://tiles/" ++ rest → path_at address ≡ (if is_path (path_in rest) then Some (path_in rest) else None)
opened address rest e = ap path_at e

pub found : (address rest path : List ℕ) → address ≡ codes "http://tiles/" ++ rest → path ≡ path_in rest → true ≡ is_path path → Some path ≡ path_at address
found address rest path e f t = sym (opened address rest e ∙ ap (λ b. if b then Some (path_in rest) else None) (ap is_path (sym f) ∙ sym t) ∙ ap Some (sym f))

pub refused : (address rest path : List ℕ) → address ≡ codes "http://tiles/" ++ rest → path ≡ path_in rest → false ≡ is_path path → None ≡ path_at address
refused address rest path e f t = sym (opened address rest e ∙ ap (λ b. if b then Some (path_in rest) else None) (ap is_path (sym f) ∙ sym t))
