-- A journal with one entry more.
use Rattle.std.proofs.Common.{◌≡◌, Option, List, [], ◌∷◌, ◌++◌, sym, ◌∙◌, ap}
use Rattle.std.proofs.lemmas.List.{append-nil, append_assoc}
use Rattle.source_port.specs.Library.{Library}
use Rattle.engine_state.specs.declared.entry.Entry.{Entry}
use Rattle.engine_state.specs.State.{State, unopened}
use Rattle.engine_state.specs.After.{after}
use Rattle.engine_state.specs.Agreement.{Agrees, AgreesAt, AgreesFrom}
use Rattle.engine_state.specs.Journal.{after_all, replay}
use Rattle.engine_state.proofs.Steps.{after_all-append}
use Rattle.session_run.specs.Loading.{count_in, counts_in}

-- the state after it
pub replay_more : (j : List Entry) (e : Entry) → replay (j ++ e ∷ []) ≡ after (replay j) e
replay_more j e = after_all-append unopened j (e ∷ [])

agrees_on : (library : Option Library) (s : State) (j : List Entry) (e : Entry)
    → AgreesFrom library s j → AgreesAt library (after_all s j) e
    → AgreesFrom library s (j ++ e ∷ [])
agrees_on library s [] e a h = (h, tt)
agrees_on library s (x ∷ j) e a h = (a.0, agrees_on library (after s x) j e a.1 h)

-- it agrees with the library where the journal does, and where the entry agrees in its state
pub agrees_more : (library : Option Library) (j : List Entry) (e : Entry) → Agrees library j
    → AgreesAt library (replay j) e → Agrees library (j ++ e ∷ [])
agrees_more library j e a h = agrees_on library unopened j e a h

-- the counts of faults that it tells
pub counts_more : (j : List Entry) (e : Entry) → counts_in (j ++ e ∷ []) ≡ counts_in j ++ count_in e
counts_more [] e = append-nil (count_in e)
counts_more (x ∷ j) e =
    ap (λ counts. count_in x ++ counts) (counts_more j e)
    ∙ sym (append_assoc (count_in x) (counts_in j) (count_in e))
