-- One entry more.
use Rattle.std.proofs.Common.{◌≡◌, ◌≤◌, ◌&&◌, Bool, true, List, [], ◌∷◌, ◌++◌, length, sym, ◌∙◌, ap, subst}
use Rattle.engine_state.specs.declared.entry.Entry.{Entry}
use Rattle.engine_state.specs.State.{unopened}
use Rattle.engine_state.specs.Allowed.{allowed}
use Rattle.engine_state.specs.After.{after}
use Rattle.engine_state.specs.Journal.{legal, replay}
use Rattle.engine_state.proofs.Steps.{after_all-append, allowed_one}
use Rattle.engine_core.specs.declared.parts.Parts.{Parts}
use Rattle.engine_core.specs.Mirrors.{HasRoom, Lives, Mirrors, state_of}

-- two tests that pass, pass together
pub both : (a b : Bool) → a ≡ true → b ≡ true → (a && b) ≡ true
both a b p q = ap (λ x. x && b) p ∙ q

-- the state after one entry more
pub replay_more : (entries : List Entry) (e : Entry)
    → replay (entries ++ e ∷ []) ≡ after (replay entries) e
replay_more entries e = after_all-append unopened entries (e ∷ [])

pub legal_more : (entries : List Entry) (e : Entry) → legal entries ≡ true
    → allowed (replay entries) e ≡ true → legal (entries ++ e ∷ []) ≡ true
legal_more entries e so may = allowed_one unopened entries e ∙ both (legal entries) _ so may

-- the parts live on with one entry more, where it is allowed and they mirror what it leaves
pub goes_on : (p p' : Parts) (e : Entry) → Lives p → allowed (state_of p) e ≡ true
    → p'.entries.items ≡ p.entries.items ++ e ∷ [] → (after (state_of p) e).opened ≡ true
    → Mirrors (after (state_of p) e) p' → HasRoom 0 (length p'.flying.items) p'
    → p'.looks ≤ length p'.entries.items → Lives p'
goes_on p p' e l may is opened m room few =
    let state : state_of p' ≡ after (state_of p) e =
    ap replay is ∙ replay_more p.entries.items e in
    record {
      is_legal = ap legal is ∙ legal_more p.entries.items e l.is_legal may;
      is_opened = ap (λ s. s.opened) state ∙ opened;
      mirrors = subst (λ s. Mirrors s p') (sym state) m;
      room = room;
      few_looks = few;
    }
