use Rattle.std.proofs.Common.{◌≡◌, ◌∙◌, map, sym, ap, subst}
use Rattle.std.specs.List.{list_any, IsDistinct}
use Rattle.tile_types.specs.Keys.{same_key}
use Rattle.view_notes.specs.Asking.{TellsWantedBy}
use Rattle.engine_state.specs.Loading.{want}
use Rattle.engine_core.specs.Filling.{hidden_where, is_given_up}
use Rattle.engine_core.specs.Holding.{holdings_of}
use Rattle.engine_core.specs.Mirrors.{state_of}
use Rattle.engine_core.proofs.Filled.{filled_lives, hidden_are, wants_are}
use Rattle.engine_core.proofs.parts.Parts.fill_queue.Goals as goal

pub set_wants-requires : goal.set_wants-requires
set_wants-requires c =
    let p = c.note.new.self in
    let wants = c.in_ok-wants.wants in
    let are : wants ≡ want (state_of p) =
    wants_are p wants c.in_ok-note.ensures.lives c.in_ok-note.ensures.noted
    (subst (λ notes. TellsWantedBy (holdings_of p.cache.residents p.absent.keys) notes wants)
    c.deref.ensures.value c.in_ok-wants.ensures) in
    subst (λ ws. IsDistinct same_key (map (λ want. want.key) ws)) (sym are)
    (c.wants_are_to_load.ensures.once (state_of p))

pub returns-clause-lives : goal.returns-clause-lives
returns-clause-lives c =
    let p = c.note.new.self in
    let wants = c.in_ok-wants.wants in
    let are : wants ≡ want (state_of p) =
    wants_are p wants c.in_ok-note.ensures.lives c.in_ok-note.ensures.noted
    (subst (λ notes. TellsWantedBy (holdings_of p.cache.residents p.absent.keys) notes wants)
    c.deref.ensures.value c.in_ok-wants.ensures) in
    let flown = c.hide_flying.new.queue.wants in
    filled_lives p c.hide_given_up.new.queue c.in_ok-note.ensures.lives
    (c.hide_given_up.ensures.order ∙ c.hide_all.ensures.order ∙ c.hide_flying.ensures.order
    ∙ c.in_ok-set_wants.ensures.order)
    (hidden_are p c.in_ok-note.ensures.lives wants c.hide_given_up.new.queue.wants
    c.set_wants.new.self.wants flown c.hide_all.new.queue.wants are c.in_ok-set_wants.ensures.ok
    (c.hide_flying.ensures.wants
    ∙ ap (λ fs. map (hidden_where (λ key. list_any (λ f. same_key f.key key) fs))
    c.set_wants.new.self.wants) c.as_slice.ensures)
    (c.hide_all.ensures.wants
    ∙ ap (λ ks. map (hidden_where (λ key. list_any (λ k. same_key k key) ks)) flown)
    c.as_slice-2.ensures)
    (c.hide_given_up.ensures.wants
    ∙ ap (λ ks. map (hidden_where (is_given_up ks)) c.hide_all.new.queue.wants)
    c.as_slice-3.ensures))
