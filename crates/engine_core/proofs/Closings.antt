-- An engine is closed, or tries anew.
use Rattle.std.specs.Prelude.{if◌then◌else◌}
use Rattle.std.proofs.Common.{ℕ, ◌+◌, ◌≤◌, ◌≡◌, Bool, true, false, not, List, [], ◌∷◌, ◌++◌, length, length-append, map, refl, sym, ◌∙◌, ap, subst, arith}
use Rattle.lists.specs.Rooms.{Roomy}
use Rattle.tile_types.specs.declared.key.Key.{Key}
use Rattle.view_notes.specs.Follows.{Noted}
use Rattle.engine_state.specs.declared.entry.Entry.{Entry}
use Rattle.engine_state.specs.declared.entry.Entry.TheVariants.{Closed, Retried}
use Rattle.engine_state.specs.State.{State}
use Rattle.engine_state.specs.Frames.{tree}
use Rattle.engine_state.specs.Loading.{queued, want, wanted_by}
use Rattle.engine_state.specs.After.{after}
use Rattle.engine_core.specs.declared.parts.Parts.{Parts}
use Rattle.engine_core.specs.Mirrors.{AreNoted, Lives, state_of}
use Rattle.engine_core.proofs.Steps.{both, goes_on}

-- what is wanted stays
same_want : (s : State) (pass : ℕ) → want (after s (Closed pass)) ≡ want s
unfolding tree wanted_by
same_want s pass = refl

-- and so are the notes
same_notes : (s : State) (pass : ℕ) (noted : Bool) (notes : List Noted)
    → AreNoted s noted notes → AreNoted (after s (Closed pass)) noted notes
unfolding tree
same_notes s pass noted notes h = h

-- what failed has nothing to do with them either
notes_retried : (s : State) (pass : ℕ) (noted : Bool) (notes : List Noted)
    → AreNoted s noted notes → AreNoted (after s (Retried pass)) noted notes
unfolding tree
notes_retried s pass noted notes h = h

pub closed_lives : (p : Parts) (entries : Roomy Entry) (pass : ℕ) → Lives p
    → (state_of p).closed ≡ false → entries.items ≡ p.entries.items ++ Closed pass ∷ []
    → p.entries.spare ≤ entries.spare + 1
    → Lives (record p { entries = entries; closed = true })
closed_lives p entries pass l still is spare =
    let s = state_of p in
    let m = l.mirrors in
    let long : length entries.items ≡ length p.entries.items + 1 =
    ap length is ∙ length-append p.entries.items (Closed pass ∷ []) in
    let open_still : p.closed ≡ false = m.closed ∙ still in
    let room : 0 + length p.flying.items + length p.frames.items + 1 ≤ p.entries.spare =
    subst (λ b. 0 + length p.flying.items + length p.frames.items + (if b then 0 else 1)
    ≤ p.entries.spare) open_still l.room.entries in
    goes_on p (record p { entries = entries; closed = true }) (Closed pass) l
    (both s.opened _ l.is_opened (ap not still)) is l.is_opened
    (record {
      closed = refl;
      looks = m.looks;
      views = m.views;
      shows = m.shows;
      knows = m.knows;
      fetches = m.fetches;
      noted = same_notes s pass p.noted p.notes.items m.noted;
      queues = record {
        order_is = m.queues.order_is;
        wants_are = λ h. m.queues.wants_are h ∙ ap (map (queued s)) (sym (same_want s pass));
      };
    })
    (record {
      entries = omega arith;
      attempts = l.room.attempts;
      squeezed = l.room.squeezed;
      absent = l.room.absent;
      store = l.room.store;
    })
    (omega (arith, l.few_looks))

pub retried_lives : (p : Parts) (entries : Roomy Entry) (attempts squeezed : Roomy Key) (pass : ℕ)
    → Lives p → (state_of p).closed ≡ false
    → entries.items ≡ p.entries.items ++ Retried pass ∷ []
    → length p.flying.items + length p.frames.items + 1 ≤ entries.spare
    → attempts.items ≡ [] → p.attempts.spare ≤ attempts.spare
    → squeezed.items ≡ [] → p.squeezed.spare ≤ squeezed.spare
    → Lives (record p {
      entries = entries;
      attempts = attempts;
      squeezed = squeezed;
      filled = false;
    })
retried_lives p entries attempts squeezed pass l still is spare none tried empty full =
    let s = state_of p in
    let m = l.mirrors in
    let long : length entries.items ≡ length p.entries.items + 1 =
    ap length is ∙ length-append p.entries.items (Retried pass ∷ []) in
    let open_still : p.closed ≡ false = m.closed ∙ still in
    goes_on p (record p {
      entries = entries;
      attempts = attempts;
      squeezed = squeezed;
      filled = false;
    }) (Retried pass) l
    (both s.opened _ l.is_opened (ap not still)) is l.is_opened
    (record {
      closed = m.closed;
      looks = m.looks;
      views = m.views;
      shows = m.shows;
      knows = m.knows;
      fetches = record { flying_is = m.fetches.flying_is; attempts_is = none; squeezed_is = empty };
      noted = notes_retried s pass p.noted p.notes.items m.noted;
      queues = record { order_is = m.queues.order_is; wants_are = λ h. cc };
    })
    (record {
      entries = subst (λ b. 0 + length p.flying.items + length p.frames.items
          + (if b then 0 else 1) ≤ entries.spare) (sym open_still) (omega (arith, spare));
      attempts = omega (arith, l.room.attempts);
      squeezed = omega (arith, l.room.squeezed);
      absent = l.room.absent;
      store = l.room.store;
    })
    (omega (arith, l.few_looks))
