-- A key is taken.
use Rattle.std.specs.Prelude.{if◌then◌else◌}
use Rattle.std.proofs.Common.{ℕ, ◌+◌, ◌≤◌, ◌≡◌, ◌==◌, Bool, true, false, not, ◌&&◌, ◌||◌, nat_lt, List, [], ◌∷◌, ◌++◌, length, length-append, map, refl, sym, ◌∙◌, ap, eq-eqb, arith}
use Rattle.std.specs.List.{list_any}
use Rattle.std.proofs.lemmas.List.Folds.{list_any-append}
use Rattle.lists.specs.Rooms.{Roomy}
use Rattle.tile_types.specs.declared.key.Key.{Key}
use Rattle.tile_types.specs.declared.want.Want.{Want}
use Rattle.tile_types.specs.Keys.{same_key}
use Rattle.tile_types.proofs.Keys.{key_refl}
use Rattle.load_queue.specs.Queues.{Queue, QueuedWant, with_hidden}
use Rattle.view_notes.specs.Follows.{Noted}
use Rattle.engine_state.specs.declared.entry.Entry.{Entry}
use Rattle.engine_state.specs.declared.entry.Entry.TheVariants.{Taken}
use Rattle.engine_state.specs.declared.flight.Flight.{Flight}
use Rattle.engine_state.specs.declared.limits.TheConstants.{ATTEMPT_LIMIT}
use Rattle.engine_state.specs.State.{State}
use Rattle.engine_state.specs.Frames.{tree}
use Rattle.engine_state.specs.Loading.{attempts_of, best_want, flies, is_flight_of, is_key_of, is_squeezed, queued, want, wanted_by}
use Rattle.engine_state.specs.After.{after}
use Rattle.engine_state.specs.Journal.{replay}
use Rattle.engine_core.specs.declared.parts.Parts.{Parts}
use Rattle.engine_core.specs.Mirrors.{AreNoted, HasRoom, Lives, state_of}
use Rattle.engine_core.proofs.Steps.{both, goes_on, replay_more}

-- what is wanted stays
same_want : (s : State) (pass : ℕ) (key : Key) → want (after s (Taken pass key)) ≡ want s
unfolding tree wanted_by
same_want s pass key = refl

-- and so are the notes
same_notes : (s : State) (pass : ℕ) (key : Key) (noted : Bool) (notes : List Noted)
    → AreNoted s noted notes → AreNoted (after s (Taken pass key)) noted notes
unfolding tree
same_notes s pass key noted notes h = h

module _ (s : State) (pass : ℕ) (key : Key) where
  abbrev flight : Flight
  flight = record { key = key; pass = pass }

  hides : (w : Want) → with_hidden true key (queued s w) ≡ queued (after s (Taken pass key)) w
  hides w =
      turned (list_any (λ f. same_key f.key w.key) s.flying)
      (not (is_squeezed s w.key) && nat_lt (attempts_of s w.key) ATTEMPT_LIMIT)
      (same_key key w.key)
      ∙ ap (λ b. as_hidden (not (not b && (not (is_squeezed s w.key)
      && nat_lt (attempts_of s w.key) ATTEMPT_LIMIT))))
      (sym (list_any-append (λ f. same_key f.key w.key) s.flying (flight ∷ [])))
    where
      as_hidden : Bool → QueuedWant
      as_hidden b = record { want = w; hidden = b }

      turned : (a b c : Bool) → (if c then as_hidden true else as_hidden (not (not a && b)))
          ≡ as_hidden (not (not (a || (c || false)) && b))
      turned true b true = refl
      turned true b false = refl
      turned false b true = refl
      turned false b false = refl

  -- the queue hides the key that is taken
  all_hide : (ws : List Want) → map (with_hidden true key) (map (queued s) ws)
      ≡ map (queued (after s (Taken pass key))) ws
  all_hide [] = refl
  all_hide (w ∷ ws) =
      ap (λ v. v ∷ map (with_hidden true key) (map (queued s) ws)) (hides w)
      ∙ ap (λ vs. queued (after s (Taken pass key)) w ∷ vs) (all_hide ws)

pub taken_lives : (p : Parts) (entries : Roomy Entry) (queue : Queue) (flying : Roomy Flight)
    (pass : ℕ) (key : Key) → Lives p → HasRoom 1 (length p.flying.items + 1) p
    → (state_of p).closed ≡ false → is_key_of key (best_want (state_of p)) ≡ true
    → entries.items ≡ p.entries.items ++ Taken pass key ∷ []
    → p.entries.spare ≤ entries.spare + 1
    → queue.order ≡ p.queue.order → queue.wants ≡ map (with_hidden true key) p.queue.wants
    → flying.items ≡ p.flying.items ++ record { key = key; pass = pass } ∷ []
    → Lives (record p { entries = entries; queue = queue; flying = flying })
taken_lives p entries queue flying pass key l r still best is spare order wants more =
    let s = state_of p in
    let m = l.mirrors in
    let long : length entries.items ≡ length p.entries.items + 1 =
    ap length is ∙ length-append p.entries.items (Taken pass key ∷ []) in
    let flights : length flying.items ≡ length p.flying.items + 1 =
    ap length more ∙ length-append p.flying.items (flight s pass key ∷ []) in
    goes_on p (record p { entries = entries; queue = queue; flying = flying }) (Taken pass key) l
    (both (s.opened && not s.closed) _ (both s.opened _ l.is_opened (ap not still)) best)
    is l.is_opened
    (record {
      closed = m.closed;
      looks = m.looks;
      views = m.views;
      shows = m.shows;
      knows = m.knows;
      fetches = record {
        flying_is = more ∙ ap (λ fs. fs ++ flight s pass key ∷ []) m.fetches.flying_is;
        attempts_is = m.fetches.attempts_is;
        squeezed_is = m.fetches.squeezed_is;
      };
      noted = same_notes s pass key p.noted p.notes.items m.noted;
      queues = record {
        order_is = order ∙ m.queues.order_is;
        wants_are = λ h. wants
            ∙ ap (map (with_hidden true key)) (m.queues.wants_are h)
            ∙ all_hide s pass key (want s)
            ∙ ap (map (queued (after s (Taken pass key)))) (sym (same_want s pass key));
      };
    })
    (record {
      entries = omega (arith, r.entries);
      attempts = omega (arith, r.attempts);
      squeezed = omega (arith, r.squeezed);
      absent = omega (arith, r.absent);
      store = omega (arith, r.store);
    })
    (omega (arith, l.few_looks))

-- ---- what is taken flies

flies_last : (a b c : Bool) → b ≡ true → c ≡ true → (a || (b && c || false)) ≡ true
flies_last true b c e h = refl
flies_last false true true e h = refl
flies_last false true false e h = cc
flies_last false false c e h = cc

pub taken_flies : (entries : List Entry) (pass : ℕ) (key : Key)
    → flies (replay (entries ++ Taken pass key ∷ [])) pass key ≡ true
taken_flies entries pass key =
    let s = replay entries in
    ap (λ t. flies t pass key) (replay_more entries (Taken pass key))
    ∙ list_any-append (is_flight_of pass key) s.flying (flight s pass key ∷ [])
    ∙ flies_last (list_any (is_flight_of pass key) s.flying) (same_key key key) (pass == pass)
    (key_refl key) (eq-eqb pass pass refl)
