-- A queue is filled with what the latest views want.
use Rattle.std.proofs.Common.{◌≡◌, Bool, true, false, not, ◌&&◌, ◌||◌, List, [], ◌∷◌, ◌++◌, map, refl, ◌∙◌, ap}
use Rattle.std.specs.List.{flat_map, list_any}
use Rattle.tile_types.specs.declared.key.Key.{Key}
use Rattle.tile_types.specs.declared.want.Want.{Want}
use Rattle.tile_types.specs.Keys.{same_key}
use Rattle.cut_core.specs.Wants.{each_once}
use Rattle.load_queue.specs.Queues.{Queue, QueuedWant, fresh_want}
use Rattle.load_queue.proofs.Keys.{same_turned}
use Rattle.view_notes.specs.Asking.{TellsWantedBy}
use Rattle.view_notes.specs.Views as notes
use Rattle.view_notes.proofs.Alike.{each_alike, wanted_alike}
use Rattle.view_notes.proofs.Views.{wanted_once}
use Rattle.engine_state.specs.declared.flight.Flight.{Flight}
use Rattle.engine_state.specs.declared.seen.Seen.{Seen}
use Rattle.engine_state.specs.State.{State}
use Rattle.engine_state.specs.Frames.{holdings, tree}
use Rattle.engine_state.specs.Loading.{queued, want, wanted_by}
use Rattle.engine_core.specs.declared.parts.Parts.{Parts}
use Rattle.engine_core.specs.Filling.{hidden_where, is_given_up}
use Rattle.engine_core.specs.Holding.{holdings_of}
use Rattle.engine_core.specs.Mirrors.{Lives, state_of}
use Rattle.engine_core.proofs.Onces.{once_of_each}
use Rattle.engine_core.proofs.Sides.{holdings_are}

-- ---- what is wanted

wishes_of_views : (s : State) (views : List Seen)
    → flat_map (λ view. notes.wishes view (holdings s) (tree s)) (map (λ seen. seen.view) views)
    ≡ flat_map (λ seen. notes.wishes seen.view (holdings s) (tree s)) views
wishes_of_views s [] = refl
wishes_of_views s (v ∷ views) =
    ap (λ ws. notes.wishes v.view (holdings s) (tree s) ++ ws) (wishes_of_views s views)

-- what several views want is what each wants, each key once
wanted_of_views : (s : State)
    → notes.wanted_by (map (λ seen. seen.view) s.views) (holdings s) (tree s) ≡ want s
unfolding wanted_by
wanted_of_views s =
    ap each_once (wishes_of_views s s.views)
    ∙ once_of_each (λ seen. notes.wishes seen.view (holdings s) (tree s))
    (λ seen. wanted_by s seen.view) (λ seen. wanted_once seen.view (holdings s) (tree s)) s.views

pub wants_are : (p : Parts) (wants : List Want) → Lives p → p.noted ≡ true
    → TellsWantedBy (holdings_of p.cache.residents p.absent.keys) p.notes.items wants
    → wants ≡ want (state_of p)
wants_are p wants l noted tells =
    let s = state_of p in
    let here = holdings_of p.cache.residents p.absent.keys in
    let views = map (λ (seen : Seen). seen.view) s.views in
    tells views (tree s)
    (each_alike (holdings s) here (holdings_are p l) p.notes.items views (tree s)
    (l.mirrors.noted noted))
    ∙ wanted_alike (holdings s) here (holdings_are p l) views (tree s)
    ∙ wanted_of_views s

-- ---- what is hidden

turned_keys : (keys : List Key) (key : Key)
    → list_any (λ k. same_key k key) keys ≡ list_any (same_key key) keys
turned_keys [] key = refl
turned_keys (k ∷ ks) key =
    ap (λ b. b || list_any (λ j. same_key j key) ks) (same_turned k key)
    ∙ ap (λ b. same_key key k || b) (turned_keys ks key)

module _ (s : State) where
  abbrev flies : Key → Bool
  flies key = list_any (λ f. same_key f.key key) s.flying

  abbrev squeezes : Key → Bool
  squeezes key = list_any (λ k. same_key k key) s.squeezed

  hidden_so : (w : Want) → hidden_where (is_given_up s.attempts)
      (hidden_where squeezes (hidden_where flies (fresh_want w))) ≡ queued s w
  hidden_so w =
      ap (λ b. record {
        want = w;
        hidden = (false || flies w.key || b)
            || is_given_up s.attempts w.key;
      }) (turned_keys s.squeezed w.key)
      ∙ ap (λ b. record { want = w; hidden = b })
      (bools (flies w.key) (list_any (same_key w.key) s.squeezed) _)
    where
      bools : (a b c : Bool) → (((false || a) || b) || not c) ≡ not (not a && (not b && c))
      bools true b c = refl
      bools false true c = refl
      bools false false c = refl

  all_hidden_so : (ws : List Want) → map (hidden_where (is_given_up s.attempts))
      (map (hidden_where squeezes) (map (hidden_where flies) (map fresh_want ws)))
      ≡ map (queued s) ws
  all_hidden_so [] = refl
  all_hidden_so (w ∷ ws) =
      ap (λ v. v ∷ map (hidden_where (is_given_up s.attempts))
      (map (hidden_where squeezes) (map (hidden_where flies) (map fresh_want ws)))) (hidden_so w)
      ∙ ap (λ vs. queued s w ∷ vs) (all_hidden_so ws)

-- what is squeezed, what flies and what is given up is hidden
pub hidden_are : (p : Parts) → Lives p → (wants : List Want)
    → (list set flown full : List QueuedWant) → wants ≡ want (state_of p)
    → set ≡ map fresh_want wants
    → flown ≡ map (hidden_where (λ key. list_any (λ f. same_key f.key key) p.flying.items)) set
    → full ≡ map (hidden_where (λ key. list_any (λ k. same_key k key) p.squeezed.items)) flown
    → list ≡ map (hidden_where (is_given_up p.attempts.items)) full
    → list ≡ map (queued (state_of p)) (want (state_of p))
hidden_are p l wants list set flown full are set_is flown_is full_is list_is =
    let s = state_of p in
    let f = l.mirrors.fetches in
    let flies_at : List Flight → Key → Bool = λ fs key. list_any (λ f. same_key f.key key) fs in
    let full_at : List Key → Key → Bool = λ ks key. list_any (λ k. same_key k key) ks in
    let one : set ≡ map fresh_want (want s) = set_is ∙ ap (map fresh_want) are in
    let two : flown ≡ map (hidden_where (flies s)) (map fresh_want (want s)) =
    flown_is ∙ ap (λ fs. map (hidden_where (flies_at fs)) set) f.flying_is
    ∙ ap (map (hidden_where (flies s))) one in
    let three : full ≡ map (hidden_where (squeezes s))
    (map (hidden_where (flies s)) (map fresh_want (want s))) =
    full_is ∙ ap (λ ks. map (hidden_where (full_at ks)) flown) f.squeezed_is
    ∙ ap (map (hidden_where (squeezes s))) two in
    list_is ∙ ap (λ ks. map (hidden_where (is_given_up ks)) full) f.attempts_is
    ∙ ap (map (hidden_where (is_given_up s.attempts))) three ∙ all_hidden_so s (want s)

pub filled_lives : (p : Parts) (queue : Queue) → Lives p → queue.order ≡ p.queue.order
    → queue.wants ≡ map (queued (state_of p)) (want (state_of p))
    → Lives (record p { queue = queue; filled = true })
filled_lives p queue l order wants =
    let m = l.mirrors in
    record {
      is_legal = l.is_legal;
      is_opened = l.is_opened;
      mirrors = record {
        closed = m.closed;
        looks = m.looks;
        views = m.views;
        shows = m.shows;
        knows = m.knows;
        fetches = m.fetches;
        noted = m.noted;
        queues = record { order_is = order ∙ m.queues.order_is; wants_are = λ h. wants };
      };
      room = record {
        entries = l.room.entries;
        attempts = l.room.attempts;
        squeezed = l.room.squeezed;
        absent = l.room.absent;
        store = l.room.store;
      };
      few_looks = l.few_looks;
    }
