-- A frame was given back.
use Rattle.std.proofs.Common.{ℕ, ◌+◌, ◌≤◌, ◌<◌, ◌^◌, ◌≡◌, ◌==◌, Bool, true, not, ◌&&◌, Some, List, [], ◌∷◌, ◌++◌, All, find, length, length-append, map, nat_lt, refl, sym, ◌∙◌, ap, subst, arith}
use Rattle.std.specs.List.{list_any}
use Rattle.lists.specs.Rooms.{Roomy}
use Rattle.tile_types.specs.declared.key.Key.{Key}
use Rattle.tile_types.specs.Keys.{same_key}
use Rattle.tile_cache.specs.Kept.{CacheState}
use Rattle.tile_cache.specs.Pins.{times}
use Rattle.load_queue.specs.Queues.{QueuedWant}
use Rattle.tile_types.specs.declared.want.Want.{Want}
use Rattle.view_notes.specs.Follows.{Noted}
use Rattle.engine_state.specs.declared.entry.Entry.{Entry}
use Rattle.engine_state.specs.declared.entry.Entry.TheVariants.{Returned}
use Rattle.engine_state.specs.declared.limits.TheConstants.{ATTEMPT_LIMIT}
use Rattle.engine_state.specs.State.{State}
use Rattle.engine_state.specs.Frames.{is_held, pinned, tree}
use Rattle.engine_state.specs.Loading.{attempts_of, is_flying, queued, want, wanted_by}
use Rattle.engine_state.specs.After.{after, without_first}
use Rattle.engine_state.specs.Laws.{known}
use Rattle.engine_core.specs.declared.held_pins.FramePins.{FramePins}
use Rattle.engine_core.specs.declared.parts.Parts.{Parts}
use Rattle.engine_core.specs.Mirrors.{AreNoted, Lives, state_of}
use Rattle.engine_core.proofs.PinnedFrames.{one_less, pinned_less, pins_any, pins_without, shorts_without}
use Rattle.engine_core.proofs.Steps.{both, goes_on}

-- what is wanted stays
same_want : (s : State) (pass id : ℕ) → want (after s (Returned pass id)) ≡ want s
unfolding tree wanted_by
same_want s pass id = refl

still_noted : (s : State) (pass id : ℕ) (noted : Bool) (notes : List Noted)
    → AreNoted s noted notes → AreNoted (after s (Returned pass id)) noted notes
unfolding tree
still_noted s pass id noted notes h = h

-- hidden where these keys are squeezed
abbrev queued_with : State → List Key → Want → QueuedWant
queued_with s squeezed w = record {
  want = w;
  hidden = not (not (is_flying s w.key)
      && (not (list_any (same_key w.key) squeezed) && nat_lt (attempts_of s w.key) ATTEMPT_LIMIT));
}

-- where none was squeezed, what may be taken stays
same_queue : (s : State) (pass id : ℕ) → s.squeezed ≡ []
    → map (queued s) (want s)
    ≡ map (queued (after s (Returned pass id))) (want (after s (Returned pass id)))
same_queue s pass id none =
    ap (λ keys. map (queued_with s keys) (want s)) none
    ∙ ap (map (queued_with s [])) (sym (same_want s pass id))

-- the frame is there
pub is_there : (p : Parts) (id : ℕ) → Lives p → is_held (state_of p).frames id ≡ true
    → list_any (λ f. f.id == id) p.frames.items ≡ true
is_there p id l h =
    ap (list_any (λ f. f.id == id)) l.mirrors.shows.held_is ∙ pins_any (state_of p).frames id ∙ h

has_pins : (p : Parts) (id : ℕ) (frame : FramePins) → Lives p
    → find (λ f. f.id == id) p.frames.items ≡ Some frame → (a : List ℕ)
    → times a p.cache.pins
    ≡ times a (pinned (without_first (λ f. f.id == id) (state_of p).frames))
    + times a frame.addresses
has_pins p id frame l e a =
    l.mirrors.shows.pins.same a
    ∙ pinned_less (state_of p).frames id frame
    (ap (find (λ f. f.id == id)) (sym l.mirrors.shows.held_is) ∙ e) a

-- what it shows is pinned
pub enough_pins : (p : Parts) (id : ℕ) (frame : FramePins) → Lives p
    → find (λ f. f.id == id) p.frames.items ≡ Some frame → (a : List ℕ)
    → times a frame.addresses ≤ times a p.cache.pins
enough_pins p id frame l e a = let h = has_pins p id frame l e a in omega arith

pub returned_lives : (p : Parts) (entries : Roomy Entry) (frames : Roomy FramePins)
    (cache : CacheState) (squeezed : Roomy Key) (frame : FramePins) (addresses : List (List ℕ))
    (id pass : ℕ) (filled : Bool)
    → Lives p → is_held (state_of p).frames id ≡ true
    → find (λ f. f.id == id) p.frames.items ≡ Some frame
    → frames.items ≡ without_first (λ f. f.id == id) p.frames.items
    → addresses ≡ frame.addresses → cache.residents ≡ p.cache.residents
    → ((a : List ℕ) → times a p.cache.pins ≡ times a cache.pins + times a addresses)
    → cache.budget ≡ p.cache.budget
    → (filled ≡ true → (p.filled ≡ true) × (p.squeezed.items ≡ []))
    → squeezed.items ≡ [] → squeezed.spare ≡ p.squeezed.spare + length p.squeezed.items
    → entries.items ≡ p.entries.items ++ Returned pass id ∷ []
    → p.entries.spare ≤ entries.spare + 1
    → Lives (record p {
      entries = entries;
      frames = frames;
      squeezed = squeezed;
      cache = cache;
      filled = filled;
    })
returned_lives p entries frames cache squeezed frame addresses id pass filled l y fd fe ae re pe be he
    qe qs is spare =
    let s = state_of p in
    let m = l.mirrors in
    let long : length entries.items ≡ length p.entries.items + 1 =
    ap length is ∙ length-append p.entries.items (Returned pass id ∷ []) in
    let fewer : length frames.items + 1 ≡ length p.frames.items =
    ap (λ fs. length fs + 1) fe
    ∙ one_less (λ f. f.id == id) p.frames.items (is_there p id l y) in
    goes_on p (record p {
      entries = entries;
      frames = frames;
      squeezed = squeezed;
      cache = cache;
      filled = filled;
    }) (Returned pass id) l (both s.opened _ l.is_opened y) is l.is_opened
    (record {
      closed = m.closed;
      looks = m.looks;
      views = m.views;
      shows = record {
        held_is = fe ∙ ap (without_first (λ f. f.id == id)) m.shows.held_is
            ∙ pins_without s.frames id;
        residents_is = m.shows.residents_is ∙ ap (map known) (sym re);
        pins = record {
          same = λ a.
              let had = has_pins p id frame l fd a in
              let left : times a p.cache.pins ≡ times a cache.pins + times a frame.addresses =
              pe a ∙ ap (λ texts. times a cache.pins + times a texts) ae in
              omega arith;
        };
        budget_is = be ∙ m.shows.budget_is;
        short = subst (All (λ f. length f.addresses < 2 ^ 64)) (sym fe)
            (shorts_without (λ f. f.id == id) p.frames.items m.shows.short);
      };
      knows = m.knows;
      fetches = record {
        flying_is = m.fetches.flying_is;
        attempts_is = m.fetches.attempts_is;
        squeezed_is = qe;
      };
      noted = still_noted s pass id p.noted p.notes.items m.noted;
      queues = record {
        order_is = m.queues.order_is;
        wants_are = λ h.
            let was = he h in
            m.queues.wants_are was.0
            ∙ same_queue s pass id (sym m.fetches.squeezed_is ∙ was.1);
      };
    })
    (record {
      entries = omega (arith, l.room.entries);
      attempts = l.room.attempts;
      squeezed = omega (arith, l.room.squeezed);
      absent = l.room.absent;
      store = l.room.store;
    })
    (omega (arith, l.few_looks))
