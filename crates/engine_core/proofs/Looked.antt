-- A viewer looked.
use Rattle.std.specs.Global.{Vec}
use Rattle.std.proofs.Common.{ℕ, ◌+◌, ◌^◌, ◌≤◌, ◌<◌, ◌≡◌, ◌==◌, Bool, true, false, not, ◌||◌, List, [], ◌∷◌, ◌++◌, All, IsTrue, filter_map, length, length-append, map, refl, sym, ◌∙◌, ap, subst, arith, eq-eqb, ltb-true}
use Rattle.std.proofs.lemmas.List.{map-append}
use Rattle.lists.specs.Rooms.{Roomy}
use Rattle.error_test.specs.Views.{ViewParts}
use Rattle.cut_core.specs.Cut.{cut}
use Rattle.frame_pins.specs.declared.why.Why.{Why}
use Rattle.tile_types.specs.declared.key.Key.{Key}
use Rattle.tile_cache.specs.Kept.{CacheState}
use Rattle.tile_cache.specs.Pins.{SamePins, times}
use Rattle.tile_cache.specs.Residents.{has_address}
use Rattle.tile_cache.specs.declared.cache.TheConstants.{PIN_LIMIT}
use Rattle.engine_state.specs.declared.entry.Entry.{Entry}
use Rattle.engine_state.specs.declared.entry.Entry.TheVariants.{Looked, LookRefused}
use Rattle.engine_state.specs.declared.held_frame.HeldFrame.{HeldFrame}
use Rattle.engine_state.specs.declared.limits.TheConstants.{FRAME_LIMIT}
use Rattle.engine_state.specs.declared.seen.Seen.{Seen}
use Rattle.engine_state.specs.Views.{with_view}
use Rattle.engine_state.specs.Frames.{addresses_of, frame_lines, holdings, is_too_large, line_from, tree}
use Rattle.engine_state.specs.Loading.{is_settled}
use Rattle.engine_state.specs.Room.{all_moved_up}
use Rattle.engine_state.specs.Allowed.{is_open, may_ask, may_hold_more, may_refuse}
use Rattle.engine_state.specs.Laws.{known}
use Rattle.engine_core.specs.declared.held_pins.FramePins.{FramePins}
use Rattle.engine_core.specs.declared.parts.Parts.{Parts}
use Rattle.engine_core.specs.Holding.{pins_of, used_in_turn}
use Rattle.engine_core.specs.Mirrors.{HasRoom, Lives, state_of}
use Rattle.engine_core.proofs.PinnedFrames.{few_pins, pinned_more, shorts_more}
use Rattle.engine_core.proofs.Steps.{both, goes_on}
use Rattle.engine_core.proofs.UsedLines.{are_resident, used_known}

abbrev pins_with : ℕ → List (List ℕ) → FramePins
pins_with id addresses = record { id = id; addresses = addresses }

-- the contents that the frame shows are resident
pub shown_are_resident : (p : Parts) (view : ViewParts) (addresses : List (List ℕ)) → Lives p
    → addresses ≡ addresses_of (frame_lines (state_of p) view)
    → All (λ a. IsTrue (has_address p.cache.residents a)) addresses
shown_are_resident p view addresses l e =
    let s = state_of p in
    let lines = cut view (holdings s) (tree s) in
    are_resident p.cache.residents lines addresses
    (e ∙ ap (λ rs. addresses_of (filter_map (line_from rs) lines)) l.mirrors.shows.residents_is)

-- they may be pinned once more
pub may_be_pinned : (p : Parts) (addresses : List (List ℕ)) → Lives p
    → may_hold_more (state_of p) ≡ true → length addresses < 2 ^ 64 → (a : List ℕ)
    → times a p.cache.pins + length addresses < PIN_LIMIT
may_be_pinned p addresses l more short a =
    let s = state_of p in
    let had = few_pins a s.frames
    (subst (All (λ f. length f.addresses < 2 ^ 64)) l.mirrors.shows.held_is l.mirrors.shows.short) in
    let same = l.mirrors.shows.pins.same a in
    let few = ltb-true (length s.frames) FRAME_LIMIT more in
    omega arith

pub looked_lives : (p : Parts) (entries : Roomy Entry) (views : Vec Seen) (frames : Roomy FramePins)
    (mid cache : CacheState) (squeezed : Roomy Key) (pass viewer : ℕ) (view : ViewParts)
    (settled : Bool) (addresses one two : List (List ℕ))
    → Lives p → HasRoom 2 (length p.flying.items) p → (state_of p).closed ≡ false
    → may_hold_more (state_of p) ≡ true → is_too_large (state_of p) view ≡ false
    → may_ask (state_of p) viewer view settled ≡ true
    → (not settled || is_settled (state_of p)) ≡ true
    → views.items ≡ with_view viewer view (state_of p).views
    → addresses ≡ addresses_of (frame_lines (state_of p) view) → length addresses < 2 ^ 64
    → one ≡ addresses → mid.residents ≡ p.cache.residents
    → ((a : List ℕ) → times a mid.pins ≡ times a p.cache.pins + times a one)
    → mid.budget ≡ p.cache.budget
    → two ≡ addresses → cache.residents ≡ used_in_turn two mid.residents
    → SamePins mid.pins cache.pins → cache.budget ≡ mid.budget
    → frames.items ≡ p.frames.items ++ record { id = p.looks + 1; addresses = addresses } ∷ []
    → squeezed.items ≡ [] → squeezed.spare ≡ p.squeezed.spare + length p.squeezed.items
    → entries.items ≡ p.entries.items ++ Looked pass (p.looks + 1) viewer view settled ∷ []
    → p.entries.spare ≤ entries.spare + 1
    → Lives (record p {
      entries = entries;
      looks = p.looks + 1;
      views = views;
      frames = frames;
      squeezed = squeezed;
      cache = cache;
      noted = false;
      filled = false;
    })
looked_lives p entries views frames mid cache squeezed pass viewer view settled addresses one two l r
    still more small ask calm ve ae short oe mr mp mb te cr cp cb fe qe qs is spare =
    let s = state_of p in
    let m = l.mirrors in
    let id : p.looks + 1 ≡ s.looks + 1 = ap (λ n. n + 1) m.looks in
    let entry : entries.items ≡ p.entries.items ++ Looked pass (s.looks + 1) viewer view settled ∷ [] =
    is ∙ ap (λ n. p.entries.items ++ Looked pass n viewer view settled ∷ []) id in
    let long : length entries.items ≡ length p.entries.items + 1 =
    ap length is
    ∙ length-append p.entries.items (Looked pass (p.looks + 1) viewer view settled ∷ []) in
    let one_more : length frames.items ≡ length p.frames.items + 1 =
    ap length fe
    ∙ length-append p.frames.items (pins_with (p.looks + 1) addresses ∷ []) in
    let new : HeldFrame = record { id = s.looks + 1; viewer = viewer; lines = frame_lines s view } in
    let shown : List (List ℕ) = addresses_of (frame_lines s view) in
    goes_on p (record p {
      entries = entries;
      looks = p.looks + 1;
      views = views;
      frames = frames;
      squeezed = squeezed;
      cache = cache;
      noted = false;
      filled = false;
    }) (Looked pass (s.looks + 1) viewer view settled) l
    (both (is_open s) _ (both s.opened _ l.is_opened (ap not still))
    (both (may_hold_more s) _ more
    (both (not (is_too_large s view)) _ (ap not small)
    (both ((s.looks + 1) == (s.looks + 1)) _ (eq-eqb (s.looks + 1) (s.looks + 1) refl)
    (both (may_ask s viewer view settled) _ ask calm))))) entry l.is_opened
    (record {
      closed = m.closed;
      looks = id;
      views = ve;
      shows = record {
        held_is = fe
            ∙ ap (λ fs. fs ++ pins_with (p.looks + 1) addresses ∷ []) m.shows.held_is
            ∙ ap (λ n. map pins_of s.frames ++ pins_with n addresses ∷ []) id
            ∙ ap (λ texts. map pins_of s.frames ++ pins_with (s.looks + 1) texts ∷ []) ae
            ∙ sym (map-append pins_of s.frames (new ∷ []));
        residents_is = ap (all_moved_up shown) m.shows.residents_is
            ∙ used_known shown p.cache.residents
            ∙ ap (λ rs. map known (used_in_turn shown rs)) (sym mr)
            ∙ ap (λ texts. map known (used_in_turn texts mid.residents)) (sym (te ∙ ae))
            ∙ ap (map known) (sym cr);
        pins = record {
          same = λ a.
              let had = m.shows.pins.same a in
              let pins : times a mid.pins ≡ times a p.cache.pins + times a shown =
              mp a ∙ ap (λ texts. times a p.cache.pins + times a texts) (oe ∙ ae) in
              let same = cp.same a in
              let now = pinned_more a s.frames new in
              omega arith;
        };
        budget_is = cb ∙ mb ∙ m.shows.budget_is;
        short = subst (All (λ f. length f.addresses < 2 ^ 64)) (sym fe)
            (shorts_more p.frames.items (pins_with (p.looks + 1) addresses)
            m.shows.short short);
      };
      knows = m.knows;
      fetches = record {
        flying_is = m.fetches.flying_is;
        attempts_is = m.fetches.attempts_is;
        squeezed_is = qe;
      };
      noted = λ h. cc;
      queues = record { order_is = m.queues.order_is; wants_are = λ h. cc };
    })
    (record {
      entries = omega (arith, r.entries);
      attempts = r.attempts;
      squeezed = omega (arith, r.squeezed);
      absent = r.absent;
      store = r.store;
    })
    (omega (arith, l.few_looks))

pub refused_lives : (p : Parts) (entries : Roomy Entry) (views : Vec Seen) (squeezed : Roomy Key)
    (pass viewer : ℕ) (view : ViewParts) (settled : Bool) (why : Why)
    → Lives p → HasRoom 2 (length p.flying.items) p → (state_of p).closed ≡ false
    → may_refuse (state_of p) view why ≡ true → may_ask (state_of p) viewer view settled ≡ true
    → views.items ≡ with_view viewer view (state_of p).views
    → squeezed.items ≡ [] → squeezed.spare ≡ p.squeezed.spare + length p.squeezed.items
    → entries.items ≡ p.entries.items ++ LookRefused pass viewer view settled why ∷ []
    → p.entries.spare ≤ entries.spare + 1
    → Lives (record p {
      entries = entries;
      views = views;
      squeezed = squeezed;
      noted = false;
      filled = false;
    })
refused_lives p entries views squeezed pass viewer view settled why l r still may ask ve qe qs is spare =
    let s = state_of p in
    let m = l.mirrors in
    let long : length entries.items ≡ length p.entries.items + 1 =
    ap length is ∙ length-append p.entries.items (LookRefused pass viewer view settled why ∷ []) in
    goes_on p (record p {
      entries = entries;
      views = views;
      squeezed = squeezed;
      noted = false;
      filled = false;
    }) (LookRefused pass viewer view settled why) l
    (both (is_open s) _ (both s.opened _ l.is_opened (ap not still))
    (both (may_refuse s view why) _ may ask)) is l.is_opened
    (record {
      closed = m.closed;
      looks = m.looks;
      views = ve;
      shows = m.shows;
      knows = m.knows;
      fetches = record {
        flying_is = m.fetches.flying_is;
        attempts_is = m.fetches.attempts_is;
        squeezed_is = qe;
      };
      noted = λ h. cc;
      queues = record { order_is = m.queues.order_is; wants_are = λ h. cc };
    })
    (record {
      entries = omega (arith, r.entries);
      attempts = r.attempts;
      squeezed = omega (arith, r.squeezed);
      absent = r.absent;
      store = r.store;
    })
    (omega (arith, l.few_looks))
