-- What loads leave.
use Rattle.std.proofs.Common.{ℕ, zero, suc, ◌≡◌, ◌<◌, true, List, [], ◌∷◌, ◌++◌, drop, length, map, take, refl, sym, ◌∙◌, ap, arith}
use Rattle.std.specs.List.{list_all}
use Rattle.std.proofs.lemmas.List.{append-nil, take-append-drop}
use Rattle.cut_core.proofs.Bools.{and_left, and_right}
use Rattle.engine_state.specs.declared.entry.Entry.{Entry}
use Rattle.engine_state.specs.declared.entry.Entry.TheVariants.{Opened, Looked, LookRefused, Returned, Taken, DocumentArrived, ContentArrived, Squeezed, Absent, Failed, Starved, Retried, Closed}
use Rattle.engine_state.specs.State.{State, unopened}
use Rattle.engine_state.specs.After.{after}
use Rattle.engine_state.specs.Journal.{after_all, replay}
use Rattle.engine_state.specs.Report.{report_lines, reported, reported_from}
use Rattle.engine_state.proofs.Steps.{after_all-append, report-append}
use Rattle.session_run.specs.declared.own_frame.OwnFrame.{OwnFrame}
use Rattle.session_run.specs.Desks.{HasLoaded}
use Rattle.session_run.specs.Loading.{Loads, is_of_loads}
use Rattle.session_run.specs.Sessions.{AreReported, IsSession, owned_by}

-- what came since a desk began
pub loads_since : (begun : ℕ) (start new : List Entry) → 0 < length start
    → take begun new ≡ start → (0 < begun → HasLoaded begun new) → Loads start new
loads_since zero start new some e h = absurd (let none = ap length e in omega (arith, some, none))
loads_since (suc n) start new some e h =
    let l = h (omega arith) in
    record {
      loads = drop (suc n) new;
      are_loads = l.are_loads;
      added = sym (take-append-drop (suc n) new) ∙ ap (λ xs. xs ++ drop (suc n) new) e;
    }

-- ---- frames and texts stay

frames_stay : (s : State) (e : Entry) → is_of_loads e ≡ true → (after s e).frames ≡ s.frames
frames_stay s (Opened root bytes budget order) h = cc
frames_stay s (Looked pass id viewer view settled) h = cc
frames_stay s (LookRefused pass viewer view settled why) h = refl
frames_stay s (Returned pass id) h = cc
frames_stay s (Taken pass key) h = refl
frames_stay s (DocumentArrived pass key bytes) h = refl
frames_stay s (ContentArrived pass address size digest out) h = refl
frames_stay s (Squeezed pass address size) h = refl
frames_stay s (Absent pass key why) h = refl
frames_stay s (Failed pass key count) h = refl
frames_stay s (Starved pass key) h = refl
frames_stay s (Retried pass) h = refl
frames_stay s (Closed pass) h = refl

all_frames_stay : (s : State) (es : List Entry) → list_all is_of_loads es ≡ true
    → (after_all s es).frames ≡ s.frames
all_frames_stay s [] h = refl
all_frames_stay s (e ∷ es) h =
    all_frames_stay (after s e) es (and_right (is_of_loads e) _ h)
    ∙ frames_stay s e (and_left _ (list_all is_of_loads es) h)

none_reported : (s : State) (e : Entry) → is_of_loads e ≡ true → reported s e ≡ []
none_reported s (Opened root bytes budget order) h = refl
none_reported s (Looked pass id viewer view settled) h = cc
none_reported s (LookRefused pass viewer view settled why) h = cc
none_reported s (Returned pass id) h = refl
none_reported s (Taken pass key) h = refl
none_reported s (DocumentArrived pass key bytes) h = refl
none_reported s (ContentArrived pass address size digest out) h = refl
none_reported s (Squeezed pass address size) h = refl
none_reported s (Absent pass key why) h = refl
none_reported s (Failed pass key count) h = refl
none_reported s (Starved pass key) h = refl
none_reported s (Retried pass) h = refl
none_reported s (Closed pass) h = refl

all_none_reported : (s : State) (es : List Entry) → list_all is_of_loads es ≡ true
    → reported_from s es ≡ []
all_none_reported s [] h = refl
all_none_reported s (e ∷ es) h =
    ap (λ ts. ts ++ reported_from (after s e) es)
    (none_reported s e (and_left _ (list_all is_of_loads es) h))
    ∙ all_none_reported (after s e) es (and_right (is_of_loads e) _ h)

pub loaded_session : (old new : List Entry) (owns : List OwnFrame) → IsSession old owns
    → Loads old new → (replay new).flying ≡ [] → IsSession new owns
loaded_session old new owns s l none = record {
  held = s.held ∙ sym
      (ap (λ j. map owned_by (replay j).frames) l.added
      ∙ ap (λ t. map owned_by t.frames) (after_all-append unopened old l.loads)
      ∙ ap (map owned_by) (all_frames_stay (replay old) l.loads l.are_loads));
  none_flies = none;
}

pub loaded_report : (old loaded : List Entry) → Loads old loaded
    → report_lines loaded ≡ report_lines old
loaded_report old loaded l =
    ap report_lines l.added ∙ report-append unopened old l.loads
    ∙ ap (λ ts. report_lines old ++ ts) (all_none_reported (replay old) l.loads l.are_loads)
    ∙ append-nil (report_lines old)

-- what is reported behind loads is what is reported behind what was before them
pub reported_behind : (old loaded new : List Entry) (texts : List (List ℕ)) → Loads old loaded
    → AreReported loaded new texts → AreReported old new texts
reported_behind old loaded new texts l a =
    a ∙ ap (λ ts. ts ++ texts) (loaded_report old loaded l)
