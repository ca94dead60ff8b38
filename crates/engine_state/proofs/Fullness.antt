-- Fullness never falls.
use Rattle.std.proofs.Common.{ℕ, ◌+◌, ◌≤◌, ◌==◌, List, [], ◌∷◌, ◌++◌, length, length-append, arith}
use Rattle.tile_types.specs.declared.key.Key.{Key}
use Rattle.cut_core.specs.Visits.{content_key}
use Rattle.engine_state.specs.declared.entry.Entry.{Entry}
use Rattle.engine_state.specs.declared.entry.Entry.TheVariants.{Opened, Looked, LookRefused, Returned, Taken, DocumentArrived, ContentArrived, Squeezed, Absent, Failed, Starved, Retried, Closed}
use Rattle.engine_state.specs.declared.held_frame.HeldFrame.{HeldFrame}
use Rattle.engine_state.specs.State.{State}
use Rattle.engine_state.specs.Frames.{frame_lines}
use Rattle.engine_state.specs.Loading.{is_flight_of}
use Rattle.engine_state.specs.After.{after, fetch_ended}
use Rattle.engine_state.specs.Journal.{after_all, ends_to_come}
use Rattle.engine_state.proofs.Lists.{length_without_first}

end_one : (s : State) (pass : ℕ) (key : Key)
    → ends_to_come s ≤ ends_to_come (fetch_ended s pass key) + 1
end_one s pass key =
    let h = length_without_first (is_flight_of pass key) s.flying in omega arith

more : {A : Type 0} (xs : List A) (x : A) → length xs ≤ length (xs ++ x ∷ [])
more xs x = let e = length-append xs (x ∷ []) in omega arith

ends_step : (s : State) (e : Entry) → ends_to_come s ≤ ends_to_come (after s e) + 1
ends_step s (Opened root bytes budget order) = omega arith
ends_step s (Looked pass id viewer view settled) =
    let h = more s.frames (record { id = id; viewer = viewer; lines = frame_lines s view }) in
    omega arith
ends_step s (LookRefused pass viewer view settled why) = omega arith
ends_step s (Returned pass id) =
    let h = length_without_first (λ (f : HeldFrame). f.id == id) s.frames in omega arith
ends_step s (Taken pass key) =
    let h = more s.flying (record { key = key; pass = pass }) in omega arith
ends_step s (DocumentArrived pass key bytes) = end_one s pass key
ends_step s (ContentArrived pass address size digest out) = end_one s pass (content_key address)
ends_step s (Squeezed pass address size) = end_one s pass (content_key address)
ends_step s (Absent pass key why) = end_one s pass key
ends_step s (Failed pass key count) = end_one s pass key
ends_step s (Starved pass key) = end_one s pass key
ends_step s (Retried pass) = omega arith
ends_step s (Closed pass) = omega arith

pub ends_all : (s : State) (es : List Entry)
    → ends_to_come s ≤ ends_to_come (after_all s es) + length es
ends_all s [] = omega arith
ends_all s (e ∷ es) =
    let one = ends_step s e in
    let rest = ends_all (after s e) es in
    omega arith
