use Rattle.std.proofs.Common.{◌≡◌, Bool, not, true, false, refl, sym, ◌∙◌, arith}
use Rattle.std.specs.Prelude.{slice_index_or}
use Rattle.std.specs.Bool.{beq}
use Rattle.std.specs.Cmp.{booleans_Decides}
use Rattle.std.proofs.lemmas.Option.{slice_get-get_or}
use Rattle.view_notes.specs.declared.note.Note.{Note}
use Rattle.view_notes.specs.Rising.{ReadyAreRight, with_ready}
use Rattle.view_notes.proofs.Falling.{falls_alone, falls_none, falls_then, right_set, turns_up}
use Rattle.view_notes.proofs.Turning.{alone_placed, fixed_set, no_note, read_now, same_read}
use Rattle.view_notes.proofs.settle.settle.Goals as goal

differs : (a b : Bool) → beq a b ≡ false → b ≡ not a
differs true true e = cc
differs true false e = refl
differs false true e = refl
differs false false e = cc

pub loop-note-init : goal.loop-note-init
loop-note-init g c = record {
  within = c.requires.within;
  placed = c.requires.placed;
  same_fixed = refl;
  read = λ doubt h. h;
  right = λ h. h;
  falls = λ h. falls_none _ c.args.notes.now;
}

pub returns-then-ready-note-clause-read : goal.returns-then-ready-note-clause-read
returns-then-ready-note-clause-read g c = λ doubt h.
    let i = c.loop-note.invariant in
    let n : Note = slice_index_or c.loop-note.notes c.loop-note.at no_note in
    same_read c.loop-note.notes c.loop-note.at n
    (slice_get-get_or c.loop-note.notes c.loop-note.at no_note i.within)
    (sym ((booleans_Decides c.tells_ready-ready.result n.ready).0 c.if-ready-note.true)
    ∙ c.tells_ready-ready.ensures) doubt (i.read doubt h)

pub returns-in_default-clause-placed : goal.returns-in_default-clause-placed
returns-in_default-clause-placed g c =
    let i = c.loop-note.invariant in
    rw c.with_ready.ensures (alone_placed c.loop-note.notes c.loop-note.at _
    c.tells_ready-ready.result i.placed
    (slice_get-get_or c.loop-note.notes c.loop-note.at no_note i.within) c.in_default.is)

pub returns-in_default-clause-fixed : goal.returns-in_default-clause-fixed
returns-in_default-clause-fixed g c =
    let i = c.loop-note.invariant in
    let n : Note = slice_index_or c.loop-note.notes c.loop-note.at no_note in
    rw c.with_ready.ensures (fixed_set c.loop-note.notes c.loop-note.at n
    (with_ready c.tells_ready-ready.result n)
    (slice_get-get_or c.loop-note.notes c.loop-note.at no_note i.within) refl ∙ i.same_fixed)

pub returns-in_default-clause-read : goal.returns-in_default-clause-read
returns-in_default-clause-read g c = λ doubt h.
    let i = c.loop-note.invariant in
    let n : Note = slice_index_or c.loop-note.notes c.loop-note.at no_note in
    rw c.with_ready.ensures (read_now c.loop-note.notes c.loop-note.at
    (with_ready c.tells_ready-ready.result n) i.within c.tells_ready-ready.ensures doubt
    (i.read doubt h))

pub returns-in_default-clause-right : goal.returns-in_default-clause-right
returns-in_default-clause-right g c = λ h.
    let i = c.loop-note.invariant in
    let n : Note = slice_index_or c.loop-note.notes c.loop-note.at no_note in
    rw c.with_ready.ensures (right_set c.loop-note.notes c.loop-note.at
    (with_ready c.tells_ready-ready.result n) (λ q. sym c.tells_ready-ready.ensures ∙ q)
    (i.right h))

pub returns-in_default-clause-falls : goal.returns-in_default-clause-falls
returns-in_default-clause-falls g c = λ h.
    let i = c.loop-note.invariant in
    let n : Note = slice_index_or c.loop-note.notes c.loop-note.at no_note in
    let lacking = g.L.Lacking.lacking c.args.lacking.now in
    let here = slice_get-get_or c.loop-note.notes c.loop-note.at no_note i.within in
    rw c.with_ready.ensures (falls_alone lacking c.loop-note.none_leaves c.args.notes.now
    c.loop-note.notes c.loop-note.at n c.tells_ready-ready.result here (i.falls h))

pub turn-falls-requires-clause-here : goal.turn-falls-requires-clause-here
turn-falls-requires-clause-here g c =
    slice_get-get_or c.loop-note.notes c.loop-note.at no_note c.loop-note.invariant.within

pub loop-note-preserved : goal.loop-note-preserved
loop-note-preserved g c =
    let i = c.loop-note.invariant in
    let t = c.turn-falls.ensures in
    let n : Note = slice_index_or c.loop-note.notes c.loop-note.at no_note in
    let lacking = g.L.Lacking.lacking c.args.lacking.now in
    let here = slice_get-get_or c.loop-note.notes c.loop-note.at no_note i.within in
    let other : n.ready ≡ not c.tells_ready-ready.result =
    differs c.tells_ready-ready.result n.ready c.if-ready-note.false in
    let up = λ (h : ReadyAreRight c.args.notes.now). turns_up c.loop-note.notes c.loop-note.at n c.tells_ready-ready.result here
    (i.right h) c.tells_ready-ready.ensures other in
    record {
      within = omega (arith, t.before, i.within, c.turn-falls.auto.notes);
      placed = t.placed;
      same_fixed = t.fixed ∙ i.same_fixed;
      read = λ doubt h. t.read doubt (i.read doubt h);
      right = λ h. t.right (up h) (i.right h);
      falls = λ h.
          falls_then lacking c.loop-note.none_leaves (not c.leaves-leaves.result) _ _ _ (i.falls h)
          (rw c.leaves-leaves.ensures (t.falls (up h) lacking));
    }
