use Rattle.std.proofs.Common.{◌≡◌, ◌<◌, ◌∙◌, [], Some, None, ap, arith, length, refl, sym}
use Rattle.std.specs.Prelude.{slice_index_or}
use Rattle.std.specs.List.{slice_get}
use Rattle.std.proofs.lemmas.Option.{slice_get-get_or, slice_get_read}
use Rattle.cut_core.specs.WantMap.{wants_in}
use Rattle.cut_core.specs.Wants.{want_with, with_want}
use Rattle.view_notes.specs.Follows.{Noted}
use Rattle.view_notes.proofs.Asking.{adds_key, adds_missing, adds_none, counts_key, counts_none, no_key}
use Rattle.view_notes.proofs.view_notes.ViewNotes.put_wants_of.Goals as goal

pub returns-in_default-clause-waiting : goal.returns-in_default-clause-waiting
returns-in_default-clause-waiting g c =
    let i = c.self.inside in
    let n : Noted = record { notes = i.notes.items; names = i.index; ranks = i.ranks.items; keys = i.keys.items } in
    let lt : c.args.number < length i.notes.items = rw (← c.self.view_is) at c.requires in
    let x = c.index-note.result.now in
    let here = slice_get_read i.notes.items _ c.args.number x refl lt c.index-note.ensures in
    let w = sym c.waits.ensures ∙ c.if-waits.true in
    let none : slice_get i.keys.items c.args.waiting ≡ None =
    rw c.deref.ensures.value at (sym c.in_default.ensures) in
    rw (← c.self.view_is)
    (λ view root m at.
    absurd (no_key n (g.H.Holdings.holdings c.args.holdings.now) c.args.number c.args.waiting x here w
    none view root m at))

pub returns-in_default-clause-wants : goal.returns-in_default-clause-wants
returns-in_default-clause-wants g c =
    let i = c.self.inside in
    let n : Noted = record { notes = i.notes.items; names = i.index; ranks = i.ranks.items; keys = i.keys.items } in
    let lt : c.args.number < length i.notes.items = rw (← c.self.view_is) at c.requires in
    let x = c.index-note.result.now in
    let here = slice_get_read i.notes.items _ c.args.number x refl lt c.index-note.ensures in
    let w = sym c.waits.ensures ∙ c.if-waits.true in
    let none : slice_get i.keys.items c.args.waiting ≡ None =
    rw c.deref.ensures.value at (sym c.in_default.ensures) in
    rw (← c.self.view_is)
    (λ view root m at.
    absurd (no_key n (g.H.Holdings.holdings c.args.holdings.now) c.args.number c.args.waiting x here w
    none view root m at))

pub returns-then-waits-clause-waiting : goal.returns-then-waits-clause-waiting
returns-then-waits-clause-waiting g c =
    let i = c.self.inside in
    let n : Noted = record { notes = i.notes.items; names = i.index; ranks = i.ranks.items; keys = i.keys.items } in
    let lt : c.args.number < length i.notes.items = rw (← c.self.view_is) at c.requires in
    let x = c.index-note.result.now in
    let here = slice_get_read i.notes.items _ c.args.number x refl lt c.index-note.ensures in
    let w = sym c.waits.ensures ∙ c.if-waits.true in
    rw (← c.self.view_is)
    (counts_key n (g.H.Holdings.holdings c.args.holdings.now) c.args.number c.args.waiting x here _ w
    refl)

pub returns-then-waits-clause-wants : goal.returns-then-waits-clause-wants
returns-then-waits-clause-wants g c =
    let i = c.self.inside in
    let n : Noted = record { notes = i.notes.items; names = i.index; ranks = i.ranks.items; keys = i.keys.items } in
    let lt : c.args.number < length i.notes.items = rw (← c.self.view_is) at c.requires in
    let x = c.index-note.result.now in
    let r = c.index-facts.result.now in
    let key = c.in-Some.key.now in
    let here = slice_get_read i.notes.items _ c.args.number x refl lt c.index-note.ensures in
    let ranked = slice_get_read i.ranks.items _ c.args.number r refl
    (omega (arith, lt, c.self.invariant.ranked)) c.index-facts.ensures in
    let w = sym c.waits.ensures ∙ c.if-waits.true in
    let there : slice_get i.keys.items c.args.waiting ≡ Some key =
    rw c.deref.ensures.value at (sym c.in-Some.ensures) in
    rw (← c.self.view_is)
    (adds_key n (g.H.Holdings.holdings c.args.holdings.now) c.args.number c.args.waiting x here r key
    (wants_in c.args.wants.now) (wants_in c.put.new.self) w ranked there
    (c.in_ok-put.ensures
    ∙ ap (λ q. with_want (wants_in c.args.wants.now) (want_with r q)) c.in_ok-copy.ensures.value))

pub returns-in_ok-put_missing-clause-waiting : goal.returns-in_ok-put_missing-clause-waiting
returns-in_ok-put_missing-clause-waiting g c =
    let i = c.self.inside in
    let n : Noted = record { notes = i.notes.items; names = i.index; ranks = i.ranks.items; keys = i.keys.items } in
    let lt : c.args.number < length i.notes.items = rw (← c.self.view_is) at c.requires in
    let x = c.index-note.result.now in
    let here = slice_get_read i.notes.items _ c.args.number x refl lt c.index-note.ensures in
    let w = sym c.waits.ensures ∙ c.if-waits.false in
    rw (← c.self.view_is)
    (counts_none n (g.H.Holdings.holdings c.args.holdings.now) c.args.number c.args.waiting x here w)

pub returns-in_ok-put_missing-clause-wants : goal.returns-in_ok-put_missing-clause-wants
returns-in_ok-put_missing-clause-wants g c =
    let i = c.self.inside in
    let n : Noted = record { notes = i.notes.items; names = i.index; ranks = i.ranks.items; keys = i.keys.items } in
    let lt : c.args.number < length i.notes.items = rw (← c.self.view_is) at c.requires in
    let x = c.index-note.result.now in
    let r = c.index-facts.result.now in
    let here = slice_get_read i.notes.items _ c.args.number x refl lt c.index-note.ensures in
    let ranked = slice_get_read i.ranks.items _ c.args.number r refl
    (omega (arith, lt, c.self.invariant.ranked)) c.index-facts.ensures in
    let named = slice_get-get_or i.index c.args.number []
    (omega (arith, lt, c.self.invariant.named)) in
    let w = sym c.waits.ensures ∙ c.if-waits.false in
    let l = sym c.lacks_some.ensures ∙ c.if-lacks_some.true in
    rw (← c.self.view_is)
    (adds_missing n (g.H.Holdings.holdings c.args.holdings.now) c.args.number c.args.waiting x here r
    (slice_index_or i.index c.args.number []) (wants_in c.args.wants.now)
    (wants_in c.put_missing.new.wants) w l ranked named c.in_ok-put_missing.ensures)

pub returns-else-lacks_some-clause-waiting : goal.returns-else-lacks_some-clause-waiting
returns-else-lacks_some-clause-waiting g c =
    let i = c.self.inside in
    let n : Noted = record { notes = i.notes.items; names = i.index; ranks = i.ranks.items; keys = i.keys.items } in
    let lt : c.args.number < length i.notes.items = rw (← c.self.view_is) at c.requires in
    let x = c.index-note.result.now in
    let here = slice_get_read i.notes.items _ c.args.number x refl lt c.index-note.ensures in
    let w = sym c.waits.ensures ∙ c.if-waits.false in
    rw (← c.self.view_is)
    (counts_none n (g.H.Holdings.holdings c.args.holdings.now) c.args.number c.args.waiting x here w)

pub returns-else-lacks_some-clause-wants : goal.returns-else-lacks_some-clause-wants
returns-else-lacks_some-clause-wants g c =
    let i = c.self.inside in
    let n : Noted = record { notes = i.notes.items; names = i.index; ranks = i.ranks.items; keys = i.keys.items } in
    let lt : c.args.number < length i.notes.items = rw (← c.self.view_is) at c.requires in
    let x = c.index-note.result.now in
    let here = slice_get_read i.notes.items _ c.args.number x refl lt c.index-note.ensures in
    let w = sym c.waits.ensures ∙ c.if-waits.false in
    let l = sym c.lacks_some.ensures ∙ c.if-lacks_some.false in
    rw (← c.self.view_is)
    (adds_none n (g.H.Holdings.holdings c.args.holdings.now) c.args.number c.args.waiting x here
    (wants_in c.args.wants.now) w l)
