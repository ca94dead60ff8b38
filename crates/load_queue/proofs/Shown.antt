-- How many wants are shown.
use Rattle.std.proofs.Common.{suc, ◌≡◌, ◌∙◌, cond, List, [], ◌∷◌, filter, length, refl, sym, ap}
use Rattle.std.specs.Prelude.{count_by}
use Rattle.std.proofs.lemmas.List.Sums.{length-filter}
use Rattle.load_queue.specs.declared.entry.Entry.{Entry}
use Rattle.load_queue.specs.declared.entry.State.{State}
use Rattle.load_queue.specs.declared.entry.State.TheVariants.{Shown, Hidden, Dropped}
use Rattle.load_queue.specs.Entries.{is_shown, is_shown_in, queued_before, queued_wants}
use Rattle.load_queue.specs.Queues.{QueuedWant, shown_wants}

one_more : (state : State) (e : Entry) (es : List Entry) (queued : List QueuedWant)
    → length es ≡ length (shown_wants queued)
    → length (cond (is_shown_in state) (e ∷ es) es)
    ≡ length (shown_wants (queued_before e.want state queued))
one_more Shown e es queued h = ap suc h
one_more Hidden e es queued h = h
one_more Dropped e es queued h = h

filtered : (es : List Entry)
    → length (filter is_shown es) ≡ length (shown_wants (queued_wants es))
filtered [] = refl
filtered (e ∷ es) = one_more e.state e (filter is_shown es) (queued_wants es) (filtered es)

pub shown_counted : (es : List Entry)
    → count_by is_shown es ≡ length (shown_wants (queued_wants es))
shown_counted es = sym (length-filter is_shown es) ∙ filtered es
