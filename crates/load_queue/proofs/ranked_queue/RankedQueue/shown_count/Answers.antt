use Rattle.std.proofs.Common.{◌∙◌, ap}
use Rattle.std.specs.Prelude.{count_by}
use Rattle.load_queue.specs.Entries.{is_shown}
use Rattle.load_queue.proofs.Shown.{shown_counted}
use Rattle.load_queue.proofs.ranked_queue.RankedQueue.shown_count.Goals as goal

pub returns : goal.returns
returns g c =
    let s = c.self.inside in
    rw (← c.self.view_is)
    (c.count_shown.ensures ∙ ap (count_by is_shown) c.as_slice.ensures ∙ shown_counted s.wants)
