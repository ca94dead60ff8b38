use Rattle.std.proofs.Common.{◌∙◌}
use Rattle.cut_core.specs.WantMap.{wants_in}
use Rattle.view_notes.proofs.Asking.{asks_once}
use Rattle.view_notes.proofs.view_notes.ViewNotes.wants.Goals as goal

pub returns : goal.returns
returns g c = λ view root are.
    c.in_ok-into_list.ensures
    ∙ asks_once c.args.self.now (g.H.Holdings.holdings c.args.holdings.now)
    (wants_in c.new-wants.result) (wants_in c.put_wants.new.wants) c.new-wants.ensures
    c.in_ok-put_wants.ensures view root are
