use Rattle.cut_core.proofs.Settling.{becomes_ready, shows_what_stays}
use Rattle.cut_core.proofs.cuts.ideal.Goals as goal

pub returns-clause-ready : goal.returns-clause-ready
returns-clause-ready g c = becomes_ready c.args.view.now
    (g.H.Holdings.holdings c.args.holdings.now) _

pub returns-clause-stays : goal.returns-clause-stays
returns-clause-stays g c = shows_what_stays c.args.view.now
    (g.H.Holdings.holdings c.args.holdings.now) _
