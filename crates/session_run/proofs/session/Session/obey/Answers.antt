use Rattle.session_run.proofs.Texts.{retried_texts, returned_texts, settled_texts}
use Rattle.session_run.proofs.session.Session.obey.Goals as goal

pub returns-in_ok-load_all-in-Settle-clause-texts :
    goal.returns-in_ok-load_all-in-Settle-clause-texts
returns-in_ok-load_all-in-Settle-clause-texts g c =
    settled_texts c.look_again.result c.args.self.now.journal c.load_all.new.self.journal
    c.look_again.new.self.journal c.load_all.ensures.loads c.look_again.ensures.texts

pub returns-in-Return-clause-texts : goal.returns-in-Return-clause-texts
returns-in-Return-clause-texts g c =
    returned_texts _ c.args.self.now.journal c.give_back.new.self.journal c.new.result
    c.give_back.ensures.journal c.new.ensures

pub returns-in-Retry-clause-texts : goal.returns-in-Retry-clause-texts
returns-in-Retry-clause-texts g c =
    retried_texts c.retry.result c.args.self.now.journal c.retry.new.self.journal
    c.retry.ensures.obeyed c.retry.ensures.texts
