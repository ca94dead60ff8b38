use Rattle.json_decimal.specs.Handles.{member_of, members_left}
use Rattle.json_decimal.proofs.Yields.{yields_first, fewer_left}
use Rattle.json_decimal.proofs.json_members.JsonMembersIterator.next.Goals as goal

pub returns-clause-steps : goal.returns-clause-steps
returns-clause-steps c =
    yields_first member_of c.take_next.result (members_left c.args.self.now)
    (members_left c.take_next.new.self) c.take_next.ensures.first c.take_next.ensures.end

pub returns-clause-goes : goal.returns-clause-goes
returns-clause-goes c =
    fewer_left member_of members_left c.args.self.now c.take_next.new.self c.take_next.result
    (yields_first member_of c.take_next.result (members_left c.args.self.now)
    (members_left c.take_next.new.self) c.take_next.ensures.first c.take_next.ensures.end)
