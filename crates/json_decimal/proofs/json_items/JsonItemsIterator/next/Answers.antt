use Rattle.json_decimal.specs.Handles.{json_of, items_left}
use Rattle.json_decimal.proofs.Yields.{yields_first, fewer_left}
use Rattle.json_decimal.proofs.json_items.JsonItemsIterator.next.Goals as goal

pub returns-clause-steps : goal.returns-clause-steps
returns-clause-steps c =
    yields_first json_of c.take_next.result (items_left c.args.self.now)
    (items_left c.take_next.new.self) c.take_next.ensures.first c.take_next.ensures.end

pub returns-clause-goes : goal.returns-clause-goes
returns-clause-goes c =
    fewer_left json_of items_left c.args.self.now c.take_next.new.self c.take_next.result
    (yields_first json_of c.take_next.result (items_left c.args.self.now)
    (items_left c.take_next.new.self) c.take_next.ensures.first c.take_next.ensures.end)
