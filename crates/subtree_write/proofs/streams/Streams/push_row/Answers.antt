use Rattle.std.proofs.Common.{sym, ◌∙◌, rules}
use Rattle.subtree_write.proofs.Adding.{no_stream, one_stream}
use Rattle.subtree_write.proofs.streams.Streams.push_row.Goals as goal

pub returns-then-is_constant-clause-rows : goal.returns-then-is_constant-clause-rows
returns-then-is_constant-clause-rows c =
    no_stream c.args.self.now c.args.bits.now (sym c.is_constant.ensures ∙ c.if-is_constant.true)

pub returns-clause-rows : goal.returns-clause-rows
returns-clause-rows c =
    one_stream c.args.self.now _ c.args.bits.now
    (sym c.is_constant.ensures ∙ c.if-is_constant.false) (search rules) (search rules)
