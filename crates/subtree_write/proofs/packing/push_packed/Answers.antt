use Rattle.std.proofs.Common.{◌≡◌, arith, rules, ◌∙◌}
use Rattle.subtree_write.specs.Rows.{packed}
use Rattle.subtree_write.proofs.Packs.{packed_more}
use Rattle.subtree_write.proofs.packing.push_packed.Goals as goal

pub loop-i-preserved : goal.loop-i-preserved
loop-i-preserved c =
    packed_more c.args.bits.now c.args.bytes.now.items c.loop-i.bytes.items c.push.new.self.items
    c.loop-i.i c.min-end.result c.byte_of.result (omega (arith, c.div_ceil-i-end.ensures))
    (search rules) c.byte_of.ensures.value c.loop-i.invariant c.in_ok-push.ensures.items

pub returns : goal.returns
unfolding packed
returns c =
    let all : c.loop-i.i ≡ c.div_ceil-i-end.result = omega arith in
    c.loop-i.invariant ∙ rw (all, c.div_ceil-i-end.ensures)
