use Rattle.std.proofs.Common.{arith}
use Rattle.std.specs.Prelude.{nat_lt}
use Rattle.tile_arena.proofs.Roots.{has_root, some_by, none_by}
use Rattle.tile_arena.proofs.held.Held.make_root.Goals as goal

pub returns-in-Ok-clause-root : goal.returns-in-Ok-clause-root
returns-in-Ok-clause-root c =
    has_root c.args.store.now c.clear.new.self
    (record c.clear.new.self { list = c.push_root.new.self }) c.clear.ensures c.in-Ok.ensures.grows
    c.clear.ensures.children c.clear.ensures.opened (nat_lt 0 c.len.result)
    (λ h. omega (arith, some_by c.len.result h, c.len.ensures, c.push_root.new.self.nodes.ok.0))
    (λ h. omega (arith, none_by c.len.result h, c.len.ensures, c.push_root.new.self.nodes.ok.0))
