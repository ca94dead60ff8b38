use Rattle.std.proofs.Common.{◌≤◌, sym, subst}
use Rattle.engine_state.specs.Journal.{fullness}
use Rattle.engine_core.proofs.NoneLeft.{flying_within}
use Rattle.engine_core.proofs.parts.Parts.left_to_load.Goals as goal

pub count_within-requires : goal.count_within-requires
count_within-requires c =
    let p = c.fill_queue.new.self in
    let within : fullness p.entries.items ≤ p.room =
    subst (λ room. fullness p.entries.items ≤ room) (sym c.fill_queue.ensures.same.room)
    (subst (λ entries. fullness entries ≤ c.args.self.now.room)
    (sym c.fill_queue.ensures.same.entries) c.requires.within) in
    subst (λ n. n ≤ p.room) (sym c.len.ensures) (flying_within p c.fill_queue.ensures.lives within)
