use Rattle.std.proofs.Common.{arith, ◌≡◌, ◌≤◌, ◌*◌, ◌^◌, ◌%◌, lit<}
use Rattle.std.proofs.Math.Nat.{one-le-pow, pow-le-pow_right}
use Rattle.std.proofs.lemmas.Nat.{one_shl}
use Rattle.volumes.specs.Limits.{cell_limit}
use Rattle.volumes.proofs.cells.cell_count.Goals as goal

pub returns-clause-within : goal.returns-clause-within
returns-clause-within c =
    let value : 1 * 2 ^ c.args.level % 2 ^ 64 ≡ 2 ^ c.args.level =
    one_shl c.args.level 64 (omega arith) in
    let most : 2 ^ c.args.level ≤ cell_limit = pow-le-pow_right (lit< tt) c.requires in
    let some : 1 ≤ 2 ^ c.args.level = one-le-pow c.args.level 2 (lit< tt) in
    record { from = omega arith; to = omega arith }
