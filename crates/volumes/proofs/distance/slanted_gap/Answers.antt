use Rattle.std.proofs.Common.{arith, ◌≡◌, ◌<◌, ◌≤◌, ◌-◌, ◌*◌, ◌/◌, ◌^◌, unsigned_abs, ap}
use Rattle.std.proofs.Math.Nat.{div-le_of_le-mul}
use Rattle.std.proofs.lemmas.Int.{ints}
use Rattle.fixed_geometry.specs.Points.{norm}
use Rattle.volumes.specs.Distances.{along}
use Rattle.volumes.proofs.Gaps.{along_size}
use Rattle.volumes.proofs.distance.slanted_gap.Goals as goal

pub nonzero_div-result : goal.nonzero_div-result
nonzero_div-result c =
    let same : unsigned_abs c.dot.result ≡ along c.args.q c.args.axis =
    ap (λ z. unsigned_abs z) c.dot.ensures.value in
    let root : norm c.args.axis ≤ c.root_ceil.result * c.root_ceil.result =
    omega (arith, c.norm-length.ensures.value, c.root_ceil.ensures.square) in
    omega (
      arith,
      ints,
      same,
      along_size c.args.q c.args.axis c.root_ceil.result c.requires.point
          root,
    )

pub returns-clause-bound : goal.returns-clause-bound
returns-clause-bound c =
    let same : unsigned_abs c.dot.result ≡ along c.args.q c.args.axis =
    ap (λ z. unsigned_abs z) c.dot.ensures.value in
    let root : norm c.args.axis ≤ c.root_ceil.result * c.root_ceil.result =
    omega (arith, c.norm-length.ensures.value, c.root_ceil.ensures.square) in
    let all : c.unsigned_abs-along.result - c.norm-length.result
    ≤ c.root_ceil.result * (3 * 2 ^ 37) =
    omega (
      arith,
      ints,
      same,
      along_size c.args.q c.args.axis c.root_ceil.result c.requires.point root,
    ) in
    let quotient : (c.unsigned_abs-along.result - c.norm-length.result) / c.root_ceil.result
    ≤ 3 * 2 ^ 37 = div-le_of_le-mul c.root_ceil.result all in
    omega arith

pub overflow_cast-result : goal.overflow_cast-result
overflow_cast-result c =
    let same : unsigned_abs c.dot.result ≡ along c.args.q c.args.axis =
    ap (λ z. unsigned_abs z) c.dot.ensures.value in
    let root : norm c.args.axis ≤ c.root_ceil.result * c.root_ceil.result =
    omega (arith, c.norm-length.ensures.value, c.root_ceil.ensures.square) in
    let all : c.unsigned_abs-along.result - c.norm-length.result
    ≤ c.root_ceil.result * (3 * 2 ^ 37) =
    omega (
      arith,
      ints,
      same,
      along_size c.args.q c.args.axis c.root_ceil.result c.requires.point root,
    ) in
    let quotient : (c.unsigned_abs-along.result - c.norm-length.result) / c.root_ceil.result
    ≤ 3 * 2 ^ 37 = div-le_of_le-mul c.root_ceil.result all in
    let small : (c.unsigned_abs-along.result - c.norm-length.result) / c.root_ceil.result < 2 ^ 64 =
    omega arith in
    record { fits = small }
