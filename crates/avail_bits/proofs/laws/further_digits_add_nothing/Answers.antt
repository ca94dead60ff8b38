use Rattle.avail_bits.proofs.Digits.{more_digits2, more_digits3}
use Rattle.avail_bits.proofs.laws.further_digits_add_nothing.Goals as goal

pub returns-clause-quadtree : goal.returns-clause-quadtree
returns-clause-quadtree c = more_digits2

pub returns-clause-octree : goal.returns-clause-octree
returns-clause-octree c = more_digits3
