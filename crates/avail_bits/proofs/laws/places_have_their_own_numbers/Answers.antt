use Rattle.avail_bits.proofs.Digits.{same_places2, same_places3}
use Rattle.avail_bits.proofs.laws.places_have_their_own_numbers.Goals as goal

pub returns-clause-quadtree : goal.returns-clause-quadtree
returns-clause-quadtree c = same_places2

pub returns-clause-octree : goal.returns-clause-octree
returns-clause-octree c = same_places3
