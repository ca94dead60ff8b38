use Rattle.std.proofs.Common.{refl}
use Rattle.implicit_walk.proofs.Powers.{masked}
use Rattle.implicit_walk.proofs.Subtrees.{same_place}
use Rattle.implicit_walk.proofs.place.Place.below.Goals as goal

pub returns : goal.returns
returns c =
    same_place refl (masked c.args.self.x c.args.levels c.requires)
    (masked c.args.self.y c.args.levels c.requires) (masked c.args.self.z c.args.levels c.requires)
