use Rattle.std.proofs.Common.{All, subst}
use Rattle.tile_uri.specs.Addresses.{IsVisible}
use Rattle.tile_uri.proofs.Spaces.{visible}
use Rattle.tile_uri.proofs.address.Address.text.Goals as goal

pub returns-clause-visible : goal.returns-clause-visible
returns-clause-visible c =
    subst (All IsVisible) c.self.view_is (visible c.self.inside.text c.self.invariant.0.address)
