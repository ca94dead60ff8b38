-- What a look at a tree of loaded documents gives.
use Rattle.std.specs.Prelude.{◌≡◌, Option}
use Rattle.error_test.specs.Views.{ViewParts}
use Rattle.expanded_tree.specs.Tree.{Tree}
use Rattle.cut_core.specs.Cut.{Holdings, ideal, with_all}
use Rattle.cut_core.specs.Laws.{IsLoaded}
use Rattle.cut_core.specs.Wants.{wanted}
use Rattle.cut_core.specs.declared.sight.Sight.{Sight}
use Rattle.cut_core.specs.declared.sight.Sight.TheVariants.{Lines, Awaits}

-- no visited node is pending, and these are the lines of the ideal cut; or this is wanted
abbrev pub Sees : ViewParts → Holdings → Option Tree → Sight → Type 0
Sees view held root (Lines lines) = IsLoaded view root × (lines ≡ ideal view held root)
Sees view held root (Awaits wants) = wants ≡ wanted view (with_all held) root
