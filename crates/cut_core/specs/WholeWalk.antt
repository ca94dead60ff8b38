-- How a walk of a whole tree ends.
use Rattle.std.specs.Prelude.{◌≡◌, Result, Ok, Err}
use Rattle.error_test.specs.Views.{ViewParts}
use Rattle.expanded_tree.specs.Standing.{Standing, Stand, StandIn}
use Rattle.cut_core.specs.declared.error.CutError.{CutError}
use Rattle.cut_core.specs.declared.error.CutError.TheVariants.{TooLarge, OutOfMemory}
use Rattle.cut_core.specs.Visits.{IsWithinLimit, VisitsTooMany, to_open, visits}

-- the view visits no more nodes than it may, and each visited tile that may want its children is
-- opened, once
pub record IsComplete (view : ViewParts) (old new : Standing) : Type 0 where
  pub within : IsWithinLimit view old.tree
  pub opened : Stand new new.opened (to_open view (visits view old.tree))

-- by the result: an answer is of all visited nodes, TooLarge says that they are too many, and want
-- of memory says nothing
abbrev pub EndsBy : {A : Type 0} → Result A CutError → ViewParts → Standing → Standing → Type 0
EndsBy (Ok answer) view old new = IsComplete view old new
EndsBy (Err TooLarge) view old new = VisitsTooMany view old.tree
EndsBy (Err OutOfMemory) view old new = Unit {0}

-- the tree stays, whatever the result is, and only visited tiles that may want their children are
-- opened, none twice
pub record WalksWhole {A : Type 0} (result : Result A CutError) (view : ViewParts)
    (old new : Standing)
    : Type 0 where
  pub tree : new.tree ≡ old.tree
  pub opens : StandIn new new.opened (to_open view (visits view old.tree))
  pub ends : EndsBy result view old new
