-- Lists behind which further values stand, and tables of such lists.
use Rattle.std.specs.Prelude.{◌≡◌, List, ◌++◌}
use Rattle.tree_nodes.specs.declared.tables.Tables.{Tables}

-- further values stand behind these, if any
pub record IsFront {A : Type 0} (front all : List A) : Type 0 where
  pub behind : List A
  pub whole : all ≡ front ++ behind

-- further transforms and the like
pub record Continues (old new : Tables) : Type 0 where
  pub transforms : IsFront old.transforms.items new.transforms.items
  pub waiting : IsFront old.waiting.items new.waiting.items
  pub tops : IsFront old.tops.items new.tops.items
  pub places : IsFront old.places.items new.places.items
  pub contents : IsFront old.contents.items new.contents.items
  pub external : IsFront old.external.items new.external.items
