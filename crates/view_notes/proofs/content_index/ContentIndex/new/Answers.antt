use Rattle.std.proofs.Common.{ap, map}
use Rattle.view_notes.specs.Names.{address_at}
use Rattle.view_notes.proofs.Indexing.{no_index}
use Rattle.view_notes.proofs.content_index.ContentIndex.new.Goals as goal

pub invariant_of-result : goal.invariant_of-result
invariant_of-result c = no_index _ _ _ c.new.ensures c.new-2.ensures.items c.new-3.ensures.items

pub returns : goal.returns
returns c = ap (map (map (address_at c.new.result.addresses))) c.new.ensures
