use Rattle.std.proofs.Common.{◌≡◌, ◌++◌, length}
use Rattle.subtree_write.specs.StreamsSeen.{views_with, binary_with}
use Rattle.subtree_write.specs.Texts.{availability_texts, further}
use Rattle.subtree_write.proofs.available.push_further.Given as goal

abbrev pub invariant-loop-row : goal.invariant-loop-row
invariant-loop-row l = record {
  json : l.json.items ++ further (availability_texts (length l.streams.views.items) l.rest)
      ≡ l.initial.json.items
      ++ further (availability_texts (length l.initial.streams.views.items) l.rows);
  views : views_with l.streams l.rest ≡ views_with l.initial.streams l.rows;
  binary : binary_with l.streams l.rest ≡ binary_with l.initial.streams l.rows;
}

abbrev pub decreases-loop-row : goal.decreases-loop-row
decreases-loop-row l = length l.rest
