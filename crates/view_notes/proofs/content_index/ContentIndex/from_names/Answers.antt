use Rattle.std.proofs.Common.{rules}
use Rattle.std.proofs.lemmas.List.Sorted.{IsNonDecreasingBy-from_sort_by_key}
use Rattle.view_notes.specs.declared.name_pair.NamePair.{NamePair}
use Rattle.view_notes.proofs.Indexing.{makes_index}
use Rattle.view_notes.proofs.content_index.ContentIndex.from_names.Goals as goal

pub invariant_of-result : goal.invariant_of-result
invariant_of-result c =
    makes_index c.args.names c.in_ok-pairs.pairs.items c.sort_unstable_by_key.new.self.items
    c.in_ok-contents.contents.items c.in_ok-users.users.items
    c.in_ok-pairs.ensures.numbered c.in_ok-pairs.ensures.pairs
    c.sort_unstable_by_key.ensures.permutation
    (IsNonDecreasingBy-from_sort_by_key (λ (p : NamePair). p.content)
    c.sort_unstable_by_key.new.self.items c.sort_unstable_by_key.ensures.sorted
    (λ a r q k. search rules))
    (search rules) (search rules)
