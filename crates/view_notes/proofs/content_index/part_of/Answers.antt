use Rattle.std.proofs.Common.{leb, ltb, rules}
use Rattle.std.proofs.lemmas.List.Sorted.{IsPartitionPoint-from_clause, IsPartitionedBy-leb, IsPartitionedBy-ltb}
use Rattle.view_notes.proofs.content_index.part_of.Goals as goal

pub returns-clause-start : goal.returns-clause-start
returns-clause-start c =
    IsPartitionPoint-from_clause (λ y. ltb y c.args.content) c.args.contents.now _
    c.partition_point-start.ensures.partitioned
    (IsPartitionedBy-ltb (λ y. y) c.args.contents.now c.args.content c.requires)
    (λ a r q h. search rules)

pub returns-clause-end : goal.returns-clause-end
returns-clause-end c =
    IsPartitionPoint-from_clause (λ y. leb y c.args.content) c.args.contents.now _
    c.partition_point-end.ensures.partitioned
    (IsPartitionedBy-leb (λ y. y) c.args.contents.now c.args.content c.requires)
    (λ a r q h. search rules)
