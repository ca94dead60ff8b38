use Rattle.std.proofs.Common.{bytes_eq, ap, ◌∙◌}
use Rattle.std.specs.List.{position}
use Rattle.meta_schema.specs.Members.{names}
use Rattle.meta_schema.proofs.Seen.{place_seen}
use Rattle.meta_schema.proofs.members.NamedMembers.place_of.Goals as goal

pub returns : goal.returns
returns c =
    c.get_index_of.ensures.index
    ∙ place_seen c.args.name.now c.self.inside.values.entries
    ∙ ap (λ ms. position (bytes_eq c.args.name.now) (names ms)) c.self.view_is
