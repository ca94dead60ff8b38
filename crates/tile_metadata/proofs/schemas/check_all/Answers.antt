use Rattle.std.proofs.Common.{◌∙◌, All, IsTrue, ap, map, subst, sym}
use Rattle.std.proofs.lemmas.List.Elements.{All-tail}
use Rattle.doc_store.specs.Store.{docs}
use Rattle.plain_tree.specs.Standing.{standing_of}
use Rattle.tile_metadata.specs.Metadata.{first_cause}
use Rattle.tile_metadata.proofs.Causes.{cause_none}
use Rattle.tile_metadata.proofs.schemas.check_all.Goals as goal

pub loop-node-preserved : goal.loop-node-preserved
loop-node-preserved c =
    let s = standing_of c.args.tree.now in
    let is = c.in-Some.ensures.cases.0 in (
      All-tail (λ n. IsTrue (s.is_valid n)) c.in-Some.node.now c.in-Some.behind.now
          (subst (All (λ n. IsTrue (s.is_valid n))) is c.loop-node.invariant.0),
      sym (cause_none (docs c.args.store.now) (s.node_tree c.in-Some.node.now)
          (map s.node_tree c.in-Some.behind.now) c.in-Ok.ensures)
          ∙ ap (λ ns. first_cause (docs c.args.store.now) (map s.node_tree ns)) (sym is)
          ∙ c.loop-node.invariant.1,
    )
