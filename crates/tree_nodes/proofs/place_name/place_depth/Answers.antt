use Rattle.std.proofs.Common.{[], ◌∷◌, ◌++◌, if◌then◌else◌, ap, arith, subst, sym, ◌∙◌}
use Rattle.std.specs.Prelude.{IsUtf8}
use Rattle.std.specs.Fmt.{decimal}
use Rattle.std.proofs.lemmas.List.{append-nil, drop_all}
use Rattle.std.proofs.lemmas.Str.{IsUtf8-nil}
use Rattle.tree_nodes.proofs.place_name.place_depth.Goals as goal

pub place_number-requires-clause-utf8 : goal.place_number-requires-clause-utf8
place_number-requires-clause-utf8 c =
    subst IsUtf8 (sym (drop_all 44 c.args.bytes.now (omega (arith, c.told-bytes)))) IsUtf8-nil

pub returns-then-octree-clause-written : goal.returns-then-octree-clause-written
returns-then-octree-clause-written c =
    let digits = decimal c.args.z in
    c.place_number.ensures.written
    ∙ ap (λ rest. 46 ∷ (digits ++ rest))
    (drop_all 44 c.args.bytes.now (omega (arith, c.told-bytes)))
    ∙ ap (λ rest. 46 ∷ rest) (append-nil digits)
    ∙ sym (ap (λ octree. if octree then 46 ∷ digits else []) c.if-octree.true)

pub returns-clause-written : goal.returns-clause-written
returns-clause-written c =
    drop_all 44 c.args.bytes.now (omega (arith, c.told-bytes))
    ∙ sym (ap (λ octree. if octree then 46 ∷ decimal c.args.z else []) c.if-octree.false)

pub returns-clause-utf8 : goal.returns-clause-utf8
returns-clause-utf8 c =
    subst IsUtf8 (sym (drop_all 44 c.args.bytes.now (omega (arith, c.told-bytes)))) IsUtf8-nil
