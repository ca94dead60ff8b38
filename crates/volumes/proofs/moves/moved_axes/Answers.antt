use Rattle.std.proofs.Common.{◌≡◌, ◌∙◌, length, ap, refl, rules, [], ◌∷◌}
use Rattle.volumes.specs.Moves.{moved_axes}
use Rattle.volumes.proofs.Consequences.{moved_axes-identity}
use Rattle.volumes.proofs.moves.moved_axes.Goals as goal

pub returns-clause-same : goal.returns-clause-same
returns-clause-same c =
    let count : length c.args.axes.now ≡ 3 = search rules in
    let value : c.apply_vector.result ∷ c.apply_vector-2.result ∷ c.apply_vector-3.result ∷ []
    ≡ moved_axes c.args.axes.now c.args.by.now =
    rw (
      c.apply_vector.ensures.value,
      c.apply_vector-2.ensures.value,
      c.apply_vector-3.ensures.value,
    ) refl in
    λ same. value ∙ (ap (λ m. moved_axes c.args.axes.now m) same
    ∙ moved_axes-identity c.args.axes.now count c.requires)
