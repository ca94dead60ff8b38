use Rattle.std.proofs.Common.{arith, unsigned_abs, ap, ◌∙◌, ◌≡◌, ◌≤◌}
use Rattle.std.proofs.lemmas.Int.{ints}
use Rattle.fixed_geometry.specs.Quotient.{half_size}
use Rattle.fixed_geometry.proofs.Quotients.{half_size_le, half_size-at_most}
use Rattle.fixed_geometry.proofs.quotient.half.Goals as goal

pub returns-clause-bound : goal.returns-clause-bound
returns-clause-bound c =
    let small : half_size c.unsigned_abs.result c.args.d ≤ c.unsigned_abs.result =
    half_size_le c.unsigned_abs.result c.args.d c.requires.d_from in
    omega (arith, ints)

pub returns-clause-at_most : goal.returns-clause-at_most
returns-clause-at_most c =
    let size : c.quotient-size.result ≡ half_size (unsigned_abs c.args.n) c.args.d =
    c.quotient-size.ensures ∙ ap (λ n. half_size n c.args.d)
    (c.unsigned_abs.ensures.value ∙ omega (arith, ints)) in
    half_size-at_most _ (unsigned_abs c.args.n) c.args.d
    (omega (arith, ints, size, c.with_sign_of.ensures.bound))
