use Rattle.std.proofs.Common.{◌*◌, w32, w64, FitsSigned, sym, ap, ◌∙◌, rules}
use Rattle.std.proofs.lemmas.Int.{to_z-of_z}
use Rattle.std.proofs.lemmas.List.{take_rest}
use Rattle.std.specs.Int.{w128}
use Rattle.meta_tables.specs.Cells.{number_at}
use Rattle.meta_tables.proofs.numbers.number_at.Goals as goal

pub returns-in-Int32 : goal.returns-in-Int32
returns-in-Int32 c =
    let read = rw (take_rest c.args.values.now (c.args.row * 4)) at c.signed_32.ensures in
    let wide : FitsSigned w128 c.from-in-Int32.result = search rules in
    let fits : FitsSigned w32 c.signed_32.result = search rules in
    to_z-of_z w128 c.from-in-Int32.result wide ∙ c.from-in-Int32.ensures
    ∙ to_z-of_z w32 c.signed_32.result fits ∙ read
    ∙ ap (λ type. number_at type c.args.values.now c.args.row) (sym c.in-Int32.is)

pub returns-in-Int64 : goal.returns-in-Int64
returns-in-Int64 c =
    let read = rw (take_rest c.args.values.now (c.args.row * 8)) at c.signed_64.ensures in
    let wide : FitsSigned w128 c.from-in-Int64.result = search rules in
    let fits : FitsSigned w64 c.signed_64.result = search rules in
    to_z-of_z w128 c.from-in-Int64.result wide ∙ c.from-in-Int64.ensures
    ∙ to_z-of_z w64 c.signed_64.result fits ∙ read
    ∙ ap (λ type. number_at type c.args.values.now c.args.row) (sym c.in-Int64.is)
