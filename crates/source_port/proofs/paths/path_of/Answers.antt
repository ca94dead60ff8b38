use Rattle.std.proofs.Common.{◌∙◌, ap, sym, ◌++◌}
use Rattle.std.specs.Prelude.{codes}
use Rattle.std.specs.List.{before_first}
use Rattle.source_port.proofs.AddressPaths.{elsewhere, found, refused}
use Rattle.source_port.proofs.paths.path_of.Goals as goal

pub returns-in_err-rest : goal.returns-in_err-rest
returns-in_err-rest c = rw c.from_residual.ensures (elsewhere c.args.address.now c.in_err-rest.ensures.cases)

pub returns-then-is_path : goal.returns-then-is_path
returns-then-is_path c = found c.args.address.now c.in_ok-rest.rest.now c.before-path.result.now (c.in_ok-rest.ensures.cases.1.1 ∙ ap (λ l. codes "http://tiles/" ++ l) (sym c.in_ok-rest.ensures.cases.2)) (c.before-path.ensures ∙ ap (before_first _) c.before-2.ensures) (c.if-is_path.ensures)

pub returns-else-is_path : goal.returns-else-is_path
returns-else-is_path c = refused c.args.address.now c.in_ok-rest.rest.now c.before-path.result.now (c.in_ok-rest.ensures.cases.1.1 ∙ ap (λ l. codes "http://tiles/" ++ l) (sym c.in_ok-rest.ensures.cases.2)) (c.before-path.ensures ∙ ap (before_first _) c.before-2.ensures) (c.if-is_path.ensures)
