use Rattle.std.proofs.Common.{◌≡◌, ◌++◌, drop, map}
use Rattle.engine_state.specs.Frames.{addresses_of}
use Rattle.engine_state.specs.Report.{line_of_shown}
use Rattle.engine_core.specs.Holding.{lines_with}
use Rattle.engine_core.proofs.look.show_lines.Given as goal

-- those that are left give what all of them give
abbrev pub invariant-loop-line : goal.invariant-loop-line
invariant-loop-line l =
    let rs = l.cache.residents in
    let left = drop l.line-index l.lines in
    record {
      shown : map line_of_shown l.shown ++ lines_with rs left
          ≡ map line_of_shown l.fn.shown ++ lines_with rs l.lines;
      addresses : l.addresses ++ addresses_of (lines_with rs left)
          ≡ l.fn.addresses ++ addresses_of (lines_with rs l.lines);
    }
