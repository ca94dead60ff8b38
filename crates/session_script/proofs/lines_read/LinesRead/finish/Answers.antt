use Rattle.std.proofs.Common.{◌≡◌, ◌++◌, ◌∷◌, [], refl}
use Rattle.session_script.specs.declared.script_line.ScriptLine.TheVariants.{End}
use Rattle.session_script.proofs.Tallies.{ended, within_pushed}
use Rattle.session_script.proofs.lines_read.LinesRead.finish.Goals as goal

pub invariant_of-result : goal.invariant_of-result
invariant_of-result c =
    let lines = c.args.self.lines in
    let pushed : c.push.new.self ≡ lines ++ End ∷ [] = c.in_ok-push.ensures.ok in
    record {
      ends = rw pushed (ended lines c.args.self.unended);
      within = rw pushed (within_pushed lines End c.args.self.within refl);
    }
