use Rattle.session_script.proofs.Parts.{cut_found, cut_parts, cut_spelled}
use Rattle.session_script.proofs.marks.cut.Goals as goal

pub returns : goal.returns
returns c =
    let mark = c.args.mark in
    let text = c.args.text.now in
    let split = c.split_once.ensures.cases in
    record {
      found = cut_found mark text c.split_once.result split c.requires;
      spelled = λ first rest none e.
          cut_spelled mark text first rest c.split_once.result split c.requires none e;
      parts = cut_parts mark text c.split_once.result split c.requires;
    }
