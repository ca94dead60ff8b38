use Rattle.std.proofs.Common.{◌∙◌, ◌≤◌, ◌++◌, ◌∷◌, [], ap, length, rules}
use Rattle.std.specs.Prelude.{Ok}
use Rattle.std.specs.Str.Lines.{lines}
use Rattle.session_script.specs.Reading.{later, script_behind}
use Rattle.session_script.specs.Scripts.{script_of}
use Rattle.session_script.specs.declared.script_line.ScriptLine.TheVariants.{End}
use Rattle.session_script.proofs.BehindLines.{answers_same, nothing}
use Rattle.session_script.proofs.reading.read_script.Goals as goal

pub returns-in-Ok-End : goal.returns-in-Ok-End
unfolding script_of
returns-in-Ok-End c =
    let number = c.loop-rest.number in
    let read = c.loop-rest.read.lines in
    let step = rw c.in-Ok-End.field-0-is at c.in-Ok-End.ensures in
    let whole = c.loop-rest.invariant.behind
    ∙ (ap (λ texts. later number (script_behind read texts)) c.first_line.ensures.line
    ∙ ap (later number) (step (lines c.first_line.result.1.now))) in
    answers_same c.end_of.result _ (Ok (c.take_line.new.read.lines ++ End ∷ [])) whole
    c.end_of.ensures

pub returns-in-Ok-Bad : goal.returns-in-Ok-Bad
unfolding script_of
returns-in-Ok-Bad c =
    let number = c.loop-rest.number in
    let read = c.loop-rest.read.lines in
    let step = rw c.in-Ok-Bad.field-0-is at c.in-Ok-Bad.ensures in
    c.loop-rest.invariant.behind
    ∙ (ap (λ texts. later number (script_behind read texts)) c.first_line.ensures.line
    ∙ ap (later number) (step (lines c.first_line.result.1.now)))

pub returns : goal.returns
unfolding script_of
returns c =
    let none : length c.loop-rest.rest.now ≤ 0 = search rules in
    c.loop-rest.invariant.behind
    ∙ ap (λ rest. later c.loop-rest.number (script_behind c.loop-rest.read.lines (lines rest)))
    (nothing c.loop-rest.rest.now none)
