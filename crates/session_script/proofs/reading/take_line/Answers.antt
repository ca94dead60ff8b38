use Rattle.std.proofs.Common.{◌∙◌, sym}
use Rattle.session_script.proofs.BehindLines.{behind_end, behind_line, behind_no_line}
use Rattle.session_script.proofs.BehindLines.{behind_passed, behind_stray}
use Rattle.session_script.proofs.reading.take_line.Goals as goal

pub returns-then-is_end : goal.returns-then-is_end
returns-then-is_end c = λ texts.
    behind_end c.args.read.now.lines c.args.text.now texts
    (sym c.is_end.ensures ∙ c.if-is_end.true)

pub returns-then-is_passed_over : goal.returns-then-is_passed_over
returns-then-is_passed_over c = λ texts.
    behind_passed c.args.read.now.lines c.args.text.now texts
    (sym c.is_passed_over.ensures ∙ c.if-is_passed_over.true)

pub returns-in_default : goal.returns-in_default
returns-in_default c = λ texts.
    behind_no_line c.args.read.now.lines c.args.text.now texts
    (sym c.is_end.ensures ∙ c.if-is_end.false)
    (sym c.is_passed_over.ensures ∙ c.if-is_passed_over.false)
    (sym c.line_of.ensures.value ∙ c.in_default.is)

pub returns-then-not-may_follow : goal.returns-then-not-may_follow
returns-then-not-may_follow c = λ texts.
    behind_stray c.args.read.now.lines c.args.text.now texts c.in-Some.line
    (sym c.is_end.ensures ∙ c.if-is_end.false)
    (sym c.is_passed_over.ensures ∙ c.if-is_passed_over.false)
    (sym c.line_of.ensures.value ∙ c.in-Some.is)
    (sym c.may_follow.ensures ∙ c.if-not-may_follow.true)

pub returns : goal.returns
returns c = λ texts.
    rw c.in_ok-push.ensures.ok
    (behind_line c.args.read.now.lines c.args.text.now texts c.in-Some.line
    (sym c.is_end.ensures ∙ c.if-is_end.false)
    (sym c.is_passed_over.ensures ∙ c.if-is_passed_over.false)
    (sym c.line_of.ensures.value ∙ c.in-Some.is)
    (sym c.may_follow.ensures ∙ c.if-not-may_follow.false))
