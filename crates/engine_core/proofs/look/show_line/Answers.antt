use Rattle.std.proofs.Common.{◌∙◌, map, refl, sym}
use Rattle.engine_state.specs.Frames.{addresses_of}
use Rattle.engine_state.specs.Report.{line_of_shown}
use Rattle.engine_core.proofs.ShownLines.{address_more, none_more, shown_more}
use Rattle.engine_core.proofs.look.show_line.Goals as goal

pub returns-in_default-clause-lines : goal.returns-in_default-clause-lines
returns-in_default-clause-lines c =
    none_more (λ ls. ls) c.args.cache.now.residents c.args.line.now
    (map line_of_shown c.args.shown.now) refl
    (sym c.in_ok-content.ensures.content ∙ c.in_default.is)

pub returns-in_default-clause-addresses : goal.returns-in_default-clause-addresses
returns-in_default-clause-addresses c =
    none_more addresses_of c.args.cache.now.residents c.args.line.now c.args.addresses.now refl
    (sym c.in_ok-content.ensures.content ∙ c.in_default.is)

pub returns-clause-lines : goal.returns-clause-lines
returns-clause-lines c =
    shown_more c.args.cache.now.residents c.args.line.now c.in-Some.content c.args.shown.now
    c.push-3.new.self _ (sym c.in_ok-content.ensures.content ∙ c.in-Some.is)
    c.in_ok-push-2.ensures.ok c.in_ok-copy-2.ensures.value c.in_ok-copy-3.ensures.value refl

pub returns-clause-addresses : goal.returns-clause-addresses
returns-clause-addresses c =
    address_more c.args.cache.now.residents c.args.line.now c.in-Some.content c.args.addresses.now
    c.push.new.self _ (sym c.in_ok-content.ensures.content ∙ c.in-Some.is) c.in_ok-push.ensures.ok c.in_ok-copy.ensures.value
