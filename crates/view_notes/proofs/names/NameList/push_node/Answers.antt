use Rattle.std.proofs.Common.{◌∙◌}
use Rattle.view_notes.specs.declared.span.Span.{Span}
use Rattle.view_notes.proofs.Numbering.{names_added, names_next, names_span, span_added}
use Rattle.view_notes.proofs.names.NameList.push_node.Goals as goal

pub invariant_of-self : goal.invariant_of-self
invariant_of-self g c =
    let added = c.push_numbers.ensures.adds in
    names_added _ _ _ _ added.0 _ c.self.invariant added.1

pub invariant_of-self-in_err-end : goal.invariant_of-self-in_err-end
invariant_of-self-in_err-end g c =
    let added = c.push_numbers.ensures.adds in
    names_added _ _ _ _ added.0 _ c.self.invariant added.1

pub invariant_of-self-in_err-push : goal.invariant_of-self-in_err-push
invariant_of-self-in_err-push g c =
    let added = c.push_numbers.ensures.adds in
    rw c.in_err-push.ensures.items (names_added _ _ _ _ added.0 _ c.self.invariant added.1)

pub invariant_of-self-2 : goal.invariant_of-self-2
invariant_of-self-2 g c =
    let added = c.push_numbers.ensures.adds in
    let s : Span = record { start = c.in_ok-start.start; end = c.in_ok-end.end } in
    rw c.in_ok-push.ensures.items
    (names_span _ _ _ s (names_added _ _ _ _ added.0 _ c.self.invariant added.1)
    (span_added _ _ _ _ added.0 _ c.self.invariant added.1 s
    (c.in_ok-start.ensures ∙ c.len.ensures ∙ c.self.inside.numbers.ok.0) (c.in_ok-end.ensures ∙ c.len-2.ensures ∙ c.push_numbers.new.numbers.ok.0)))

pub returns : goal.returns
returns g c =
    let s : Span = record { start = c.in_ok-start.start; end = c.in_ok-end.end } in
    rw (c.in_ok-push.ensures.items, ← c.self.view_is)
    (names_next _ _ _ _ _ _ c.self.invariant c.in_ok-push_numbers.ensures.all s
    (c.in_ok-start.ensures ∙ c.len.ensures ∙ c.self.inside.numbers.ok.0) (c.in_ok-end.ensures ∙ c.len-2.ensures ∙ c.push_numbers.new.numbers.ok.0))
