use Rattle.std.proofs.Common.{◌==◌, position, ◌∙◌, ap, sym}
use Rattle.session_run.specs.declared.own_frame.OwnFrame.{OwnFrame}
use Rattle.session_run.proofs.Holding.{at_place, no_place}
use Rattle.session_run.proofs.session.take_oldest.Goals as goal

pub returns-in-Some-clause-found : goal.returns-in-Some-clause-found
returns-in-Some-clause-found c =
    let test = λ (own : OwnFrame). own.frame.viewer == c.args.viewer in
    let is = sym (ap (position test) c.deref.ensures.value) ∙ sym c.place_of.ensures in
    (at_place test c.args.frames.now.items _ c.remove.result (is ∙ c.in-Some.is)
    c.remove.ensures.value).0

pub returns-in-Some-clause-rest : goal.returns-in-Some-clause-rest
returns-in-Some-clause-rest c =
    let test = λ (own : OwnFrame). own.frame.viewer == c.args.viewer in
    let is = sym (ap (position test) c.deref.ensures.value) ∙ sym c.place_of.ensures in
    c.remove.ensures.items
    ∙ (at_place test c.args.frames.now.items _ c.remove.result (is ∙ c.in-Some.is)
    c.remove.ensures.value).1

pub returns-in-None-clause-found : goal.returns-in-None-clause-found
returns-in-None-clause-found c =
    let test = λ (own : OwnFrame). own.frame.viewer == c.args.viewer in
    let is = sym (ap (position test) c.deref.ensures.value) ∙ sym c.place_of.ensures in
    (no_place test c.args.frames.now.items (is ∙ c.in-None.is)).0

pub returns-in-None-clause-rest : goal.returns-in-None-clause-rest
returns-in-None-clause-rest c =
    let test = λ (own : OwnFrame). own.frame.viewer == c.args.viewer in
    let is = sym (ap (position test) c.deref.ensures.value) ∙ sym c.place_of.ensures in
    (no_place test c.args.frames.now.items (is ∙ c.in-None.is)).1
