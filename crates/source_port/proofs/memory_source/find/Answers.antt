use Rattle.std.proofs.Common.{◌≡◌, List, ℕ, true, false, sym, ap, ◌∙◌}
use Rattle.std.specs.Str.{bytes_eq}
use Rattle.source_port.proofs.LastFile.{at_last, before_last}
use Rattle.source_port.proofs.memory_source.find.Goals as goal

pub returns-then-eq : goal.returns-then-eq
returns-then-eq c =
    let same : bytes_eq c.in-Some.file.now.address c.args.address.now ≡ true = ap (λ (t : List ℕ). bytes_eq t c.args.address.now) (sym c.as_str.ensures.value) ∙ sym c.if-eq.ensures in
    sym (at_last c.args.address.now c.loop-file.rest.now c.in-Some.front.now c.in-Some.file.now c.in-Some.ensures.cases.0 same) ∙ c.loop-file.invariant

pub loop-file-preserved : goal.loop-file-preserved
loop-file-preserved c =
    let other : bytes_eq c.in-Some.file.now.address c.args.address.now ≡ false = ap (λ (t : List ℕ). bytes_eq t c.args.address.now) (sym c.as_str.ensures.value) ∙ sym c.if-eq.ensures in
    sym (before_last c.args.address.now c.loop-file.rest.now c.in-Some.front.now c.in-Some.file.now c.in-Some.ensures.cases.0 other) ∙ c.loop-file.invariant
