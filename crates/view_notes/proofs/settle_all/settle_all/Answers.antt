use Rattle.std.proofs.Common.{◌≡◌, ◌+◌, ap, length, refl, ◌∙◌, arith}
use Rattle.std.specs.Prelude.{nat_le}
use Rattle.std.proofs.lemmas.List.{length-map}
use Rattle.view_notes.specs.Agreement.{fixed}
use Rattle.view_notes.proofs.Everywhere.{all_in_doubt, none_in_doubt, one_in_doubt}
use Rattle.view_notes.proofs.settle_all.settle_all.Goals as goal

pub loop-number-init : goal.loop-number-init
loop-number-init c = record {
  placed = c.requires.placed;
  same_fixed = refl;
  read = all_in_doubt 0 c.args.notes.now;
}

pub loop-number-preserved : goal.loop-number-preserved
loop-number-preserved c =
    let i = c.loop-number.invariant in
    let k = c.loop-number.number in
    record {
      placed = c.settle.ensures.placed;
      same_fixed = c.settle.ensures.fixed ∙ i.same_fixed;
      read =
          c.settle.ensures.read (λ j. nat_le (k + 1) j) (one_in_doubt k c.loop-number.notes i.read);
    }

pub returns-clause-agree : goal.returns-clause-agree
returns-clause-agree c =
    let i = c.loop-number.invariant in
    let sized = length-map c.args.notes.now fixed in
    let still = length-map c.loop-number.notes fixed in
    let same : length c.loop-number.notes ≡ length c.args.notes.now =
    omega (arith, ap length i.same_fixed, sized, still) in
    record {
      few = omega (arith, same, c.requires.few);
      placed = i.placed;
      read =
          none_in_doubt c.loop-number.number 0 c.loop-number.notes
          (omega (arith, same, c.loop-number-test.false)) i.read;
    }
