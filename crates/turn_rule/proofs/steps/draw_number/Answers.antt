use Rattle.std.proofs.Common.{ap, ◌∙◌, arith, refl}
use Rattle.turn_rule.proofs.Allowed.{sees, takes_number}
use Rattle.turn_rule.proofs.steps.draw_number.Goals as goal

pub loop-init : goal.loop-init
loop-init g c = (tt, tt, refl, refl, refl, (c.args.old.now.me.0.drawn, refl, omega arith))

pub load-drawn-requires : goal.load-drawn-requires
load-drawn-requires g c =
    let three = c.requires.old.three_words in
    (c.loop.invariant.2 ∙ c.requires.old.same, omega arith, sees _ _ _ _ _ _ _)

pub compare_exchange-requires : goal.compare_exchange-requires
compare_exchange-requires g c =
    let three = c.requires.new.three_words in
    let low = c.if-drawn-ge-NUMBERS.false in
    let none_yet = ap (λ m. m.0.number) c.loop.invariant.4 ∙ c.requires.numberless in (
      c.loop.invariant.3 ∙ c.requires.new.same,
      omega arith,
      takes_number _ _ _ _ _ _ _ _ _ none_yet (omega arith) (omega arith),
    )
