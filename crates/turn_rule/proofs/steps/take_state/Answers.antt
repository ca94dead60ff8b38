use Rattle.std.proofs.Common.{rules, ◌≡◌, ap, ◌∙◌, arith, refl, Some}
use Rattle.turn_rule.proofs.Allowed.{tries, taken_misses, first_held}
use Rattle.turn_rule.proofs.steps.take_state.Goals as goal

pub loop-init : goal.loop-init
loop-init g c = (tt, tt, refl, (c.args.seat.now.me.0.misses, refl))

pub compare_exchange-requires : goal.compare_exchange-requires
compare_exchange-requires g c =
    let three = c.requires.table.three_words in
    let same = c.loop.invariant.3.1 in
    let number = ap (λ m. m.0.number) same ∙ c.requires.number in
    let here = ap (λ m. m.0.spent) same ∙ c.requires.here in
    (c.loop.invariant.2 ∙ c.requires.table.same, omega arith, tries _ _ _ _ _ _ _ _ number here)

pub exchange-requires : goal.exchange-requires
exchange-requires g c =
    let won = c.compare_exchange.ensures.2.0 c.if-compare_exchange-eq0.true in
    let slots = ap (λ m. m.1) won.1 in
    let table = c.compare_exchange.ensures.0 ∙ (c.loop.invariant.2 ∙ c.requires.table.same) in
    (table, (Some won.0, first_held slots))

pub returns-then-compare_exchange-eq0 : goal.returns-then-compare_exchange-eq0
returns-then-compare_exchange-eq0 g c =
    let won = c.compare_exchange.ensures.2.0 c.if-compare_exchange-eq0.true in
    let same : won.0 ≡ c.unwrap.result = search rules in
    taken_misses _ _ _ _ _ c.args.seat.now.me.0 c.loop.seat.me.0 won.0 c.unwrap.result
    (ap (λ m. m.0) c.loop.invariant.3.1) same won.2
