use Rattle.std.proofs.Common.{◌≡◌, ◌<◌, ◌^◌, length, arith, ap, ◌∙◌, sym}
use Rattle.turn_rule.proofs.Allowed.{notes}
use Rattle.turn_rule.proofs.steps.count_entry.Goals as goal

pub fetch_add-requires : goal.fetch_add-requires
fetch_add-requires g c =
    let fits = c.entries-length.type_inv in
    let log = g.N.Grown.log in
    let same : c.entries-length.result ≡ length log =
    c.entries-length.ensures ∙ ap length (sym c.requires.log) in
    let short : length log < 2 ^ 64 = omega arith in
    let three = c.requires.table.three_words in
    (c.requires.table.same, omega arith, notes _ _ _ _ _ _ _ _ _ _ c.requires.added short)
