use Rattle.std.proofs.Common.{arith, drop, sym}
use Rattle.std.specs.Fmt.{decimal}
use Rattle.std.proofs.lemmas.List.{drop_all}
use Rattle.stream_cli.specs.Listing.{known_volume_text, refine_word}
use Rattle.stream_cli.proofs.EndParts.{end_parts}
use Rattle.stream_cli.proofs.line_end.place_end.Goals as goal

pub returns-clause-written : goal.returns-clause-written
returns-clause-written c =
    let facts = c.facts.inside in
    rw (sym c.facts.view_is)
    (end_parts (refine_word facts.refine) (decimal facts.error)
    (known_volume_text facts.volume) (drop 300 c.args.bytes.now) _ _ _ _ _ _ _
    (drop_all 300 c.args.bytes.now (omega (arith, c.told-bytes)))
    c.place_word-at.ensures.written c.place_known-at.ensures.written
    c.place_word-at-2.ensures.written c.place_digits-at.ensures.written
    c.place_word-at-3.ensures.written c.place_refine-at.ensures.written
    c.place_word.ensures.written)
