use Rattle.std.proofs.Common.{rules, ℕ, List, Bor}
use Rattle.std.proofs.lemmas.List.Folds.{length-flat_map-take}
use Rattle.frame_text.proofs.parts.push_parts.Goals as goal

pub returns-in_err-push_str-clause-refused : goal.returns-in_err-push_str-clause-refused
returns-in_err-push_str-clause-refused c =
    search (
      rules,
      length-flat_map-take (λ (part : Bor (List ℕ)). part.now) c.args.parts.now
          c.loop-part.part-index,
    )

pub returns-in_err-push_str-clause-succeeds : goal.returns-in_err-push_str-clause-succeeds
returns-in_err-push_str-clause-succeeds c =
    search (
      rules,
      length-flat_map-take (λ (part : Bor (List ℕ)). part.now) c.args.parts.now
          c.loop-part.part-index,
    )
