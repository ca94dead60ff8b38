use Rattle.std.proofs.Common.{rules, ℕ, List, Bor}
use Rattle.std.proofs.lemmas.List.Folds.{length-flat_map-take}
use Rattle.frame_text.proofs.parts.whole_length.Goals as goal

pub returns-in_err-whole : goal.returns-in_err-whole
returns-in_err-whole c =
    search (
      rules,
      length-flat_map-take (λ (part : Bor (List ℕ)). part.now) c.args.parts.now
          c.loop-part.part-index,
    )
