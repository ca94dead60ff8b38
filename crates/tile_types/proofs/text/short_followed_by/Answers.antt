use Rattle.std.proofs.Common.{◌≡◌, ℕ, ◌+◌, List, ◌++◌, length, take, arith, ap, sym, ◌∙◌, subst}
use Rattle.std.proofs.lemmas.List.{length-take}
use Rattle.std.specs.Str.{IsUtf8}
use Rattle.std.proofs.lemmas.Str.{IsUtf8-append}
use Rattle.tile_types.proofs.Prefixes.{take-written}
use Rattle.tile_types.proofs.text.short_followed_by.Goals as goal

pub invariant_of-result : goal.invariant_of-result
invariant_of-result c =
    let front : List ℕ = take c.from-start.result c.args.bytes in
    let more : List ℕ = c.copy_from_slice.new.self in
    let same : more ≡ c.args.more.now = c.copy_from_slice.ensures.after ∙ c.as_bytes.ensures.value in
    let whole : IsUtf8 (front ++ more) = IsUtf8-append front more (subst (λ n. IsUtf8 (take n c.args.bytes)) (sym c.from-start.ensures) c.requires.utf8) (subst IsUtf8 (sym same) c.utf8.more) in
    let size : c.from-start.result + length c.args.more.now ≡ length front + length more = omega (arith, length-take c.from-start.result c.args.bytes, ap length same, c.from-start.ensures, c.requires.fits) in
    (omega (arith, c.from-start.ensures, c.requires.fits), ∣ subst IsUtf8 (sym (take-written front more _ _ size)) whole ∣₁)
