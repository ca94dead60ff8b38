use Rattle.std.proofs.Common.{◌≡◌, ◌≤◌, ◌<◌, ◌∙◌, List, ℕ, length, IfSome, arith, subst, sym}
use Rattle.std.proofs.lemmas.Result.{IfOk-weaker}
use Rattle.source_port.proofs.Prefixes.{whole_prefix}
use Rattle.source_port.proofs.reading.read_within.Goals as goal

pub returns-clause-bytes : goal.returns-clause-bytes
returns-clause-bytes g c =
    let read : List ℕ = c.read_to_end.new.buf.items in
    let known = g.R.Read.remaining c.args.reader in
    let whole : length read ≤ c.args.limit → IfSome known (λ left. read ≡ left) = λ few.
    let fewer : length read < c.take-front.result.limit =
    omega (arith, c.take-front.ensures.limit, c.from-most.ensures, few) in
    subst (λ r. IfSome (g.R.Read.remaining r) (λ left. read ≡ left)) c.take-front.ensures.inner
    (whole_prefix _ _ read _ c.in-Ok.ensures.items fewer c.in_default-read_to_end.ensures.bytes) in
    IfOk-weaker c.within_limit.result _ _
    (λ kept p. subst (λ bytes. IfSome known (λ left. bytes ≡ left)) (sym p.0) (whole p.1))
    c.within_limit.ensures.ok
