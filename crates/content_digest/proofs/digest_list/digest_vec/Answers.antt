use Rattle.std.proofs.Common.{ap, ◌∙◌}
use Rattle.rayon.proofs.ListFacts.{IfOk-then}
use Rattle.rayon.proofs.ToStd.{slice-map}
use Rattle.sha2.specs.Sha256.{sha256}
use Rattle.content_digest.proofs.digest_list.digest_vec.Goals as goal

pub returns : goal.returns
returns g c =
    let slice = ap (λ it. it.base.slice.now) c.map.ensures.base
    ∙ (ap (λ it. it.slice.now) c.with_min_len.ensures.base ∙ c.par_iter.ensures) in
    IfOk-then c.collect.result _ _ c.collect.ensures (λ digests h.
    let chain = h.1 in
    rw h.2 (slice-map chain.0 c.args.list.now (chain.1 ∙ slice) sha256 h.0 chain.2))
