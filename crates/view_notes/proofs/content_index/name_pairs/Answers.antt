use Rattle.std.proofs.Common.{◌≡◌, ◌++◌, ◌+◌, ◌∙◌, ap, sym, arith, length, map, take, length-take}
use Rattle.std.proofs.lemmas.Option.{slice_get_within as within}
use Rattle.cut_core.proofs.Lists.{taken}
use Rattle.view_notes.specs.Index.{pair_of, pairs_of}
use Rattle.view_notes.proofs.Indexing.{pairs_next}
use Rattle.view_notes.proofs.content_index.name_pairs.Goals as goal

pub loop-user-preserved : goal.loop-user-preserved
loop-user-preserved c =
    let numbers = c.args.names.now.numbers in
    let i = c.loop-user.user in
    let ks = c.numbers.result.now in
    let at : 0 + length (take i numbers) ≡ i =
    omega (arith, length-take i numbers, within numbers i ks c.numbers.ensures.numbers) in
    c.in_ok-push_pairs.ensures ∙ ap (λ ps. ps ++ map (pair_of i) ks) c.loop-user.invariant
    ∙ ap (λ n. pairs_of 0 (take i numbers) ++ map (pair_of n) ks) (sym at)
    ∙ sym (pairs_next 0 (take i numbers) ks)
    ∙ ap (pairs_of 0) (sym (taken numbers i ks c.numbers.ensures.numbers))
