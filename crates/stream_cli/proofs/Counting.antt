-- Counts of calls, one run of calls behind another.
use Rattle.std.proofs.Common.{◌≡◌, ℕ, zero, suc, ◌+◌, ap, ◌∙◌, arith, subst}
use Rattle.source_port.specs.Counts.{HasRisen, count_after, next_count}

-- calls, and then so many more
pub counts_then : (more calls count : ℕ)
    → count_after more (count_after calls count) ≡ count_after (calls + more) count
counts_then zero calls count =
    let e : calls ≡ calls + 0 = omega arith in ap (λ n. count_after n count) e
counts_then (suc more) calls count =
    let e : suc (calls + more) ≡ calls + suc more = omega arith in
    ap next_count (counts_then more calls count) ∙ ap (λ n. count_after n count) e

-- the same, where the counts are named
pub counts_behind : (calls more start now new : ℕ) → now ≡ count_after calls start
    → new ≡ count_after more now → new ≡ count_after (calls + more) start
counts_behind calls more start now new first then =
    then ∙ ap (count_after more) first ∙ counts_then more calls start

pub later_risen : (start now new : ℕ) → now ≡ start → HasRisen now new → HasRisen start new
later_risen start now new before risen = subst (λ n. HasRisen n new) before risen
