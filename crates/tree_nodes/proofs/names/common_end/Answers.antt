use Rattle.std.proofs.Common.{◌≡◌, ℕ, ◌+◌, ◌<◌, [], ◌∷◌, ◌++◌, ap, arith, codes, sym}
use Rattle.std.proofs.lemmas.Fmt.{decimal_digit}
use Rattle.std.specs.Fmt.{decimal}
use Rattle.tree_nodes.proofs.names.common_end.Goals as goal

end_of : (n : ℕ) → n < 10 → 47 ∷ (48 + n) ∷ [] ≡ codes "/" ++ decimal n
end_of n h = sym (ap (λ digits. 47 ∷ digits) (decimal_digit n h))

pub returns-in-0 : goal.returns-in-0
returns-in-0 c = rw c.in-0.is (end_of 0 (omega arith))

pub returns-in-1 : goal.returns-in-1
returns-in-1 c = rw c.in-1.is (end_of 1 (omega arith))

pub returns-in-2 : goal.returns-in-2
returns-in-2 c = rw c.in-2.is (end_of 2 (omega arith))

pub returns-in-3 : goal.returns-in-3
returns-in-3 c = rw c.in-3.is (end_of 3 (omega arith))

pub returns-in-4 : goal.returns-in-4
returns-in-4 c = rw c.in-4.is (end_of 4 (omega arith))

pub returns-in-5 : goal.returns-in-5
returns-in-5 c = rw c.in-5.is (end_of 5 (omega arith))

pub returns-in-6 : goal.returns-in-6
returns-in-6 c = rw c.in-6.is (end_of 6 (omega arith))

pub returns-in-7 : goal.returns-in-7
returns-in-7 c = rw c.in-7.is (end_of 7 (omega arith))

pub returns-in-8 : goal.returns-in-8
returns-in-8 c = rw c.in-8.is (end_of 8 (omega arith))

pub returns-in-9 : goal.returns-in-9
returns-in-9 c = rw c.in-9.is (end_of 9 (omega arith))
