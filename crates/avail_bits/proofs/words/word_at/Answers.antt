use Rattle.std.proofs.Common.{◌≡◌, ℕ, ◌+◌, ◌*◌, ◌-◌, ◌≤◌, List, length, take, drop, get_or, arith}
use Rattle.std.proofs.Common.{ap, subst, ◌∙◌}
use Rattle.std.proofs.lemmas.List.{length-drop, take_rest}
use Rattle.std.specs.Int.{bit_at}
use Rattle.avail_bits.proofs.Counted.{word_bit, chunk_at}
use Rattle.avail_bits.proofs.words.word_at.Goals as goal

place : (w i : ℕ) → w * 8 + i ≡ 8 * w + i
place w i = omega arith

left : (b : ℕ) (xs : List ℕ) → length (take (length xs - b) (drop b xs)) ≡ length xs - b
left b xs = ap length (take_rest xs b) ∙ length-drop b xs

room : (n b : ℕ) → b ≤ n → 8 ≤ n - b → b + 8 ≤ n
room n b h g = omega arith

pub returns-in-Some : goal.returns-in-Some
returns-in-Some c = λ j h.
    ap (λ t. bit_at t j) c.from_le_bytes.ensures
    ∙ word_bit c.in-Some.block.now (λ i. get_or c.args.bytes.now (8 * c.args.word + i) 0)
    (λ i below. ap (λ t. get_or t i 0) c.in-Some.ensures.cases.same ∙ chunk_at c.args.bytes.now
    (c.args.word * 8) i (room (length c.args.bytes.now) (c.args.word * 8) c.requires
    (subst (λ t. 8 ≤ t) (left (c.args.word * 8) c.args.bytes.now)
    c.in-Some.ensures.cases.enough)) below ∙ ap (λ t. get_or c.args.bytes.now t 0)
    (place c.args.word i))
    (λ i. (c.type_inv.bytes (8 * c.args.word + i)).fits) j h
