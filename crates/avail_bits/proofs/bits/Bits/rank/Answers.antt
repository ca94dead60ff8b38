use Rattle.std.proofs.Common.{◌≡◌, ◌<◌, ◌≤◌, ◌*◌, ◌+◌, ◌/◌, ℕ, ap, sym, ◌∙◌, length, take}
use Rattle.std.proofs.Common.{replicate, subst, arith}
use Rattle.std.specs.List.{count_by}
use Rattle.std.proofs.lemmas.List.{length-replicate}
use Rattle.avail_bits.specs.Bitstreams.{bit_of}
use Rattle.avail_bits.specs.Counts.{count_to, counts_of}
use Rattle.avail_bits.specs.Forms.{form_bits, IsForm}
use Rattle.avail_bits.specs.declared.bits.Form.TheVariants.{Bitstream}
use Rattle.avail_bits.proofs.Counted.{rank_here, count_to_le}
use Rattle.avail_bits.proofs.Listed.{length-bits_of, rank_of_bits, length-counts_of, rank_of_true}
use Rattle.avail_bits.proofs.bits.Bits.rank.Goals as goal

in_table : (i n v : ℕ) → i ≤ n → v ≡ n / 64 + 1 → i / 64 < v
in_table i n v h e = omega arith

in_bytes : (i n m : ℕ) → i ≤ n → n ≤ 8 * m → i / 64 * 8 ≤ m
in_bytes i n m h g = omega arith

pub index-requires : goal.index-requires
index-requires c =
    let form : IsForm (Bitstream c.in-Bitstream.bytes c.in-Bitstream.counts c.in-Bitstream.count) =
    subst IsForm c.in-Bitstream.is c.self.invariant in
    let whole = ap length (sym c.self.view_is ∙ ap form_bits c.in-Bitstream.is)
    ∙ length-bits_of c.in-Bitstream.bytes c.in-Bitstream.count in
    in_table c.args.i c.in-Bitstream.count _ (subst (λ t. c.args.i ≤ t) whole c.requires)
    (c.in-Bitstream.counts.ok.0 ∙ ap length form.2 ∙ length-counts_of c.in-Bitstream.bytes
    (c.in-Bitstream.count / 64))

pub word_at-requires : goal.word_at-requires
word_at-requires c =
    let form : IsForm (Bitstream c.in-Bitstream.bytes c.in-Bitstream.counts c.in-Bitstream.count) =
    subst IsForm c.in-Bitstream.is c.self.invariant in
    let whole = ap length (sym c.self.view_is ∙ ap form_bits c.in-Bitstream.is)
    ∙ length-bits_of c.in-Bitstream.bytes c.in-Bitstream.count in
    subst (λ t. c.args.i / 64 * 8 ≤ length t) (sym c.as_slice.ensures)
    (in_bytes c.args.i c.in-Bitstream.count (length c.in-Bitstream.bytes)
    (subst (λ t. c.args.i ≤ t) whole c.requires) form.1)

pub overflow_add-result : goal.overflow_add-result
overflow_add-result c =
    let form : IsForm (Bitstream c.in-Bitstream.bytes c.in-Bitstream.counts c.in-Bitstream.count) =
    subst IsForm c.in-Bitstream.is c.self.invariant in
    let whole = ap length (sym c.self.view_is ∙ ap form_bits c.in-Bitstream.is)
    ∙ length-bits_of c.in-Bitstream.bytes c.in-Bitstream.count in
    let sum = rank_here c.as_slice.result.now c.in-Bitstream.count c.args.i
    c.in-Bitstream.counts.items c.index.result.now c.word_at.result c.ones_below.result
    (subst (λ t. c.args.i ≤ t) whole c.requires)
    (form.2 ∙ ap (λ t. counts_of t (c.in-Bitstream.count / 64)) (sym c.as_slice.ensures))
    c.index.ensures c.word_at.ensures c.ones_below.ensures in
    let most = count_to_le (bit_of c.as_slice.result.now) c.args.i in
    record { fits = omega (arith, c.ranges.i.fits) }

pub returns-in-Bitstream : goal.returns-in-Bitstream
returns-in-Bitstream c =
    let form : IsForm (Bitstream c.in-Bitstream.bytes c.in-Bitstream.counts c.in-Bitstream.count) =
    subst IsForm c.in-Bitstream.is c.self.invariant in
    let same = sym c.self.view_is ∙ ap form_bits c.in-Bitstream.is in
    let within =
    subst (λ t. c.args.i ≤ t) (ap length same ∙ length-bits_of c.in-Bitstream.bytes
    c.in-Bitstream.count) c.requires in
    rank_here c.as_slice.result.now c.in-Bitstream.count c.args.i c.in-Bitstream.counts.items
    c.index.result.now c.word_at.result c.ones_below.result within
    (form.2 ∙ ap (λ t. counts_of t (c.in-Bitstream.count / 64)) (sym c.as_slice.ensures))
    c.index.ensures c.word_at.ensures c.ones_below.ensures
    ∙ ap (λ t. count_to (bit_of t) c.args.i) c.as_slice.ensures
    ∙ sym (rank_of_bits c.in-Bitstream.bytes c.in-Bitstream.count c.args.i within)
    ∙ ap (λ t. count_by (λ b. b) (take c.args.i t)) (sym same)

pub returns-then-value : goal.returns-then-value
returns-then-value c =
    let same = sym c.self.view_is ∙ ap form_bits c.in-Constant.is in
    let within =
    subst (λ t. c.args.i ≤ t) (ap length same ∙ length-replicate c.in-Constant.count
    c.in-Constant.value) c.requires in
    sym (rank_of_true c.in-Constant.count c.args.i within)
    ∙ ap (λ t. count_by (λ b. b) (take c.args.i t))
    (sym (same ∙ ap (replicate c.in-Constant.count) c.if-value.true))
