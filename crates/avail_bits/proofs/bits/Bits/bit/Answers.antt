use Rattle.std.proofs.Common.{◌<◌, ◌≤◌, ◌*◌, ◌/◌, ◌%◌, ℕ, ap, sym, ◌∙◌, length, subst, get_or}
use Rattle.std.proofs.Common.{arith}
use Rattle.std.specs.Prelude.{Some, slice_get, ◌==◌}
use Rattle.std.proofs.lemmas.Nat.Bits.{shr_and_one}
use Rattle.avail_bits.specs.Bitstreams.{bit_of}
use Rattle.avail_bits.specs.Forms.{form_bits, IsForm}
use Rattle.avail_bits.specs.declared.bits.Form.TheVariants.{Bitstream}
use Rattle.avail_bits.proofs.Listed.{length-bits_of, at_bits_of, at_replicate}
use Rattle.std.proofs.lemmas.List.{length-replicate}
use Rattle.avail_bits.proofs.bits.Bits.bit.Goals as goal

inside : (i n m : ℕ) → i < n → n ≤ 8 * m → i / 8 < m
inside i n m h g = omega arith

pub bounds-as_slice-i : goal.bounds-as_slice-i
bounds-as_slice-i g c =
    let form : IsForm (Bitstream c.in-Bitstream.bytes c.in-Bitstream.counts c.in-Bitstream.count) =
    subst IsForm c.in-Bitstream.is c.self.invariant in
    let whole = ap length (sym c.self.view_is ∙ ap form_bits c.in-Bitstream.is)
    ∙ length-bits_of c.in-Bitstream.bytes c.in-Bitstream.count in
    subst (λ t. c.args.i / 8 < length t) (sym c.as_slice.ensures)
    (inside c.args.i c.in-Bitstream.count (length c.in-Bitstream.bytes)
    (subst (λ t. c.args.i < t) whole c.requires) form.1)

pub returns-in-Constant-clause-value : goal.returns-in-Constant-clause-value
returns-in-Constant-clause-value g c =
    let same = sym c.self.view_is ∙ ap form_bits c.in-Constant.is in
    let whole = ap length same ∙ length-replicate c.in-Constant.count c.in-Constant.value in
    ap (λ t. slice_get t c.args.i) same ∙ at_replicate c.in-Constant.value c.in-Constant.count
    c.args.i (subst (λ t. c.args.i < t) whole c.requires)

pub returns-in-Bitstream-clause-value : goal.returns-in-Bitstream-clause-value
returns-in-Bitstream-clause-value g c =
    let same = sym c.self.view_is ∙ ap form_bits c.in-Bitstream.is in
    let whole = ap length same ∙ length-bits_of c.in-Bitstream.bytes c.in-Bitstream.count in
    ap (λ t. slice_get t c.args.i) same ∙ at_bits_of c.in-Bitstream.bytes c.in-Bitstream.count
    c.args.i (subst (λ t. c.args.i < t) whole c.requires)
    ∙ ap (λ t. Some (bit_of t c.args.i)) (sym c.as_slice.ensures)
    ∙ ap (λ t. Some (t == 1))
    (sym (shr_and_one (get_or c.as_slice.result.now (c.args.i / 8) 0) (c.args.i % 8)))
