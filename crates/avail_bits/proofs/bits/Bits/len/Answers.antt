use Rattle.std.proofs.Common.{ap, sym, ◌∙◌, length}
use Rattle.avail_bits.specs.Forms.{form_bits}
use Rattle.avail_bits.proofs.Listed.{length-bits_of}
use Rattle.avail_bits.proofs.bits.Bits.len.Goals as goal

pub returns-in-Bitstream : goal.returns-in-Bitstream
returns-in-Bitstream c = sym (ap length (sym c.self.view_is ∙ ap form_bits c.in-Bitstream.is)
    ∙ length-bits_of c.in-Bitstream.bytes c.in-Bitstream.count)
