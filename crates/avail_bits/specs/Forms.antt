-- Where bits come from.
use Rattle.std.specs.Prelude.{◌≡◌, ◌*◌, ◌/◌, ◌≤◌, ◌<◌, ◌^◌, Bool, List, length, replicate}
use Rattle.avail_bits.specs.Bitstreams.{bits_of}
use Rattle.avail_bits.specs.Counts.{counts_of}
use Rattle.avail_bits.specs.declared.bits.Form.{Form}
use Rattle.avail_bits.specs.declared.bits.Form.TheVariants.{Constant, Bitstream}

-- the bits that a form stands for
abbrev pub form_bits : Form → List Bool
form_bits (Constant value count) = replicate count value
form_bits (Bitstream bytes counts count) = bits_of bytes count

-- what holds of each form: there are bytes for all bits, and the table counts those that are set
abbrev pub IsForm : Form → Type 0
IsForm (Constant value count) = count < 2 ^ 64
IsForm (Bitstream bytes counts count) =
    (count < 2 ^ 64) × (count ≤ 8 * length bytes) × (counts.items ≡ counts_of bytes (count / 64))
