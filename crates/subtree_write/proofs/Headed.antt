-- The header is read as it was written, and so are the chunks behind it.
use Rattle.std.proofs.Common.{◌≡◌, ℕ, ◌+◌, ◌-◌, ◌^◌, ◌<◌, ◌≤◌, ◌==◌, ◌&&◌, nat_le, true, List, ◌++◌, length, drop, slice_range, Ok, Err, refl, ap, sym, ◌∙◌, arith, length-append}
use Rattle.std.specs.Prelude.{if◌then◌else◌}
use Rattle.std.proofs.Math.Seq.{take-append_seam, take-length, drop-append_seam, drop-append-add}
use Rattle.std.proofs.lemmas.Bool.Decides.{nat_tests}
use Rattle.byteorder.specs.Endian.{little_bytes, little_number}
use Rattle.byteorder.specs.Numbers.{little_number-reads_back}
use Rattle.subtree_binary.specs.Causes.{Read}
use Rattle.subtree_binary.specs.Header.{chunks, header as read_header, lengths, version}
use Rattle.subtree_binary.specs.declared.error.SubtreeError.TheVariants.{Version, Lengths}
use Rattle.subtree_binary.specs.declared.header.ChunkLengths.{ChunkLengths}
use Rattle.subtree_write.specs.Writing.{header, in_file}

at_least : (k n : ℕ) → k ≤ n → nat_le k n ≡ true
at_least k n h = grind (arith, nat_tests)

-- the tests of the header, of what is read of it
abbrev version_by : ℕ → ℕ → Read (Unit {0})
version_by long n = if nat_le 8 long && n == 1 then Ok tt else Err Version

abbrev lengths_by : ℕ → ChunkLengths → Read ChunkLengths
lengths_by long own =
    if nat_le 24 long && nat_le (24 + (own.json + own.binary)) long then Ok own else Err Lengths

version_read : (long n : ℕ) → 8 ≤ long → n ≡ 1 → version_by long n ≡ Ok tt
version_read long n h is = rw (at_least 8 long h, is) refl

lengths_read : (long : ℕ) (own : ChunkLengths) → long ≡ 24 + (own.json + own.binary)
    → lengths_by long own ≡ Ok own
lengths_read long own h =
    let whole = at_least 24 long (omega arith) in
    let both = at_least (24 + (own.json + own.binary)) long (omega arith) in
    rw (whole, both) refl

pub length_is : (json binary : List ℕ)
    → length (in_file json binary) ≡ 24 + (length json + length binary)
length_is json binary = let long = length-append json binary in omega arith

module _ (json binary : List ℕ) (few_json : length json < 2 ^ 64)
    (few_binary : length binary < 2 ^ 64) where
  abbrev n : ℕ
  n = length json

  abbrev m : ℕ
  m = length binary

  abbrev file : List ℕ
  file = in_file json binary

  version_is : version file ≡ Ok tt
  version_is =
      version_read (length file) (little_number 4 (drop 4 file)) (rw (length_is json binary) (omega arith))
      (little_number-reads_back 4 1
      (little_bytes 8 n ++ (little_bytes 8 m ++ (json ++ binary))) (omega arith))

  json_length : little_number 8 (drop 8 file) ≡ n
  json_length = little_number-reads_back 8 n (little_bytes 8 m ++ (json ++ binary)) few_json

  binary_length : little_number 8 (drop 16 file) ≡ m
  binary_length = little_number-reads_back 8 m (json ++ binary) few_binary

  lengths_are : lengths file ≡ Ok (record { json = n; binary = m })
  lengths_are =
      let own : ChunkLengths = record {
        json = little_number 8 (drop 8 file);
        binary = little_number 8 (drop 16 file);
      } in
      let same : own ≡ record { json = n; binary = m } = rw (json_length, binary_length) refl in
      lengths_read (length file) own
      (length_is json binary ∙ ap (λ (o : ChunkLengths). 24 + (o.json + o.binary)) (sym same))
      ∙ ap Ok same

  header_is : read_header file ≡ Ok (record { json = n; binary = m })
  header_is = rw (version_is, lengths_are) refl

  json_is : slice_range file 24 (24 + n) ≡ json
  json_is =
      let count : 24 + n - 24 ≡ n = omega arith in rw count (take-append_seam json binary)

  binary_is : slice_range file (24 + n) (24 + n + m) ≡ binary
  binary_is =
      let count : 24 + n + m - (24 + n) ≡ m = omega arith in
      rw (count, drop-append-add (header n m) (json ++ binary) n, drop-append_seam json binary)
      (take-length binary)

  pub chunks_are : chunks file ≡ Ok (record { json = json; binary = binary })
  chunks_are = rw (header_is, json_is, binary_is) refl
