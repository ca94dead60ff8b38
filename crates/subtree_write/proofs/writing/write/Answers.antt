use Rattle.std.proofs.Common.{◌≡◌, ◌<◌, ◌^◌, rules, length}
use Rattle.json_decimal.specs.Ascii.{space}
use Rattle.subtree_write.specs.Rows.{binary, padded}
use Rattle.subtree_write.specs.Texts.{json_text, streams_of}
use Rattle.subtree_write.specs.Writing.{written}
use Rattle.subtree_write.proofs.ReadBack.{reads_back}
use Rattle.subtree_write.proofs.Pieces.{file_is}
use Rattle.subtree_write.proofs.writing.write.Goals as goal

pub returns-clause-bytes : goal.returns-clause-bytes
unfolding written
returns-clause-bytes c =
    let json = padded space (json_text c.args.spec.now) in
    let bytes = binary (streams_of c.args.spec.now) in
    let n : c.len.result ≡ length json = rw (← c.in_ok-json.ensures.json) (search rules) in
    let m : c.len-2.result ≡ length bytes =
    rw (← c.in_ok-json.ensures.binary) (search rules) in
    file_is json bytes c.in_ok-file.file.items c.extend_from_slice.new.self.items
    c.extend_from_slice-2.new.self.items c.len.result c.len-2.result n m c.in_ok-file.ensures
    (rw (c.as_slice.ensures.value, c.in_ok-json.ensures.json)
    at c.in_ok-extend_from_slice.ensures.items)
    (rw (c.as_slice-2.ensures.value, c.in_ok-json.ensures.binary)
    at c.in_ok-extend_from_slice-2.ensures.items)

pub returns-clause-reads_back : goal.returns-clause-reads_back
returns-clause-reads_back c all =
    let e = returns-clause-bytes c in
    let short : length c.extend_from_slice-2.new.self.items < 2 ^ 63 = search rules in
    rw e (reads_back c.args.spec.now all (rw (← e) short))
