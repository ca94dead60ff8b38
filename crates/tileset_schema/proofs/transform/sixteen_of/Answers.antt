use Rattle.std.proofs.Common.{◌<◌, ◌∙◌, ap, length, arith}
use Rattle.std.proofs.lemmas.List.{length-append}
use Rattle.tileset_schema.proofs.Sixteens.{one_more}
use Rattle.tileset_schema.proofs.transform.sixteen_of.Goals as goal

pub loop-i-preserved : goal.loop-i-preserved
loop-i-preserved c =
    let within : c.loop-i.i < length c.args.spellings.now = rw c.told-spellings c.loop-i-test.true
    in record {
      told = one_more c.loop-i.numbers c.add.new.self c.args.spellings.now c.loop-i.i _ within
          c.loop-i.invariant.count c.add.ensures ∙ c.loop-i.invariant.told;
      count = ap length c.add.ensures ∙ length-append c.loop-i.numbers _ ∙ omega
          (arith, c.loop-i.invariant.count);
    }
