use Rattle.std.proofs.Common.{◌≡◌, ◌∷◌, [], List, ℕ, Bor, ◌∙◌, suc, drop, drop-cons, get_or, bytes_eq}
use Rattle.std.proofs.lemmas.List.{length-map}
use Rattle.std.specs.Prelude.{option_map}
use Rattle.json_decimal.specs.Handles.{json_of, text_in}
use Rattle.json_decimal.specs.Named.{seen}
use Rattle.json_decimal.proofs.NamedValues.{put_step, put_done, seen_put, seen_left}
use Rattle.json_decimal.proofs.json_members.put.Goals as goal
use Rattle.json_decimal.proofs.json_members.put.Goals.{then-is, else-is}

pub loop-i-preserved : goal.loop-i-preserved
loop-i-preserved c =
    let none : Bor (List ℕ) = record { ref_ptr = (0, 0); now = [] } in
    let name : Bor (List ℕ) = get_or c.args.names.now c.loop-i.i none in
    let here : drop c.loop-i.i c.args.names.now ≡ name ∷ drop (suc c.loop-i.i) c.args.names.now =
    drop-cons c.args.names.now c.loop-i.i none c.loop-i-test.true in
    let same = bytes_eq (text_in c.args.name) name.now in
    elim c.if-is.branch [
      | then-is w ↦
          put_step c.args.names.now c.loop-i.i (seen c.loop-i.values) (seen c.if-is.values)
          (text_in c.args.name, json_of c.args.value) name here
          (seen_put same c.is.result c.loop-i.values c.if-is.values c.loop-i.i c.args.value
          w.if-is.true c.is.ensures w.values-is)
          ∙ c.loop-i.invariant
      | else-is w ↦
          put_step c.args.names.now c.loop-i.i (seen c.loop-i.values) (seen c.if-is.values)
          (text_in c.args.name, json_of c.args.value) name here
          (seen_left same c.is.result c.loop-i.values c.if-is.values c.loop-i.i c.args.value
          w.if-is.false c.is.ensures w.values-is)
          ∙ c.loop-i.invariant
    ]

pub returns : goal.returns
returns c =
    put_done c.args.names.now c.loop-i.i (seen c.loop-i.values) (seen c.args.values.now)
    (text_in c.args.name, json_of c.args.value) c.loop-i-test.false
    (length-map c.args.values.now (option_map json_of) ∙ c.requires.places) c.loop-i.invariant
