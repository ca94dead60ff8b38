-- What the bits of a subtree say, beside its chunks.
use Rattle.std.specs.Prelude.{ℕ, List}
use Rattle.json_decimal.specs.JsonValue.{JsonValue}
use Rattle.subtree_binary.specs.Subtrees.{SubtreeParts}
use Rattle.subtree_binary.specs.declared.reading.SubtreeBits.{SubtreeBits}

abbrev pub parts_by : JsonValue → List ℕ → SubtreeBits → SubtreeParts
parts_by json binary bits = record {
  tiles = bits.tiles;
  contents = bits.contents.items;
  children = bits.children;
  json = json;
  binary = binary;
}
