use Rattle.tile_types.specs.Keys.{same_key}
use Rattle.doc_store.proofs.Numbers.{document_stays, place_stays}
use Rattle.doc_store.proofs.laws.documents_keep_their_numbers.Goals as goal

pub returns : goal.returns
returns c = record {
  number = λ store added key bytes n.
      place_stays (λ l. same_key key l.key) store.loaded
      (record { key = added; bytes = bytes }) n;
  document = λ store added bytes n.
      document_stays store.loaded (record { key = added; bytes = bytes }) n;
}
