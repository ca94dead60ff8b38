-- What bitstreams are read from, as the code holds it.
use Rattle.subtree_binary.specs.Availability.{Storage}
use Rattle.subtree_binary.specs.declared.storage.Storage as held

abbrev pub storage_seen : held.Storage → Storage
storage_seen storage = record {
  buffers = storage.buffers.items;
  views = storage.views.items;
  binary = storage.binary.now;
}
