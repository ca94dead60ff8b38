use Rattle.engine_state.proofs.Rooms.{address_known, bytes_known, evicted_known, found_known, held_known, moved_known, without_known}
use Rattle.engine_state.proofs.laws.room_is_the_caches.Goals as goal

pub returns : goal.returns
returns c = record {
  bytes = bytes_known;
  held = held_known;
  evicted = λ used budget size rs. evicted_known used budget rs size;
  moved = moved_known;
  without = without_known;
  address = address_known;
  found = found_known;
}
