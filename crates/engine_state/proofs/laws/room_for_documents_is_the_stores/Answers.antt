use Rattle.engine_state.proofs.Rooms.{room_full}
use Rattle.engine_state.proofs.laws.room_for_documents_is_the_stores.Goals as goal

pub returns : goal.returns
returns c = room_full
