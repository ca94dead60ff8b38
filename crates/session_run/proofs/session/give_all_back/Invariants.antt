use Rattle.std.proofs.Common.{◌≡◌, ◌++◌, length}
use Rattle.std.specs.Vec.Iter.{into_iter_items, into_iter_len}
use Rattle.engine_state.specs.Journal.{replay}
use Rattle.session_run.specs.Obeying.{ending}
use Rattle.session_run.specs.Sessions.{AreThoseHeld}
use Rattle.session_run.proofs.session.give_all_back.Given as goal

-- the frames that are left are those that the state holds
abbrev pub invariant-loop-own : goal.invariant-loop-own
invariant-loop-own g l = record {
  held : AreThoseHeld (into_iter_items l.own-iterator) l.desk.engine.journal;
  same_end : l.desk.engine.journal ++ ending (replay l.desk.engine.journal)
      ≡ l.fn.desk.engine.journal ++ ending (replay l.fn.desk.engine.journal);
  library : l.desk.library ≡ l.fn.desk.library;
  len : into_iter_len l.own-iterator ≡ length (into_iter_items l.own-iterator);
}
