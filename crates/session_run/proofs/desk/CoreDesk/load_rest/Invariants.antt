use Rattle.std.proofs.Common.{◌≡◌, ◌≤◌, ◌-◌, ◌^◌, [], take}
use Rattle.loader_gate.specs.Outcomes.{latest_count}
use Rattle.engine_state.specs.Journal.{replay}
use Rattle.session_run.specs.Loading.{counts_in}
use Rattle.session_run.proofs.desk.CoreDesk.load_rest.Given as goal

-- there were loads alone
abbrev pub invariant-loop-self : goal.invariant-loop-self
invariant-loop-self g l = record {
  begun : take l.self.begun l.self.engine.journal ≡ take l.fn.self.begun l.fn.self.engine.journal;
  room : l.self.engine.room ≡ l.fn.self.engine.room;
  library : l.self.library ≡ l.fn.self.library;
  none_flies : (replay l.self.engine.journal).flying ≡ [];
  counted : latest_count (counts_in l.self.engine.journal) ≤ g.S.Source.faults l.source;
  source : g.S.LibraryName.library l.source ≡ g.S.LibraryName.library l.fn.source;
}

abbrev pub decreases-loop-self : goal.decreases-loop-self
decreases-loop-self g l = 2 ^ 64 - l.self.jobs
