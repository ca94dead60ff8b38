use Rattle.std.proofs.Common.{◌∙◌, ◌++◌, ap}
use Rattle.source_port.specs.Counts.{Counts}
use Rattle.loader_gate.specs.Outcomes.{counts_of}
use Rattle.loader_gate.proofs.LatestCounts.{latest_after}
use Rattle.loader_gate.proofs.LoadedOutcomes.{loaded_rises, loaded_told}
use Rattle.loader_gate.proofs.loading.load_one.Goals as goal

pub returns-in-Job-clause-counted : goal.returns-in-Job-clause-counted
returns-in-Job-clause-counted g c =
    let old : Counts = record {
      calls = g.S.Source.fetches c.args.source.now;
      faults = g.S.Source.faults c.args.source.now;
    } in
    let new : Counts = record {
      calls = g.S.Source.fetches c.load-outcome.new.source;
      faults = g.S.Source.faults c.load-outcome.new.source;
    } in
    let library = g.S.LibraryName.library c.args.source.now in
    let outcome = c.load-outcome.result in
    let loaded = c.load-outcome.ensures.loaded in
    let counts = c.deliver.ensures.fault_counts
    ∙ ap (λ counts. counts ++ counts_of outcome) c.take_job.ensures.fault_counts
    ∙ ap (λ told. g.D.JobDesk.fault_counts c.args.desk.now ++ told)
    (loaded_told library c.in-Job.job old new outcome loaded) in
    rw counts (latest_after old.faults new.faults (g.D.JobDesk.fault_counts c.args.desk.now)
    c.requires.counted (loaded_rises library c.in-Job.job old new outcome loaded))
