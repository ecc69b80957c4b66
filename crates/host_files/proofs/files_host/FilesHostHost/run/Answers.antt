use Rattle.std.proofs.Common.{Ok, Err, ◌∷◌, ap, ◌∙◌}
use Rattle.host_core.specs.World.{is_kept}
use Rattle.host_core.proofs.Counted.{counts_runs}
use Rattle.host_files.specs.Replay.{replay}
use Rattle.host_files.specs.declared.record.Noted.TheVariants.{Ended, Broke}
use Rattle.host_files.proofs.Replayed.{ended, broken}
use Rattle.host_files.proofs.files_host.FilesHostHost.run.Goals as goal

pub returns-in-Ok-clause-runs : goal.returns-in-Ok-clause-runs
returns-in-Ok-clause-runs g c = ended g.D.Disk.model g.D.Disk.sound c.args.call.now c.args.keep.now c.in-Ok.outcome c.args.self.now.told.log.notes c.end.new.self.told.log.notes
    (c.end.ensures.notes ∙ ap (λ l. Ended c.args.call.now c.places_of-kept.result.now c.in-Ok.outcome ∷ l) c.in_ok-reserve.ensures.notes ∙ ap (λ k. Ended c.args.call.now k c.in-Ok.outcome ∷ c.args.self.now.told.log.notes) c.places_of-kept.ensures)

pub returns-in-Ok-clause-counts : goal.returns-in-Ok-clause-counts
returns-in-Ok-clause-counts g c = counts_runs (is_kept c.args.keep.now) c.args.call.now (Ok c.in-Ok.outcome) (replay g.D.Disk.model c.args.self.now.told.log.notes) (replay g.D.Disk.model c.end.new.self.told.log.notes) (returns-in-Ok-clause-runs g c)

pub returns-in-Err-clause-runs : goal.returns-in-Err-clause-runs
returns-in-Err-clause-runs g c = broken g.D.Disk.model g.D.Disk.sound c.args.call.now c.args.keep.now c.fail.result c.args.self.now.told.log.notes c.fail.new.self.told.log.notes c.fail.ensures.undeclined
    (λ d. c.fail.ensures.device d ∙ ap (λ l. Broke c.args.call.now c.places_of-kept.result.now ∷ l) c.in_ok-reserve.ensures.notes ∙ ap (λ k. Broke c.args.call.now k ∷ c.args.self.now.told.log.notes) c.places_of-kept.ensures) (λ n. c.fail.ensures.memory n ∙ c.in_ok-reserve.ensures.notes)

pub returns-in-Err-clause-counts : goal.returns-in-Err-clause-counts
returns-in-Err-clause-counts g c = counts_runs (is_kept c.args.keep.now) c.args.call.now (Err c.fail.result) (replay g.D.Disk.model c.args.self.now.told.log.notes) (replay g.D.Disk.model c.fail.new.self.told.log.notes) (returns-in-Err-clause-runs g c)
