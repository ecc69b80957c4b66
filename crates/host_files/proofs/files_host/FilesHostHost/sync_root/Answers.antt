use Rattle.host_core.proofs.Counted.{counts_does, silent_does}
use Rattle.host_files.specs.declared.record.Asked.TheVariants.{SyncRoot}
use Rattle.host_files.specs.Replay.{replay, step_of}
use Rattle.host_files.proofs.Replayed.{does_by}
use Rattle.host_files.proofs.files_host.FilesHostHost.sync_root.Goals as goal

pub returns-clause-does : goal.returns-clause-does
returns-clause-does g c = does_by g.D.Disk.model g.D.Disk.sound c.settle-settled.result (SyncRoot) c.args.self.now.told.log.notes c.settle-settled.new.self.told.log.notes c.settle-settled.ensures.done c.settle-settled.ensures.device c.settle-settled.ensures.memory c.settle-settled.ensures.declined

pub returns-clause-silent : goal.returns-clause-silent
returns-clause-silent g c = silent_does c.settle-settled.result (step_of (SyncRoot)) (replay g.D.Disk.model c.args.self.now.told.log.notes) (replay g.D.Disk.model c.settle-settled.new.self.told.log.notes) (returns-clause-does g c)

pub returns-clause-counts : goal.returns-clause-counts
returns-clause-counts g c = counts_does c.settle-settled.result (step_of (SyncRoot)) (replay g.D.Disk.model c.args.self.now.told.log.notes) (replay g.D.Disk.model c.settle-settled.new.self.told.log.notes) (returns-clause-does g c)
