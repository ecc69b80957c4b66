use Rattle.host_core.proofs.Counted.{counts_does, silent_does}
use Rattle.host_files.specs.declared.record.Asked.TheVariants.{Lower}
use Rattle.host_files.specs.Replay.{replay, step_of}
use Rattle.host_files.proofs.Replayed.{does_by}
use Rattle.host_files.proofs.files_host.FilesHostHost.lower.Goals as goal

pub returns-clause-does : goal.returns-clause-does
returns-clause-does g c = does_by g.D.Disk.model g.D.Disk.sound c.settle.result (Lower c.args.path.now) c.args.self.now.told.log.notes c.settle.new.self.told.log.notes c.settle.ensures.done c.settle.ensures.device c.settle.ensures.memory c.settle.ensures.declined

pub returns-clause-silent : goal.returns-clause-silent
returns-clause-silent g c = silent_does c.settle.result (step_of (Lower c.args.path.now)) (replay g.D.Disk.model c.args.self.now.told.log.notes) (replay g.D.Disk.model c.settle.new.self.told.log.notes) (returns-clause-does g c)

pub returns-clause-counts : goal.returns-clause-counts
returns-clause-counts g c = counts_does c.settle.result (step_of (Lower c.args.path.now)) (replay g.D.Disk.model c.args.self.now.told.log.notes) (replay g.D.Disk.model c.settle.new.self.told.log.notes) (returns-clause-does g c)
