use Rattle.std.proofs.Common.{◌≡◌, Option, refl}
use Rattle.host_core.specs.declared.node.Kind.{Kind}
use Rattle.host_core.specs.World.{World, kind_of}
use Rattle.host_core.proofs.Counted.{counts_behind, fault_behind, no_fault_same}
use Rattle.host_core.proofs.Moments.{reads_then, silent_then}
use Rattle.host_files.proofs.Replayed.{tells_behind}
use Rattle.host_files.specs.Replay.{replay}
use Rattle.host_files.proofs.files_host.FilesHostHost.kind.Goals as goal

pub returns-in-Ok-clause-found : goal.returns-in-Ok-clause-found
returns-in-Ok-clause-found g c = tells_behind (replay g.D.Disk.model c.args.self.now.told.log.notes) (replay g.D.Disk.model c.approach.new.self.told.log.notes) (replay g.D.Disk.model c.see.new.self.told.log.notes) c.see.result (λ kind w. kind ≡ kind_of (w c.args.path.now)) c.approach.ensures.reads c.see.ensures.found

pub returns-in-Ok-clause-reads : goal.returns-in-Ok-clause-reads
returns-in-Ok-clause-reads g c = reads_then (replay g.D.Disk.model c.args.self.now.told.log.notes) (replay g.D.Disk.model c.approach.new.self.told.log.notes) (replay g.D.Disk.model c.see.new.self.told.log.notes) c.approach.ensures.reads c.see.ensures.reads

pub returns-in-Ok-clause-silent : goal.returns-in-Ok-clause-silent
returns-in-Ok-clause-silent g c = silent_then (replay g.D.Disk.model c.args.self.now.told.log.notes) (replay g.D.Disk.model c.approach.new.self.told.log.notes) (replay g.D.Disk.model c.see.new.self.told.log.notes) c.approach.ensures.silent c.see.ensures.silent

pub returns-in-Ok-clause-counts : goal.returns-in-Ok-clause-counts
returns-in-Ok-clause-counts g c = counts_behind (replay g.D.Disk.model c.args.self.now.told.log.notes) (replay g.D.Disk.model c.approach.new.self.told.log.notes) (replay g.D.Disk.model c.see.new.self.told.log.notes) c.see.result c.in-Ok.ensures.counts c.see.ensures.counts

pub returns-in-Err-clause-counts : goal.returns-in-Err-clause-counts
returns-in-Err-clause-counts g c = fault_behind (Unit {0}) (Option Kind) (replay g.D.Disk.model c.args.self.now.told.log.notes) (replay g.D.Disk.model c.args.self.now.told.log.notes) (replay g.D.Disk.model c.approach.new.self.told.log.notes) c.in-Err.fault (no_fault_same (replay g.D.Disk.model c.args.self.now.told.log.notes) (replay g.D.Disk.model c.args.self.now.told.log.notes) refl) c.in-Err.ensures.counts
