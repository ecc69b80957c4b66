use Rattle.std.proofs.Common.{Bool}
use Rattle.host_files.proofs.Replayed.{silent_missed, counts_missed, reads_missed}
use Rattle.host_files.proofs.files_host.FilesHostHost.same.Goals as goal

pub returns-in-Err-clause-silent : goal.returns-in-Err-clause-silent
returns-in-Err-clause-silent g c = silent_missed g.D.Disk.model c.fail.result c.args.self.now.told.log.notes c.fail.new.self.told.log.notes c.fail.ensures.undeclined c.fail.ensures.device c.fail.ensures.memory

pub returns-in-Err-clause-counts : goal.returns-in-Err-clause-counts
returns-in-Err-clause-counts g c = counts_missed g.D.Disk.model Bool c.fail.result c.args.self.now.told.log.notes c.fail.new.self.told.log.notes c.fail.ensures.undeclined c.fail.ensures.device c.fail.ensures.memory

pub returns-in-Err-clause-reads : goal.returns-in-Err-clause-reads
returns-in-Err-clause-reads g c = reads_missed g.D.Disk.model c.fail.result c.args.self.now.told.log.notes c.fail.new.self.told.log.notes c.fail.ensures.undeclined c.fail.ensures.device c.fail.ensures.memory
