use Rattle.std.proofs.Common.{Option, inr, refl}
use Rattle.host_core.specs.declared.node.Kind.{Kind}
use Rattle.host_files.proofs.RememberedLaws.{lacking}
use Rattle.host_files.proofs.Replayed.{silent_missed, counts_missed, reads_missed}
use Rattle.host_files.proofs.files_host.FilesHost.see.Goals as goal

pub note-requires-clause-shown : goal.note-requires-clause-shown
note-requires-clause-shown g c = inr (
  refl,
  lacking c.args.self.now.told.log.notes c.args.path.now c.as_str.result.now c.begin_open.new.self.trace.calls c.args.self.now.root.remembered.vacant (λ v. v)
      c.begin_open.ensures c.as_str.ensures c.args.self.now.vacant (c.lacks.ensures c.if-lacks.true),
)

pub returns-in-Err-clause-silent : goal.returns-in-Err-clause-silent
returns-in-Err-clause-silent g c = silent_missed g.D.Disk.model c.fail.result c.args.self.now.told.log.notes c.fail.new.self.told.log.notes c.fail.ensures.undeclined c.fail.ensures.device c.fail.ensures.memory

pub returns-in-Err-clause-counts : goal.returns-in-Err-clause-counts
returns-in-Err-clause-counts g c = counts_missed g.D.Disk.model (Option Kind) c.fail.result c.args.self.now.told.log.notes c.fail.new.self.told.log.notes c.fail.ensures.undeclined c.fail.ensures.device c.fail.ensures.memory

pub returns-in-Err-clause-reads : goal.returns-in-Err-clause-reads
returns-in-Err-clause-reads g c = reads_missed g.D.Disk.model c.fail.result c.args.self.now.told.log.notes c.fail.new.self.told.log.notes c.fail.ensures.undeclined c.fail.ensures.device c.fail.ensures.memory
