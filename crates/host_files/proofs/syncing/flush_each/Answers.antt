use Rattle.std.proofs.Common.{◌∙◌, string_bytes, subst}
use Rattle.std.proofs.lemmas.List.{take_all}
use Rattle.host_files.specs.Shown.{AreOnDisk}
use Rattle.host_files.proofs.OnDisk.{synced_alone}
use Rattle.host_files.proofs.syncing.flush_each.Goals as goal

pub loop-file-preserved : goal.loop-file-preserved
loop-file-preserved c = (
  c.sync_written.ensures.same ∙ c.loop-file.invariant.0,
  synced_alone (string_bytes c.args.root.now.front) c.args.files.now c.loop-file.file-index c.file-item.result c.loop-file.system.trace.calls c.sync_written.new.self.trace.calls c.loop-file-test.true c.file-item.is c.in_ok-sync_written.ensures.made c.loop-file.invariant.1,
)

pub returns-clause-synced : goal.returns-clause-synced
returns-clause-synced c = subst (λ files. AreOnDisk (string_bytes c.args.root.now.front) files c.loop-file.system.trace.calls) (take_all c.loop-file.file-index c.args.files.now c.loop-file-test.false) c.loop-file.invariant.1
