use Rattle.std.proofs.Common.{rules, ◌≡◌, ◌∙◌, true, ap, string_bytes, subst}
use Rattle.std.proofs.lemmas.List.{take_all}
use Rattle.host_files.specs.SystemCalls.{changes_in}
use Rattle.host_files.specs.Shown.{AreOnDisk}
use Rattle.host_files.proofs.OnDisk.{last_device, synced_before, synced_with_all}
use Rattle.host_files.proofs.syncing.flush_devices.Goals as goal

pub loop-file-preserved-then-is_last : goal.loop-file-preserved-then-is_last
loop-file-preserved-then-is_last c = (
  c.loop-file.invariant.0,
  synced_before (string_bytes c.args.root.now.front) c.args.files.now c.loop-file.file-index c.file-item.result c.loop-file.system.trace.calls c.loop-file-test.true c.file-item.is
      (c.loop-file.invariant.2 c.file-item.result.identity.device (c.is_last.ensures c.if-is_last.true)) c.loop-file.invariant.1,
  c.loop-file.invariant.2,
)

pub loop-file-preserved : goal.loop-file-preserved
loop-file-preserved c =
    let done : c.in_ok-sync_device.field-0 ≡ true = search rules in
    let synced = c.in_ok-sync_device.ensures.done done in (
      ap changes_in synced.1 ∙ c.loop-file.invariant.0,
      synced_with_all (string_bytes c.args.root.now.front) c.args.files.now c.loop-file.file-index c.file-item.result synced.0 c.loop-file.system.trace.calls c.sync_device.new.self.trace.calls c.loop-file-test.true c.file-item.is synced.1 c.loop-file.invariant.1,
      λ device same. last_device c.file-item.result.identity.device device synced.0 c.loop-file.system.trace.calls c.sync_device.new.self.trace.calls synced.1 same,
    )

pub returns-clause-synced : goal.returns-clause-synced
returns-clause-synced c = λ all. subst (λ files. AreOnDisk (string_bytes c.args.root.now.front) files c.loop-file.system.trace.calls) (take_all c.loop-file.file-index c.args.files.now c.loop-file-test.false) c.loop-file.invariant.1
