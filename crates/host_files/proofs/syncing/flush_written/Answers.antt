use Rattle.std.proofs.Common.{OnOk, string_bytes, subst}
use Rattle.host_files.specs.Shown.{AreOnDisk}
use Rattle.host_files.proofs.OnDisk.{all_written}
use Rattle.host_files.proofs.syncing.flush_written.Goals as goal

pub returns-clause-step : goal.returns-clause-step
returns-clause-step c = all_written (string_bytes c.args.root.now.front) c.args.root.now.owners c.flush_files.new.system.trace.calls c.flush_files.result c.flush_files.ensures.same

pub returns-clause-synced : goal.returns-clause-synced
returns-clause-synced c = subst (λ files. OnOk c.flush_files.result (AreOnDisk (string_bytes c.args.root.now.front) files c.flush_files.new.system.trace.calls)) c.as_slice.ensures.value c.flush_files.ensures.synced
