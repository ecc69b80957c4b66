use Rattle.std.proofs.Common.{string_bytes}
use Rattle.host_files.proofs.OnDisk.{all_root}
use Rattle.host_files.proofs.syncing.flush_root.Goals as goal

pub returns-clause-step : goal.returns-clause-step
returns-clause-step c = all_root (string_bytes c.args.root.now.front) c.args.root.now.owners c.flush_any.new.system.trace.calls c.flush_any.result c.flush_any.ensures.fault c.flush_any.ensures.same
