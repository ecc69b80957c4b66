use Rattle.std.proofs.Common.{string_bytes}
use Rattle.host_files.proofs.OnDisk.{all_names}
use Rattle.host_files.proofs.syncing.flush_all.Goals as goal

pub returns-clause-step : goal.returns-clause-step
returns-clause-step c = all_names (string_bytes c.args.root.now.front) c.args.root.now.owners c.flush_directories.new.system.trace.calls c.flush_directories.result c.flush_directories.ensures.fault c.flush_directories.ensures.same
