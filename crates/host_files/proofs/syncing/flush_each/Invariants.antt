use Rattle.std.proofs.Common.{◌≡◌, [], take, string_bytes}
use Rattle.host_files.specs.Shown.{AreOnDisk}
use Rattle.host_files.specs.SystemCalls.{changes_in}
use Rattle.host_files.proofs.syncing.flush_each.Given as goal

-- the files so far are on the disk
abbrev pub invariant-loop-file : goal.invariant-loop-file
invariant-loop-file l = (changes_in l.system.trace.calls ≡ []) × AreOnDisk (string_bytes l.root.front) (take l.file-index l.files) l.system.trace.calls
