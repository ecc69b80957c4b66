use Rattle.std.proofs.Common.{◌≡◌, ◌++◌, map, string_bytes}
use Rattle.host_files.specs.Shown.{sync_calls}
use Rattle.host_files.proofs.syncing.flush_directories.Given as goal

-- the directories so far were synced
abbrev pub invariant-loop-directory : goal.invariant-loop-directory
invariant-loop-directory l = (l.system.trace.calls ≡ sync_calls (string_bytes l.root.front) (map (λ d. d.now) l.yielded))
    × (l.changed.directories.keys ≡ map (λ d. d.now) l.yielded ++ l.directory-iterator)
