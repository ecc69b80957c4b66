use Rattle.std.proofs.Common.{ap, ◌∙◌, map, string_bytes}
use Rattle.host_files.specs.SystemCalls.{changes_in}
use Rattle.host_files.proofs.DirectoryLaws.{nothing_changed}
use Rattle.host_files.proofs.syncing.flush_directories.Goals as goal

pub returns-in_err-sync_directory-clause-same : goal.returns-in_err-sync_directory-clause-same
returns-in_err-sync_directory-clause-same c =
    c.in_err-sync_directory.ensures.same ∙ ap changes_in c.loop-directory.invariant.0 ∙ nothing_changed (string_bytes c.args.root.now.front) (map (λ d. d.now) c.loop-directory.yielded)

pub returns-clause-same : goal.returns-clause-same
returns-clause-same c = ap changes_in c.loop-directory.invariant.0 ∙ nothing_changed (string_bytes c.args.root.now.front) (map (λ d. d.now) c.loop-directory.yielded)
