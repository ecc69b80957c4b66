use Rattle.std.proofs.Common.{◌∷◌, ◌∙◌, ap, codes, string_bytes}
use Rattle.std.proofs.lemmas.Result.{on_ok_weaker}
use Rattle.host_files.specs.Places.{place_of}
use Rattle.host_files.specs.declared.trace.SystemCall.TheVariants.{SyncDirectory}
use Rattle.host_files.proofs.syncing.flush_administration.Goals as goal

pub returns-clause-synced : goal.returns-clause-synced
returns-clause-synced c = on_ok_weaker c.sync_directory-3.result
    (λ is. is ∙ ap (λ l. SyncDirectory (place_of (string_bytes c.args.root.now.front) (codes "/var/lib/dpkg/updates")) ∷ l)
    (c.in_ok-sync_directory-2.ensures.made ∙ ap (λ l. SyncDirectory (place_of (string_bytes c.args.root.now.front) (codes "/var/lib/dpkg/info")) ∷ l) c.in_ok-sync_directory.ensures.made))
    c.sync_directory-3.ensures.made
