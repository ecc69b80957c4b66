-- The record of a package once its conffiles are settled (Policy 10.7.3).
use Rattle.std.specs.Prelude.{◌||◌, Bool, false, not, List, [], Some, map, filter}
use Rattle.status_records.specs.ConffilePaths.{all_placed_by}
use Rattle.status_records.specs.Conffiles.{has_pending}
use Rattle.status_records.specs.Standings.{with_conffiles}
use Rattle.status_records.specs.declared.entries.ConffileEntry.{ConffileEntry}
use Rattle.status_records.specs.declared.entries.PendingDigest.{PendingDigest}
use Rattle.status_records.specs.declared.record.Record.{Record}

-- the entry of a shipped conffile that is settled: its digest is the recorded one
abbrev pub settled_entry : PendingDigest → ConffileEntry
settled_entry p = record { path = p.path; digest = Some p.digest; obsolete = false; remove_on_upgrade = false; conffile = p.conffile; digested = p.digested }

-- the entry stays as it is: its path isn't shipped as a conffile, and isn't flagged
abbrev pub stays : List PendingDigest → ConffileEntry → Bool
stays pending e = not (has_pending pending e.path || e.remove_on_upgrade)

-- the entries that stay, and that of each shipped conffile in its place
abbrev pub settled_entries : Record → List ConffileEntry
settled_entries r = all_placed_by (λ e. e.path) (filter (stays r.pending) r.conffiles) (map settled_entry r.pending)

-- all shipped digests are the recorded ones
abbrev pub settled : Record → Record
settled r = with_conffiles (settled_entries r) [] r
