-- What a removal and a purge note of a package (Policy 6.8).
use Rattle.std.specs.Prelude.{◌||◌, ◌&&◌, Bool, false, not, List, [], is_some, map, filter}
use Rattle.std.specs.List.{list_any}
use Rattle.host_core.specs.Paths.{Path}
use Rattle.status_records.specs.Standings.{standing_as, wanting, removed, with_conffiles}
use Rattle.status_records.specs.declared.entries.ConffileEntry.{ConffileEntry}
use Rattle.status_records.specs.declared.record.Record.{Record}
use Rattle.status_records.specs.declared.words.Want.TheVariants as want
use Rattle.status_records.specs.declared.words.Flag.TheVariants as flag
use Rattle.status_records.specs.declared.words.State.TheVariants as state
use Rattle.removal_engine.specs.declared.scripts.Stored.{Stored}

-- while its prerm runs
abbrev pub half_configured : Record → Record
half_configured r = standing_as r.flag state.HalfConfigured r

-- while its files go: it has to be installed again before anything else
abbrev pub losing_files : Record → Record
losing_files r = removed (standing_as flag.Reinstreq state.HalfInstalled r)

-- one that an upgrade was to remove is now one that no version ships
abbrev pub kept_entry : ConffileEntry → ConffileEntry
kept_entry e = record e { obsolete = e.obsolete || e.remove_on_upgrade; remove_on_upgrade = false }

-- the entries that a removal keeps: those of which a version was settled
abbrev pub kept_entries : List ConffileEntry → List ConffileEntry
kept_entries es = map kept_entry (filter (λ e. is_some e.digest) es)

-- one of its conffiles was settled
abbrev pub has_settled : Record → Bool
has_settled r = list_any (λ e. is_some e.digest) r.conffiles

-- of a package that has neither postrm nor a conffile nothing is left
abbrev pub goes_at_once : Record → Stored → Bool
goes_at_once r stored = not stored.postrm && not (has_settled r)

-- once its files are gone: nobody wants it installed, and no conffile waits to be settled
abbrev pub without_files : Record → Record
without_files r = wanting want.Deinstall (removed (standing_as flag.Ok state.HalfInstalled (with_conffiles (kept_entries r.conffiles) [] r)))

-- removed, but for conffiles and postrm
abbrev pub config_files : Record → Record
config_files r = standing_as flag.Ok state.ConfigFiles (without_files r)

-- while it is purged
abbrev pub purged : Record → Record
purged r = wanting want.Purge r

abbrev pub entry_paths : List ConffileEntry → List Path
entry_paths entries = map (λ e. e.path) entries
