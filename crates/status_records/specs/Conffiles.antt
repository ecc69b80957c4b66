-- The conffiles of a record, and what becomes of them (Policy 10.7).
use Rattle.std.specs.Prelude.{◌||◌, ℕ, Bool, true, false, not, cond, List, [], ◌∷◌, Option, Some, None, is_some, map, filter}
use Rattle.std.specs.List.{list_any, find, flat_map}
use Rattle.std.specs.Str.{bytes_eq}
use Rattle.host_core.specs.Paths.{Path}
use Rattle.status_records.specs.ConffilePaths.{all_placed_by}
use Rattle.status_records.specs.declared.entries.ConffileEntry.{ConffileEntry}
use Rattle.status_records.specs.declared.entries.PendingDigest.{PendingDigest}
use Rattle.status_records.specs.declared.record.Record.{Record}

-- one of the entries has this path
abbrev pub has_entry : List ConffileEntry → Path → Bool
has_entry entries path = list_any (λ e. bytes_eq path e.path) entries

-- an entry of its conffiles has this path
abbrev pub has_conffile : Record → Path → Bool
has_conffile r path = has_entry r.conffiles path

-- one of the digests is that of this path
abbrev pub has_pending : List PendingDigest → Path → Bool
has_pending pending path = list_any (λ p. bytes_eq path p.path) pending

-- the digest of the last version settled of this path; none where there is none, or no entry
abbrev pub recorded_digest : List ConffileEntry → Path → Option (List ℕ)
recorded_digest [] path = None
recorded_digest (e ∷ es) path = cond (bytes_eq path e.path) e.digest (recorded_digest es path)

-- the entry of a conffile that the package ships: the digest it had, or none
abbrev pub renewed_entry : Option ConffileEntry → PendingDigest → ConffileEntry
renewed_entry None p = record { path = p.path; digest = None; obsolete = false; remove_on_upgrade = false; conffile = p.conffile; digested = ∣ tt ∣₁ }
renewed_entry (Some e) p = record e { obsolete = false; remove_on_upgrade = false }

abbrev pub shipped_entry : List ConffileEntry → PendingDigest → ConffileEntry
shipped_entry entries p = renewed_entry (find (λ e. bytes_eq p.path e.path) entries) p

-- a path that the package asks to be removed, or one that it doesn't name
abbrev pub marked_entry : Bool → ConffileEntry → ConffileEntry
marked_entry true e = record e { obsolete = false; remove_on_upgrade = true }
marked_entry false e = record e { obsolete = true; remove_on_upgrade = false }

-- An entry of a path that the package doesn't ship as a conffile stays, unless it ships the path as something else, or no version of it
-- was settled.
abbrev pub left_entry : List Path → (Path → Bool) → ConffileEntry → List ConffileEntry
left_entry flagged ships e = cond (ships e.path || not (is_some e.digest)) [] (marked_entry (list_any (bytes_eq e.path) flagged) e ∷ [])

abbrev pub left_entries : List ConffileEntry → List PendingDigest → List Path → (Path → Bool) → List ConffileEntry
left_entries entries shipped flagged ships = flat_map (left_entry flagged ships) (filter (λ e. not (has_pending shipped e.path)) entries)

-- The entries after a commit (Policy 10.7.3): those that stay, and that of each shipped conffile in its place. The shipped digests are
-- then those that aren't settled yet.
abbrev pub committed_entries : List ConffileEntry → List PendingDigest → List Path → (Path → Bool) → List ConffileEntry
committed_entries entries shipped flagged ships =
    all_placed_by (λ e. e.path) (left_entries entries shipped flagged ships) (map (shipped_entry entries) shipped)
