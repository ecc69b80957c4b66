-- The conffiles of a record that are to be settled when its package is configured (Policy 10.7.3).
use Rattle.std.specs.Prelude.{◌&&◌, ℕ, Bool, not, cond, List, [], ◌∷◌, ◌++◌, Option, Some, None, map, filter}
use Rattle.std.specs.List.{fold, list_any}
use Rattle.std.specs.Str.{bytes_eq}
use Rattle.aliases.specs.Aliases.{resolved}
use Rattle.diversions.specs.Ways.{Ways}
use Rattle.host_core.specs.Paths.{Path}
use Rattle.status_records.specs.ConffilePaths.{in_path_order}
use Rattle.status_records.specs.Conffiles.{has_pending}
use Rattle.status_records.specs.declared.entries.ConffileEntry.{ConffileEntry}
use Rattle.status_records.specs.declared.entries.PendingDigest.{PendingDigest}
use Rattle.status_records.specs.declared.record.Record.{Record}

-- the shipped digest of this path that isn't settled yet, if there is one
abbrev pub pending_digest : List PendingDigest → Path → Option (List ℕ)
pending_digest [] path = None
pending_digest (p ∷ ps) path = cond (bytes_eq path p.path) (Some p.digest) (pending_digest ps path)

-- the entry's path is to go: it is flagged, and the package doesn't ship it as a conffile
abbrev pub goes : List PendingDigest → ConffileEntry → Bool
goes pending e = e.remove_on_upgrade && not (has_pending pending e.path)

-- the paths that are to go
abbrev pub going_paths : Record → List Path
going_paths r = map (λ e. e.path) (filter (goes r.pending) r.conffiles)

-- the paths of the digests that aren't settled yet
abbrev pub pending_paths : Record → List Path
pending_paths r = map (λ p. p.path) r.pending

-- the place of a conffile: none is diverted, so it is where its path leads
abbrev pub place_of : Ways → Path → Path
place_of ways path = resolved ways.aliases path

-- whether one of these paths has the same place as this one
abbrev pub has_place : Ways → List Path → Path → Bool
has_place ways paths path = list_any (λ q. bytes_eq (place_of ways path) (place_of ways q)) paths

-- one more path, unless one of these has its place
abbrev pub with_place : Ways → List Path → Path → List Path
with_place ways paths path = cond (has_place ways paths path) paths (paths ++ path ∷ [])

-- of the paths that have one place the first
abbrev pub places_once : Ways → List Path → List Path
places_once ways paths = fold (with_place ways) [] paths

-- Both in path order, each place once: a file that is shipped now doesn't go because it went by another name.
abbrev pub settling_paths : Ways → Record → List Path
settling_paths ways r = in_path_order (λ q. q) (places_once ways (pending_paths r ++ going_paths r))

-- where their files stand
abbrev pub settling_places : Ways → Record → List Path
settling_places ways r = map (place_of ways) (settling_paths ways r)

-- the path is one of those that are to go
abbrev pub is_going : Record → Path → Bool
is_going r path = list_any (bytes_eq path) (going_paths r)
