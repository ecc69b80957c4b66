-- Conffiles that a package takes from others that have left them behind: where it ships as a conffile what is an obsolete conffile of another
-- package, the two don't clash, also where nothing says that it replaces that one (dpkg lets it have the path).
use Rattle.std.specs.Prelude.{◌&&◌, ◌||◌, ◌∷◌, ◌++◌, [], not, ℕ, Bool, List, Some, filter, map, nat_eq}
use Rattle.std.specs.List.{list_all, list_any, starts_with}
use Rattle.std.specs.Str.{bytes_eq}
use Rattle.diversions.specs.Ways.{Ways, place}
use Rattle.file_lists.specs.Owners.{owners_of, paths_of}
use Rattle.file_lists.specs.declared.paths.Listed.{Listed}
use Rattle.file_lists.specs.declared.paths.PackageList.{PackageList}
use Rattle.host_core.specs.Paths.{Path}
use Rattle.host_core.specs.World.{is_directory}
use Rattle.package_tree.specs.declared.package.Package.{Package}
use Rattle.package_tree.specs.declared.shipped.Shipped.{Shipped}
use Rattle.status_records.specs.declared.entries.ConffileEntry.{ConffileEntry}
use Rattle.status_records.specs.declared.record.Record.{Record}

-- a path goes on below another
abbrev pub is_below : Path → Path → Bool
is_below path top = starts_with nat_eq path (top ++ 47 ∷ [])

-- the package of a listed path lists others below it: it is a directory
abbrev pub has_below : List PackageList → Listed → Bool
has_below lists x = list_any (λ path. is_below path x.path) (paths_of lists x.name)

module _ (ways : Ways) (p : Package) where
  -- the package ships a conffile at this place
  abbrev pub ships_conffile_at : Path → Bool
  ships_conffile_at at = list_any (λ path. bytes_eq (place ways p.name path) at) p.conffiles

  -- the entry of an obsolete conffile of the package of this name, at whose place this one ships a conffile
  abbrev pub is_left : List ℕ → ConffileEntry → Bool
  is_left name e = e.obsolete && ships_conffile_at (place ways name e.path)

  -- a record has one
  abbrev pub leaves_any : Record → Bool
  leaves_any r = list_any (is_left r.name) r.conffiles

  -- it has one at this place
  abbrev pub is_left_at : List ℕ → Path → ConffileEntry → Bool
  is_left_at name at e = is_left name e && bytes_eq (place ways name e.path) at

  abbrev pub leaves_at : Record → Path → Bool
  leaves_at r at = list_any (is_left_at r.name at) r.conffiles

  module _ (lists : List PackageList) where
    -- A listed path that has the place of a shipped one stands in no way of yielding: it isn't the recorded package's, or such a conffile has
    -- the place, or it is a directory of both.
    abbrev pub may_meet : Record → Shipped → Listed → Bool
    may_meet r file x =
        not (bytes_eq x.name r.name)
        || (leaves_at r (place ways p.name file.path) || (is_directory (Some file.node) && has_below lists x))

    -- so it is of all listed paths at the place of a shipped one
    abbrev pub yields_at : Record → Shipped → Bool
    yields_at r file = list_all (may_meet r file) (owners_of ways lists (place ways p.name file.path))

    -- Another recorded package than these leaves the package a conffile, and has nothing else at the places of what that ships.
    abbrev pub yields_obsolete : List (List ℕ) → Record → Bool
    yields_obsolete names r =
        not (bytes_eq r.name p.name) && (not (list_any (bytes_eq r.name) names) && (leaves_any r && list_all (yields_at r) p.files))

    -- the names of those packages, in the order of records
    abbrev pub obsolete_yields : List Record → List (List ℕ) → List (List ℕ)
    obsolete_yields records names = map (λ r. r.name) (filter (yields_obsolete names) records)
