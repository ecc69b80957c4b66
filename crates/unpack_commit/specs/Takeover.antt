-- What a package takes over from packages of which only conffiles are left (Policy 6.6, 7.6): the places of the files and links that
-- it wrote leave their lists, and the conffiles at these places leave their records.
use Rattle.std.specs.Prelude.{◌||◌, ◌&&◌, not, ℕ, Bool, true, false, List, [], ◌∷◌, Option, Some, None, filter, map}
use Rattle.std.specs.List.{list_any}
use Rattle.std.specs.Str.{bytes_eq}
use Rattle.host_core.specs.Paths.{Path}
use Rattle.host_core.specs.declared.node.Kind.{Kind}
use Rattle.host_core.specs.declared.node.Kind.TheVariants as kind
use Rattle.host_core.specs.declared.node.Node.{Node}
use Rattle.host_core.specs.declared.node.Node.TheVariants.{File, Dir, Link}
use Rattle.diversions.specs.Ways.{place, Ways}
use Rattle.file_lists.specs.Owners.{paths_of}
use Rattle.file_lists.specs.declared.paths.PackageList.{PackageList}
use Rattle.package_files.specs.declared.work.Work.{Work}
use Rattle.status_records.specs.Records.{put_record}
use Rattle.status_records.specs.Standings.{with_conffiles}
use Rattle.status_records.specs.declared.record.Record.{Record}
use Rattle.status_records.specs.declared.words.State.{State}
use Rattle.status_records.specs.declared.words.State.TheVariants as state

-- only conffiles of the package are left
abbrev pub is_config_files : State → Bool
is_config_files state.NotInstalled = false
is_config_files state.ConfigFiles = true
is_config_files state.HalfInstalled = false
is_config_files state.Unpacked = false
is_config_files state.HalfConfigured = false
is_config_files state.Installed = false

-- the packages with which no path clashes, in name order
abbrev pub yields_of : List Record → List (List ℕ)
yields_of records = map (λ r. r.name) (filter (λ r. is_config_files r.state) records)

-- a file or link that was written, by what stood at its target
abbrev pub is_taken : Node → Option Kind → Bool
is_taken (File b m) had = true
is_taken (Dir m) had = false
is_taken (Link t) None = true
is_taken (Link t) (Some kind.File) = true
is_taken (Link t) (Some kind.Directory) = false
is_taken (Link t) (Some kind.SymbolicLink) = true

-- the places of the files and links that were written
abbrev pub taken_places : List Work → List Path
taken_places works = map (λ x. x.place) (filter (λ x. is_taken x.node x.had) works)

module _ (ways : Ways) (places : List Path) where
  -- a package's path has one of these places
  abbrev pub is_at : List ℕ → Path → Bool
  is_at name path = list_any (bytes_eq (place ways name path)) places

  -- the packages of these that list one of these places
  abbrev pub losers : List PackageList → List (List ℕ) → List (List ℕ)
  losers lists yields = filter (λ name. list_any (is_at name) (paths_of lists name)) yields

  -- a record has a conffile at one of these places
  abbrev pub loses_conffile : Record → Bool
  loses_conffile r = list_any (λ e. is_at r.name e.path) r.conffiles || list_any (λ p. is_at r.name p.path) r.pending

  -- the record without the conffiles at these places
  abbrev pub without_conffiles : Record → Record
  without_conffiles r = with_conffiles (filter (λ e. not (is_at r.name e.path)) r.conffiles) (filter (λ p. not (is_at r.name p.path)) r.pending) r

  -- the records of these packages that lose conffiles, as they are then
  abbrev pub losing_records : List (List ℕ) → List Record → List Record
  losing_records names records =
      map without_conffiles (filter (λ r. list_any (bytes_eq r.name) names && loses_conffile r) records)

-- the table after some records were noted
abbrev pub put_records : List Record → List Record → List Record
put_records [] table = table
put_records (r ∷ rs) table = put_records rs (put_record r table)
