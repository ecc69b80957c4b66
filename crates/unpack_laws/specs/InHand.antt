-- What a unit of an unpack has in hand, by what is given to it (Policy 6.6, 7.6).
use Rattle.std.specs.Prelude.{◌≡◌, ◌⊎◌, not, ℕ, false, List, ◌++◌, Option, Some, Contains, filter}
use Rattle.host_core.specs.Paths.{Path}
use Rattle.host_core.specs.World.{is_directory}
use Rattle.administration.specs.Places.{home_path, is_within}
use Rattle.diversions.specs.Ways.{place}
use Rattle.file_check.specs.Ships.{shipped_works}
use Rattle.file_lists.specs.Owners.{paths_of}
use Rattle.file_removal.specs.Clearing.{is_among}
use Rattle.package_files.specs.Files.{Each, Misses}
use Rattle.package_files.specs.declared.work.Work.{Work}
use Rattle.status_records.specs.Records.{record_in}
use Rattle.status_records.specs.declared.record.Record.{Record}
use Rattle.unpack_commit.specs.Takeover.{losers, yields_of}
use Rattle.unpack_engine.specs.Units.{Given}
use Rattle.listed_files.specs.Areas.{is_leaving_place}
use Rattle.unpack_plan.specs.Lists.{IsAfter, old_leaving}
use Rattle.unpack_plan.specs.Names.{cut_names, known_conffiles, left_names}
use Rattle.unpack_plan.specs.Planned.{pairs_of}
use Rattle.unpack_plan.specs.Records.{IsFresh}
use Rattle.unpack_plan.specs.Yielded.{Yielding, yielding}
use Rattle.unpack_steps.specs.FileMoves.{places_of}

-- the places of the files and links among these works
abbrev pub file_places : List Work → List Path
file_places works = places_of (filter (λ x. not (is_directory (Some x.node))) works)

module _ (g : Given) where
  -- the name of the package that is unpacked
  abbrev pub unit_name : List ℕ
  unit_name = g.«package».name

  -- its record of before, and the paths that it listed
  abbrev pub unit_found : Option Record
  unit_found = record_in g.records unit_name

  abbrev pub unit_listed : List Path
  unit_listed = paths_of g.lists unit_name

  -- what it ships, each path at its place, a conffile beside it (Policy 6.6, 10.7.3)
  abbrev pub unit_works : List Work
  unit_works = shipped_works g.ways unit_name g.«package».conffiles (pairs_of g.«package».files)

  -- the places of the files and links among that
  abbrev pub unit_file_places : List Path
  unit_file_places = file_places unit_works

  -- the packages with which no path clashes: those of which only conffiles are left, and those that are given
  abbrev pub unit_yields : List (List ℕ)
  unit_yields = yields_of g.records ++ g.yields

  -- what may yield conffiles to it (Policy 10.7.4)
  abbrev pub unit_yielding : Yielding
  unit_yielding = yielding g.begun unit_name g.yields g.records

  -- a package that keeps its places: it doesn't yield, or none of its paths has its place where a file or a link is shipped
  -- (Policy 7.6.1)
  abbrev pub KeepsPlaces : List ℕ → Type 0
  KeepsPlaces q = (Contains unit_yields q → ⊥) ⊎ ((path : Path) → Contains (paths_of g.lists q) path → Contains unit_file_places (place g.ways q path) → ⊥)

  -- a package that loses its paths at these places: they are of shipped files and links, it yields, and it lists a path at one of
  -- them (Policy 7.6)
  pub record LosesPlaces (q : List ℕ) (taken : List Path) : Type 0 where
    pub shipped : (at : Path) → Contains taken at → Contains unit_file_places at
    pub loses : Contains (losers g.ways taken g.lists unit_yields) q

  -- it is no place of an old path that goes, whichever the new list is (Policy 6.6, step 6)
  abbrev pub IsNoLeaving : Path → Type 0
  IsNoLeaving q = (fresh : Record) (paths : List Path) → IsFresh unit_yielding g.«package» unit_found fresh → IsAfter g.«package».files fresh paths
      → is_leaving_place (old_leaving g.ways g.lists unit_name unit_found paths unit_listed) q ≡ false

  -- nor, behind a unit that was cut, the name beside such a place at which a conffile waited that the cut unit shipped
  abbrev pub IsNoCut : Path → Type 0
  IsNoCut q = (fresh : Record) (paths : List Path) → IsFresh unit_yielding g.«package» unit_found fresh → IsAfter g.«package».files fresh paths
      → is_among (cut_names unit_found (old_leaving g.ways g.lists unit_name unit_found paths unit_listed)) q ≡ false

  -- a path outside the administration's directory at which the unit does nothing: nothing is shipped there, and neither does an
  -- old path go nor the waiting file of an old conffile, or of one of a unit that was cut (Policy 6.6, steps 6 and 11)
  pub record IsPassedBy (q : Path) : Type 0 where
    pub outside : is_within home_path q ≡ false
    pub unshipped : Each (λ x. Misses x q) unit_works
    pub stays : IsNoLeaving q
    pub uncleared : is_among (left_names g.ways unit_name g.«package».conffiles (known_conffiles unit_found)) q ≡ false
    pub uncut : IsNoCut q
