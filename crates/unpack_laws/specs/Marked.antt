-- Where an unpack has changed what stands outside the administration, its package is marked as half-installed, to be installed
-- again, until its last note (Policy 6.6).
use Rattle.std.specs.Prelude.{◌≡◌, ◌⊎◌, true, false, List, ◌++◌, Some, Contains}
use Rattle.host_core.specs.Paths.{Path, is_named_by}
use Rattle.host_core.specs.Suffixes.{suffix_text}
use Rattle.host_core.specs.declared.suffix.Suffix.TheVariants.{New}
use Rattle.host_core.specs.World.{World, Change, changed}
use Rattle.host_core.specs.declared.node.Access.{Access}
use Rattle.host_core.specs.declared.node.Node.{Node}
use Rattle.host_core.specs.declared.node.Node.TheVariants.{Dir}
use Rattle.administration.specs.Places.{home_path, is_within, list_path}
use Rattle.diversions.specs.Ways.{place}
use Rattle.file_lists.specs.Writing.{list_file}
use Rattle.file_removal.specs.Clearing.{is_among}
use Rattle.file_removal.specs.Removal.{IsGoing}
use Rattle.package_files.specs.declared.work.Work.{Work}
use Rattle.status_db.specs.Held.{HasRecords}
use Rattle.status_records.specs.Records.{record_in}
use Rattle.status_records.specs.declared.record.Record.{Record}
use Rattle.unpack_engine.specs.Units.{Given}
use Rattle.unpack_plan.specs.Lists.{IsAfter}
use Rattle.unpack_plan.specs.Names.{known_conffiles, left_names, was_cut}
use Rattle.unpack_plan.specs.Records.{IsFresh, IsIncoming}
use Rattle.unpack_rows.specs.Kinds.{own_of}
use Rattle.unpack_rows.specs.Notes.{half_installed}
use Rattle.unpack_laws.specs.Done.{IsClear}
use Rattle.unpack_laws.specs.InHand.{unit_found, unit_listed, unit_name, unit_works, unit_yielding}
use Rattle.unpack_laws.specs.Whole.{IsWorkBack}

module _ (g : Given) where
  -- a list of the package has a path whose place this is, or one of the names beside that place that only the installer writes
  abbrev pub IsNamedIn : List Path → Path → Type 0
  IsNamedIn paths q = (path : Path) × Contains paths path × (is_named_by q (place g.ways (unit_name g) path) ≡ true)

  module _ (old now : World) (change : Change) where
    -- an old path goes: nothing is there any more, or the file that scripts made of it, which lends no rights
    abbrev pub IsWent : Path → Type 0
    IsWent q = IsGoing (changed change old q) (now q)

    -- What stands at a path while the package is marked: what scripts made of it; what its list names; or it goes, where an old
    -- path went or the waiting file of a conffile that isn't shipped any more, or that a unit shipped which was cut.
    pub data IsAccounted (paths : List Path) (q : Path) : Type 0 where
      scripted : now q ≡ changed change old q → IsAccounted paths q
      named : IsNamedIn paths q → IsAccounted paths q
      went : (path : Path) → Contains (unit_listed g) path → place g.ways (unit_name g) path ≡ q → IsWent q → IsAccounted paths q
      cleared : is_among (left_names g.ways (unit_name g) g.«package».conffiles (known_conffiles (unit_found g))) q ≡ true → IsWent q → IsAccounted paths q
      cut : was_cut (unit_found g) ≡ true → (path : Path) → Contains (unit_listed g) path → place g.ways (unit_name g) path ++ suffix_text New ≡ q → IsWent q → IsAccounted paths q

    -- the package's list has these paths, and what is changed is accounted for by them
    pub record IsListedSo (paths : List Path) : Type 0 where
      pub list : now (list_path (unit_name g)) ≡ Some (list_file paths)
      pub accounted : (q : Path) → is_within home_path q ≡ false → IsAccounted paths q

    -- the next opening finds the package half-installed and to be installed again, and its list names what is changed
    pub record IsMarkedSo : Type 0 where
      pub table : List Record
      pub records : HasRecords now table
      pub incoming : Record
      pub is_incoming : IsIncoming g.«package» incoming
      pub own : record_in table (unit_name g) ≡ Some (half_installed (own_of (unit_found g) incoming))
      pub paths : List Path
      pub listed : IsListedSo paths

    -- it finds the package unpacked, and so does its new list
    pub record IsNotedSo : Type 0 where
      pub table : List Record
      pub records : HasRecords now table
      pub fresh : Record
      pub is_fresh : IsFresh (unit_yielding g) g.«package» (unit_found g) fresh
      pub own : record_in table (unit_name g) ≡ Some fresh
      pub paths : List Path
      pub are : IsAfter g.«package».files fresh paths
      pub listed : IsListedSo paths

    -- At a name beside a place, where the files were put back: what scripts made since of nothing, or of a directory; at a backup also of
    -- the file whose place a made directory took, where that had to stay.
    pub data IsNameBack (target backup : Path) (node : Node) (q : Path) : Type 0 where
      clear : (early late : Change) → change ≡ early ++ late → (mid : World) → IsClear (mid q) → now q ≡ changed late mid q → IsNameBack target backup node q
      kept : (access : Access) → node ≡ Dir access → q ≡ backup → (early late : Change) → change ≡ early ++ late → (mid : World) → mid q ≡ changed early old target → now q ≡ changed late mid q → IsNameBack target backup node q

    -- Where the files were put back: what scripts made of it, as at a name beside a place that wasn't reached since a step was declined; or
    -- at a target a made directory that had to stay, or at a name beside a place that.
    pub data IsRestored (q : Path) : Type 0 where
      scripted : now q ≡ changed change old q → IsRestored q
      target : (x : Work) → Contains (unit_works g) x → q ≡ x.target → IsWorkBack old now change x → IsRestored q
      beside : (x : Work) → Contains (unit_works g) x → (q ≡ x.backup) ⊎ (q ≡ x.fresh) → IsNameBack x.target x.backup x.node q → IsRestored q

    -- At each moment: scripts alone changed what stands outside the administration; or the package is marked; or the files were
    -- put back; or the last note is written, behind all else.
    pub data IsMarkedAmid : Type 0 where
      untouched : ((q : Path) → is_within home_path q ≡ false → now q ≡ changed change old q) → IsMarkedAmid
      marked : IsMarkedSo → IsMarkedAmid
      restored : ((q : Path) → is_within home_path q ≡ false → IsRestored q) → IsMarkedAmid
      noted : IsNotedSo → IsMarkedAmid
