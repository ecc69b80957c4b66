-- How far a removal or a purge is at a moment: what the next opening finds of the package's record, and what stands outside the
-- administration's directory (Policy 6.8).
use Rattle.std.specs.Prelude.{◌≡◌, ◌⊎◌, false, List, ◌++◌, Option, Some, None}
use Rattle.host_core.specs.Paths.{Path}
use Rattle.host_core.specs.World.{World, Change, changed, lowered}
use Rattle.administration.specs.Places.{home_path, is_within}
use Rattle.file_lists.specs.Owners.{paths_of}
use Rattle.file_removal.specs.Clearing.{Cleared}
use Rattle.file_removal.specs.Removal.{Removed}
use Rattle.status_records.specs.declared.record.Record.{Record}
use Rattle.status_records.specs.declared.words.State.TheVariants.{ConfigFiles}
use Rattle.removal_engine.specs.Lists.{IsToCome, leaving_files}
use Rattle.removal_engine.specs.Names.{cleared_names, waiting_names}
use Rattle.removal_engine.specs.Records.{config_files, half_configured, losing_files, purged, without_files}
use Rattle.removal_engine.specs.Units.{Given}
use Rattle.removal_engine.specs.declared.extent.Extent.TheVariants.{Purge}
use Rattle.removal_engine.specs.declared.scripts.Stored.{Stored}
use Rattle.stop_laws.specs.Left.{IsLeft, IsRecorded, IsScripted}
use Rattle.stop_laws.specs.Removing.{GoesWithFiles, GoesWithPurge, IsListed}

-- the record as it was found, or as the prerm left it
abbrev pub IsFirstRecord : Record → Option Record → Type 0
IsFirstRecord r o = (o ≡ Some r) ⊎ (o ≡ Some (half_configured r))

-- half-installed, and to be installed again
abbrev pub IsLosingRecord : Record → Option Record → Type 0
IsLosingRecord r o = o ≡ Some (losing_files r)

-- without its files; or removed; or gone, of a package of which nothing is left then
abbrev pub IsLostRecord : Record → Option Record → Type 0
IsLostRecord r o = (o ≡ Some (without_files r)) ⊎ ((o ≡ Some (config_files r)) ⊎ (o ≡ None))

-- of a removed package that is being purged; in the end gone
abbrev pub IsPurgedRecord : Record → Option Record → Type 0
IsPurgedRecord c o = (o ≡ Some (purged c)) ⊎ (o ≡ None)

-- of a unit in which steps at these paths were declined so far
module _ (g : Given) (r : Record) (stored : Stored) (declined : Path → Type 0) where
  -- The package's files have gone from a world: what waits to be settled, the listed paths, and then the names beside them. A directory
  -- stayed only where its removal was declined, or something was left below it.
  pub record HaveGone (before gone : World) : Type 0 where
    pub to_come : List Path
    pub comes : IsToCome r stored to_come
    pub first : World
    pub waiting : Cleared (waiting_names g.ways r.name r.pending) before first
    pub mid : World
    pub removed : Removed declined (leaving_files g.ways g.before.lists r to_come) first mid
    pub cleared : Cleared (cleared_names g.ways g.before.lists r) mid gone

  module _ (old : World) where
    -- outside the administration's directory its files went at some time, and script calls alone changed what stands there before and
    -- since
    pub record HasLost (change : Change) (now : World) : Type 0 where
      pub early : Change
      pub late : Change
      pub changes : change ≡ early ++ late
      pub before : World
      pub gone : World
      pub was : IsScripted early old before
      pub files : HaveGone before gone
      pub since : IsScripted late gone now

    -- a purge began with this record and list: of a package that was found removed, or behind its removal
    pub data HasBegunPurge (c : Record) (listed : List Path) (change : Change) (begun : World) : Type 0 where
      found : r.state ≡ ConfigFiles → c ≡ r → listed ≡ paths_of g.before.lists r.name → IsScripted change old begun → HasBegunPurge c listed change begun
      left : c ≡ config_files r → IsToCome r stored listed → HasLost change begun → HasBegunPurge c listed change begun

    -- what stands there while files go: what scripts made of what stood there, or nothing where something goes with the files; or, of a
    -- listed path, the same file lending no rights any more
    abbrev pub IsLosing : Change → World → Type 0
    IsLosing change now = (q : Path) → is_within home_path q ≡ false → (now q ≡ changed change old q)
        ⊎ ((GoesWithFiles g r stored q × (now q ≡ None)) ⊎ (IsListed g r stored q × (now q ≡ lowered (changed change old q))))

    -- Nothing has gone; or files are going, and the package is marked; or they are gone; or a purge takes conffiles and directories away,
    -- until the record goes.
    pub data IsAtStep (change : Change) (now : World) : Type 0 where
      begun : IsRecorded g.name (IsFirstRecord r) now → IsScripted change old now → IsAtStep change now
      losing : IsRecorded g.name (IsLosingRecord r) now → IsLosing change now → IsAtStep change now
      lost : IsRecorded g.name (IsLostRecord r) now → HasLost change now → IsAtStep change now
      purging : g.extent ≡ Purge → (c : Record) (listed : List Path) → IsRecorded g.name (IsPurgedRecord c) now → (early late : Change) → change ≡ early ++ late → (start : World) → HasBegunPurge c listed early start
          → ((q : Path) → is_within home_path q ≡ false → IsLeft q (GoesWithPurge g r stored c listed q) late start now) → IsAtStep change now
