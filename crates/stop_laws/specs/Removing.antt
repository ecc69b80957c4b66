-- What a removal or a purge may take away, what it notes, and what stands of its list and control files at each moment of it
-- (Policy 6.8).
use Rattle.std.specs.Prelude.{◌≡◌, ◌≢◌, ◌⊎◌, ℕ, true, List, [], Option, Some, None}
use Rattle.host_core.specs.Paths.{Path}
use Rattle.host_core.specs.World.{World}
use Rattle.host_core.specs.declared.node.Node.{Node}
use Rattle.file_lists.specs.Owners.{paths_of}
use Rattle.file_lists.specs.Writing.{list_file}
use Rattle.file_removal.specs.Clearing.{is_among}
use Rattle.status_db.specs.Held.{CanOpenRecords, HasRecords}
use Rattle.status_records.specs.Records.{record_in}
use Rattle.status_records.specs.declared.record.Record.{Record}
use Rattle.status_records.specs.declared.words.State.TheVariants.{ConfigFiles}
use Rattle.listed_files.specs.Areas.{is_leaving_place}
use Rattle.removal_engine.specs.Lists.{IsToCome, leaving_directories, leaving_files}
use Rattle.removal_engine.specs.Names.{cleared_names, purged_names, waiting_names}
use Rattle.removal_engine.specs.Records.{config_files, half_configured, losing_files, purged, without_files}
use Rattle.removal_engine.specs.Units.{Given}
use Rattle.removal_engine.specs.declared.extent.Extent.TheVariants.{Purge, InFavour}
use Rattle.removal_engine.specs.declared.scripts.Stored.{Stored}

-- of a package of this record, with which these scripts are stored when the unit begins
module _ (g : Given) (r : Record) (stored : Stored) where
  -- what goes with the files: a listed path, unless it is a conffile or its place is one to come or another package's; and what is left
  -- beside such paths, or waits to be settled
  pub data GoesWithFiles (q : Path) : Type 0 where
    listed : (to_come : List Path) → IsToCome r stored to_come → is_leaving_place (leaving_files g.ways g.before.lists r to_come) q ≡ true → GoesWithFiles q
    beside : is_among (cleared_names g.ways g.before.lists r) q ≡ true → GoesWithFiles q
    waiting : is_among (waiting_names g.ways r.name r.pending) q ≡ true → GoesWithFiles q

  -- a listed path that goes with the files
  abbrev pub IsListed : Path → Type 0
  IsListed q = (to_come : List Path) × IsToCome r stored to_come × (is_leaving_place (leaving_files g.ways g.before.lists r to_come) q ≡ true)

  -- with which record and list a purge begins: those that it finds of a removed package, or those that the removal left
  pub data IsPurgedFrom (c : Record) (listed : List Path) : Type 0 where
    found : r.state ≡ ConfigFiles → c ≡ r → listed ≡ paths_of g.before.lists r.name → IsPurgedFrom c listed
    left : c ≡ config_files r → IsToCome r stored listed → IsPurgedFrom c listed

  -- what goes with a purge from there: conffiles and the names beside them, and listed directories
  pub data GoesWithPurge (c : Record) (listed : List Path) (q : Path) : Type 0 where
    conffile : is_among (purged_names g.ways g.before.lists c) q ≡ true → GoesWithPurge c listed q
    directory : is_leaving_place (leaving_directories g.ways g.before.lists c listed) q ≡ true → GoesWithPurge c listed q

  -- the unit may take away what stands there
  pub data MayGo (q : Path) : Type 0 where
    with_files : GoesWithFiles q → MayGo q
    with_purge : g.extent ≡ Purge → (c : Record) (listed : List Path) → IsPurgedFrom c listed → GoesWithPurge c listed q → MayGo q

  -- the package's record: that of before, or one that the unit notes
  pub data IsOwnRecord (now : Option Record) : Type 0 where
    stayed : now ≡ Some r → IsOwnRecord now
    deconfigured : g.extent ≢ InFavour → now ≡ Some (half_configured r) → IsOwnRecord now
    losing : now ≡ Some (losing_files r) → IsOwnRecord now
    lost : now ≡ Some (without_files r) → IsOwnRecord now
    removed : now ≡ Some (config_files r) → IsOwnRecord now
    purging : g.extent ≡ Purge → (c : Record) (listed : List Path) → IsPurgedFrom c listed → now ≡ Some (purged c) → IsOwnRecord now
    gone : now ≡ None → IsOwnRecord now

  -- the next opening finds such a record, and those of other packages as before
  pub record HasRecordsAmid (now : World) : Type 0 where
    pub table : List Record
    pub records : HasRecords now table
    pub opens : CanOpenRecords now
    pub own : IsOwnRecord (record_in table g.name)
    pub others : (q : List ℕ) → q ≢ g.name → record_in table q ≡ record_in g.before.records q

  -- the package's list: that of before, the conffiles that stay and the directories above all of them, one without a path, or none
  pub data IsOwnList (before now : Option Node) : Type 0 where
    stood : now ≡ before → IsOwnList before now
    to_come : (paths : List Path) → IsToCome r stored paths → now ≡ Some (list_file paths) → IsOwnList before now
    bare : now ≡ Some (list_file []) → IsOwnList before now
    gone : now ≡ None → IsOwnList before now

-- a stored control file: that of before, or none
abbrev pub IsOwnMember : Option Node → Option Node → Type 0
IsOwnMember before now = (now ≡ before) ⊎ (now ≡ None)
