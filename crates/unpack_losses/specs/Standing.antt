-- What the record that is left tells of an unpack's files (Policy 6.6).
use Rattle.std.specs.Prelude.{◌≡◌, ◌≢◌, List, Some, Contains}
use Rattle.host_core.specs.Paths.{Path}
use Rattle.host_core.specs.World.{World}
use Rattle.host_core.specs.declared.node.Access.{Access}
use Rattle.host_core.specs.declared.node.Node.TheVariants.{Dir}
use Rattle.package_files.specs.declared.work.Work.{Work}
use Rattle.status_db.specs.Held.{HasRecords}
use Rattle.status_records.specs.Records.{record_in}
use Rattle.status_records.specs.declared.record.Record.{Record}
use Rattle.unpack_engine.specs.Units.{Given}
use Rattle.unpack_plan.specs.Records.{IsFresh, IsIncoming}
use Rattle.unpack_rows.specs.Kinds.{own_of}
use Rattle.unpack_rows.specs.Notes.{half_installed}
use Rattle.unpack_laws.specs.InHand.{unit_found, unit_name, unit_works, unit_yielding}

module _ (g : Given) where
  -- The next opening finds the package neither marked as half-installed, to be installed again, nor unpacked by this unit: as it
  -- finds it where its record is that of before.
  pub record IsLeftUnmarked (left : World) : Type 0 where
    pub table : List Record
    pub records : HasRecords left table
    pub unmarked : (incoming : Record) → IsIncoming g.«package» incoming → record_in table (unit_name g) ≢ Some (half_installed (own_of (unit_found g) incoming))
    pub unnoted : (fresh : Record) → IsFresh (unit_yielding g) g.«package» (unit_found g) fresh → record_in table (unit_name g) ≢ Some fresh

  -- a path that is no name beside a place of the unit's, where what had stood is kept aside, and no directory that it makes, which
  -- may have to stay
  pub record IsNoRemainder (q : Path) : Type 0 where
    pub backup : (x : Work) → Contains (unit_works g) x → q ≢ x.backup
    pub fresh : (x : Work) → Contains (unit_works g) x → q ≢ x.fresh
    pub directory : (x : Work) → Contains (unit_works g) x → (access : Access) → x.node ≡ Dir access → q ≢ x.target
