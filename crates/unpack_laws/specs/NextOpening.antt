-- What the next opening finds of records, at a moment of an unpack (Policy 6.6).
use Rattle.std.specs.Prelude.{◌≡◌, ◌≢◌, ℕ, List, Option, Some, Contains}
use Rattle.host_core.specs.Paths.{Path}
use Rattle.host_core.specs.World.{World}
use Rattle.status_db.specs.Held.{CanOpenRecords, HasRecords}
use Rattle.status_records.specs.Records.{record_in}
use Rattle.status_records.specs.declared.record.Record.{Record}
use Rattle.unpack_commit.specs.Takeover.{without_conffiles}
use Rattle.unpack_engine.specs.Units.{Given}
use Rattle.unpack_plan.specs.Records.{IsFresh, IsIncoming}
use Rattle.unpack_rows.specs.ForwardRows.{records_of}
use Rattle.unpack_rows.specs.Kinds.{own_of}
use Rattle.unpack_rows.specs.Notes.{half_configured, half_installed, unpacked}
use Rattle.unpack_laws.specs.InHand.{KeepsPlaces, LosesPlaces, unit_found, unit_name, unit_yielding}

module _ (g : Given) where
  -- the record of the package that is unpacked: that of before, or the tree's where there was none, in a state that is noted
  -- beside the rows; or in the end that of the unpacked package
  pub data IsOwnRecord (now : Option Record) : Type 0 where
    stayed : now ≡ unit_found g → IsOwnRecord now
    deconfigured : (incoming : Record) → IsIncoming g.«package» incoming → now ≡ Some (half_configured (own_of (unit_found g) incoming)) → IsOwnRecord now
    begun : (incoming : Record) → IsIncoming g.«package» incoming → now ≡ Some (half_installed (own_of (unit_found g) incoming)) → IsOwnRecord now
    put_back : (incoming : Record) → IsIncoming g.«package» incoming → now ≡ Some (unpacked (own_of (unit_found g) incoming)) → IsOwnRecord now
    committed : (fresh : Record) → IsFresh (unit_yielding g) g.«package» (unit_found g) fresh → now ≡ Some fresh → IsOwnRecord now

  -- that of another package: the one of before; one that has a row may be half-configured
  pub data IsOtherRecord (q : List ℕ) (now : Option Record) : Type 0 where
    stayed : now ≡ record_in g.records q → IsOtherRecord q now
    deconfigured : (r : Record) → Contains (records_of g.others) r → r.name ≡ q → now ≡ Some (half_configured r) → IsOtherRecord q now

  -- that of any other package, also of one that loses places: as above, or without the conffiles at the places that it loses
  pub data MayLoseConffiles (q : List ℕ) (now : Option Record) : Type 0 where
    kept : IsOtherRecord q now → MayLoseConffiles q now
    lost : (r : Record) (taken : List Path) → IsOtherRecord q (Some r) → LosesPlaces g q taken → now ≡ Some (without_conffiles g.ways taken r) → MayLoseConffiles q now

  -- a package that has no row in the unit and keeps its places
  pub record IsBesideRows (q : List ℕ) : Type 0 where
    pub other : q ≢ unit_name g
    pub rowless : (r : Record) → Contains (records_of g.others) r → r.name ≢ q
    pub keeps : KeepsPlaces g q

  -- the records that stand: the package's own, and that of every other package; a package that the unit doesn't have in hand has
  -- its record of before
  pub record HasRecordsAmid (now : World) : Type 0 where
    pub table : List Record
    pub records : HasRecords now table
    pub opens : CanOpenRecords now
    pub own : IsOwnRecord (record_in table (unit_name g))
    pub all : (q : List ℕ) → q ≢ unit_name g → MayLoseConffiles q (record_in table q)
    pub others : (q : List ℕ) → q ≢ unit_name g → KeepsPlaces g q → IsOtherRecord q (record_in table q)
    pub beside : (q : List ℕ) → IsBesideRows q → record_in table q ≡ record_in g.records q
