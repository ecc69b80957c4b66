-- What an unpack that was carried out whole leaves of earlier ones, among them one that was stopped (Policy 6.6, steps 6 and 11).
use Rattle.std.specs.Prelude.{◌≡◌, false, List, Option, Contains}
use Rattle.std.specs.List.{list_any}
use Rattle.std.specs.Str.{bytes_eq}
use Rattle.host_core.specs.Paths.{Path}
use Rattle.host_core.specs.World.{World, IsLoose}
use Rattle.host_core.specs.declared.node.Node.{Node}
use Rattle.diversions.specs.Ways.{place}
use Rattle.package_files.specs.declared.work.Work.{Work}
use Rattle.list_changes.specs.Leaving.{stays}
use Rattle.status_records.specs.declared.record.Record.{Record}
use Rattle.unpack_engine.specs.Units.{Given}
use Rattle.unpack_plan.specs.Lists.{IsAfter, entry_paths}
use Rattle.unpack_plan.specs.Records.{IsFresh, entries_of}
use Rattle.unpack_laws.specs.InHand.{unit_found, unit_listed, unit_name, unit_yielding}

-- neither a file nor a link stands there
abbrev pub IsClear : Option Node → Type 0
IsClear node = IsLoose node → ⊥

-- nothing but directories stands at the names beside a shipped path that the installer writes
pub record IsClearBeside (w : World) (x : Work) : Type 0 where
  pub backup : IsClear (w x.backup)
  pub fresh : IsClear (w x.fresh)

-- nothing but directories stands at the place of a path that the package listed before, unless the path is a conffile of the record
-- found, or its place is the root, in the administration, or one that the new list or another package's has
pub record LeavesNoOldFile (g : Given) (w : World) : Type 0 where
  pub fresh : Record
  pub is_fresh : IsFresh (unit_yielding g) g.«package» (unit_found g) fresh
  pub paths : List Path
  pub are : IsAfter g.«package».files fresh paths
  pub none : (path : Path) → Contains (unit_listed g) path → list_any (bytes_eq path) (entry_paths (entries_of (unit_found g))) ≡ false
      → stays g.ways g.lists (unit_name g) paths (place g.ways (unit_name g) path) ≡ false → IsClear (w (place g.ways (unit_name g) path))
