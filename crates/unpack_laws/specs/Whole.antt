-- What stands at a shipped path, and which list the package has, at a moment of an unpack: never a part (Policy 6.6).
use Rattle.std.specs.Prelude.{◌≡◌, false, List, ◌++◌, Option, Some, None}
use Rattle.host_core.specs.Paths.{Path}
use Rattle.host_core.specs.World.{World, Change, changed}
use Rattle.host_core.specs.declared.node.Access.{Access}
use Rattle.host_core.specs.declared.node.Node.{Node}
use Rattle.host_core.specs.declared.node.Node.TheVariants.{Dir}
use Rattle.file_lists.specs.Writing.{list_file}
use Rattle.file_removal.specs.Clearing.{is_among}
use Rattle.package_files.specs.Files.{IsShown}
use Rattle.package_files.specs.declared.work.Work.{Work}
use Rattle.package_tree.specs.ShipMap.{paths_of as shipped_paths}
use Rattle.status_records.specs.declared.record.Record.{Record}
use Rattle.unpack_engine.specs.Units.{Given}
use Rattle.unpack_plan.specs.Lists.{IsAfter, IsUnion}
use Rattle.unpack_plan.specs.Names.{known_conffiles, left_names}
use Rattle.unpack_plan.specs.Records.{IsFresh}
use Rattle.unpack_laws.specs.InHand.{IsNoCut, IsNoLeaving, unit_found, unit_listed, unit_name, unit_yielding}

-- What stands at a target where nothing is written or all is put back, and script calls changed so much since the world of before:
-- what they made of what stood there; or, where a made directory had to stay, what they made of it since.
pub data IsTargetBack (target : Path) (node : Node) (old now : World) (change : Change) : Type 0 where
  stood : now target ≡ changed change old target → IsTargetBack target node old now change
  stayed : (access : Access) (early late : Change) (made : World) → node ≡ Dir access → change ≡ early ++ late → made target ≡ Some (Dir access) → now target ≡ changed late made target
      → IsTargetBack target node old now change

-- while none of its files is being moved: that, or the shipped node
pub data IsTargetSet (target : Path) (node : Node) (old now : World) (change : Change) : Type 0 where
  before : IsTargetBack target node old now change → IsTargetSet target node old now change
  shown : IsShown node (now target) → IsTargetSet target node old now change

-- at any moment; nothing stands there while a directory takes the place of a file, which is at the backup
pub data IsTargetAmid (target backup : Path) (node : Node) (old now : World) (change : Change) : Type 0 where
  whole : IsTargetSet target node old now change → IsTargetAmid target backup node old now change
  between : (access : Access) → node ≡ Dir access → now target ≡ None → now backup ≡ changed change old target → IsTargetAmid target backup node old now change

abbrev pub IsWorkBack : World → World → Change → Work → Type 0
IsWorkBack old now change x = IsTargetBack x.target x.node old now change

abbrev pub IsWorkSet : World → World → Change → Work → Type 0
IsWorkSet old now change x = IsTargetSet x.target x.node old now change

abbrev pub IsWorkAmid : World → World → Change → Work → Type 0
IsWorkAmid old now change x = IsTargetAmid x.target x.backup x.node old now change

module _ (g : Given) where
  -- what is written there stays: it is no place of an old path that goes, nor the waiting file of a conffile that isn't shipped
  -- any more, or that a unit shipped which was cut (Policy 6.6, steps 6 and 11)
  pub record IsLasting (target : Path) : Type 0 where
    pub stays : IsNoLeaving g target
    pub uncleared : is_among (left_names g.ways (unit_name g) g.«package».conffiles (known_conffiles (unit_found g))) target ≡ false
    pub uncut : IsNoCut g target

  -- the list of the package: the one of before, or none where it had no record; the old paths, as they are written again; those
  -- with the shipped ones; or the new list
  pub data IsOwnList (before now : Option Node) : Type 0 where
    stood : now ≡ before → IsOwnList before now
    gone : unit_found g ≡ None → now ≡ None → IsOwnList before now
    restored : now ≡ Some (list_file (unit_listed g)) → IsOwnList before now
    joined : (union : List Path) → IsUnion (unit_listed g) (shipped_paths g.«package».files) union → now ≡ Some (list_file union) → IsOwnList before now
    renewed : (fresh : Record) (paths : List Path) → IsFresh (unit_yielding g) g.«package» (unit_found g) fresh → IsAfter g.«package».files fresh paths → now ≡ Some (list_file paths) → IsOwnList before now
