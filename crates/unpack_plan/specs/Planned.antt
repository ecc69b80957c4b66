-- What an unpack is going to do, told before anything is done: by the tree and by what the administration says (Policy 6.6).
use Rattle.std.specs.Prelude.{◌≡◌, ℕ, true, List, Option, map}
use Rattle.host_core.specs.Paths.{Path}
use Rattle.host_core.specs.declared.node.Node.{Node}
use Rattle.texts.specs.PackageNames.{is_package_name}
use Rattle.undo_rows.specs.declared.rows.Row.{Row}
use Rattle.control_members.specs.declared.member.Member.{Member}
use Rattle.diversions.specs.Ways.{Ways}
use Rattle.file_check.specs.Ready.{IsFitting}
use Rattle.file_check.specs.Ships.{shipped_works}
use Rattle.file_lists.specs.Owners.{AreListPaths, paths_of}
use Rattle.file_lists.specs.declared.paths.PackageList.{PackageList}
use Rattle.file_removal.specs.declared.leaving.Leaving.{Leaving}
use Rattle.package_files.specs.Files.{Each}
use Rattle.package_files.specs.Names.{IsNamed}
use Rattle.package_files.specs.declared.work.Work.{Work}
use Rattle.package_tree.specs.ShipMap.{paths_of as shipped_paths}
use Rattle.package_tree.specs.declared.package.Package.{Package}
use Rattle.package_tree.specs.declared.shipped.Shipped.{Shipped}
use Rattle.status_records.specs.Records.{record_in}
use Rattle.status_records.specs.declared.record.Record.{Record}
use Rattle.listed_files.specs.Closing.{SparesAdministration}
use Rattle.listed_files.specs.Concluding.{AreElsewhere}
use Rattle.unpack_rows.specs.ForwardRows.{others_rows, records_of, rows_of}
use Rattle.unpack_rows.specs.Kinds.{kinds_of, own_of}
use Rattle.unpack_rows.specs.declared.kinds.RowKind.{RowKind}
use Rattle.unpack_rows.specs.declared.rows.OtherPackage.{OtherPackage}
use Rattle.unpack_rows.specs.declared.rows.Present.{Present}
use Rattle.unpack_steps.specs.declared.plan.Rows.{Rows}
use Rattle.unpack_plan.specs.Lists.{IsAfter, IsUnion, old_leaving}
use Rattle.unpack_plan.specs.Members.{AreMembersOf, scripts_in}
use Rattle.unpack_plan.specs.Names.{cleared_names}
use Rattle.unpack_plan.specs.Records.{IsFresh, IsIncoming}
use Rattle.unpack_plan.specs.Yielded.{Yielding, yielding}
use Rattle.unpack_plan.specs.declared.plan.Plan.{Plan}
use Rattle.unpack_plan.specs.declared.plan.PlannedCommit.{PlannedCommit}

-- the tree, what the administration says, which scripts of the old version are stored, the other packages that have rows, and the
-- names of those that let this one take paths of theirs; by the table as the unit began conffiles change their package, and by that
-- as its files are checked paths have their places
pub record Job : Type 0 where
  pub «package» : Package
  pub records : List Record
  pub lists : List PackageList
  pub begun : Ways
  pub ways : Ways
  pub stored : Present
  pub others : List OtherPackage
  pub yields : List (List ℕ)

pub record Planned : Type 0 where
  -- the record that the package has, the one that is noted where it has none, and that of the unpacked package
  pub found : Option Record
  pub incoming : Record
  pub fresh : Record
  pub rows : List Row
  pub kinds : List RowKind
  -- the records of other packages that have rows
  pub others : List Record
  -- what is shipped, in path order
  pub works : List Work
  -- the list of before, that with both, and the new one
  pub listed : List Path
  pub union : List Path
  pub new_list : List Path
  -- the old paths, and which of them go; names that only the installer writes
  pub leaving : List Leaving
  pub names : List Path
  -- the control files
  pub members : List Member

-- that of these parts
abbrev pub planned_from : Rows → List Work → List Row → PlannedCommit → Planned
planned_from rows works calls commit = record {
  found = rows.found;
  incoming = rows.incoming;
  fresh = commit.fresh;
  rows = calls;
  kinds = rows.kinds.items;
  others = rows.others.items;
  works = works;
  listed = rows.listed;
  union = rows.union;
  new_list = commit.new_list;
  leaving = commit.leaving.items;
  names = commit.names.items;
  members = commit.members;
}

-- a plan as such a record
abbrev pub planned : Plan → Planned
planned p = planned_from p.rows p.works.items p.calls.items p.commit

-- each shipped path with what stands there
abbrev pub pairs_of : List Shipped → List (Path × Node)
pairs_of files = map (λ f. (f.path, f.node)) files

abbrev pub name_of : Job → List ℕ
name_of j = j.«package».name

-- what may yield conffiles to it
abbrev pub yielding_of : Job → Yielding
yielding_of j = yielding j.begun (name_of j) j.yields j.records

-- the records of the package (Policy 6.6)
pub record ArePlannedRecords (j : Job) (p : Planned) : Type 0 where
  pub found_is : p.found ≡ record_in j.records (name_of j)
  pub incoming_is : IsIncoming j.«package» p.incoming
  pub fresh_is : IsFresh (yielding_of j) j.«package» p.found p.fresh
  pub named : is_package_name (name_of j) ≡ true
  pub own : (own_of p.found p.incoming).name ≡ name_of j

-- the rows of script calls and of the files, those of other packages among them (Policy 6.6)
pub record ArePlannedRows (j : Job) (p : Planned) : Type 0 where
  pub rows_are : p.rows ≡ rows_of p.found p.incoming j.stored (scripts_in j.«package».scripts) (others_rows j.others)
  pub kinds_are : p.kinds ≡ kinds_of p.found (records_of j.others)
  pub others_are : p.others ≡ records_of j.others

-- what is shipped, each path at its place; a conffile beside it (Policy 10.7)
pub record ArePlannedWorks (j : Job) (p : Planned) : Type 0 where
  pub works_are : p.works ≡ shipped_works j.ways (name_of j) j.«package».conffiles (pairs_of j.«package».files)
  pub named : Each IsNamed p.works
  pub fitting : Each IsFitting p.works

-- what the package lists before, meanwhile and then, and which of its old paths go (Policy 6.6)
pub record ArePlannedLists (j : Job) (p : Planned) : Type 0 where
  pub listed_is : p.listed ≡ paths_of j.lists (name_of j)
  pub listed_paths : AreListPaths p.listed
  pub union_is : IsUnion p.listed (shipped_paths j.«package».files) p.union
  pub new_is : IsAfter j.«package».files p.fresh p.new_list
  pub leaving_is : p.leaving ≡ old_leaving j.ways j.lists (name_of j) p.found p.new_list p.listed
  pub spares : SparesAdministration p.leaving

-- what is left at names that only the installer writes goes (Policy 6.6, 10.7)
pub record ArePlannedNames (j : Job) (p : Planned) : Type 0 where
  pub names_are : p.names ≡ cleared_names j.ways (name_of j) p.found j.«package».conffiles p.works p.leaving
  pub elsewhere : AreElsewhere p.names

pub record IsPlanned (j : Job) (p : Planned) : Type 0 where
  pub records_are : ArePlannedRecords j p
  pub rows_are : ArePlannedRows j p
  pub works_are : ArePlannedWorks j p
  pub lists_are : ArePlannedLists j p
  pub names_are : ArePlannedNames j p
  pub members_are : AreMembersOf j.«package».scripts j.«package».others p.members
