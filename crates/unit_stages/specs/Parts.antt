-- What each part of a unit does: to the records and the lists of its package, and to the world.
use Rattle.std.specs.Prelude.{◌≡◌, ℕ, Bool, List, [], ◌∷◌}
use Rattle.host_core.specs.Paths.{Path}
use Rattle.host_core.specs.World.{World, KeepsBut}
use Rattle.administration.specs.Files.{IsDropped, IsReplaced}
use Rattle.administration.specs.Places.{list_path}
use Rattle.conffiles.specs.Settling.{AreSettled}
use Rattle.control_members.specs.Stored.{AreStoredNames, AreTaken, goes}
use Rattle.file_lists.specs.Writing.{list_file, with_list}
use Rattle.file_lists.specs.declared.paths.PackageList.{PackageList}
use Rattle.file_removal.specs.Clearing.{Cleared}
use Rattle.file_removal.specs.Removal.{Removed, RemovedDirectories}
use Rattle.status_db.specs.Held.{HasRecords, is_record_place}
use Rattle.status_records.specs.Records.{drop_record, put_record}
use Rattle.status_records.specs.declared.record.Record.{Record}
use Rattle.unit_stages.specs.declared.part.Part.{Part}
use Rattle.unit_stages.specs.declared.part.Part.TheVariants.{Note, Forget, Settle, Remove, RemoveDirectories, Clear, List as Listing, DropList, DropMembers}

-- the records stand there, and only they have changed
pub record HasNoted (records : List Record) (old new : World) : Type 0 where
  pub has : HasRecords new records
  pub rest : KeepsBut is_record_place old new

-- the stored control files of a package are gone; all but the postrm, where that is kept
pub record HasDropped (name : Path) (keep_postrm : Bool) (old new : World) : Type 0 where
  pub names : List Path
  pub stored : AreStoredNames old name names
  pub taken : AreTaken name (goes names keep_postrm) old new

module _ (name : List ℕ) where
  -- the records after a part
  abbrev pub part_records : Part → List Record → List Record
  part_records (Note r) rs = put_record r rs
  part_records Forget rs = drop_record name rs
  part_records (Settle settled) rs = rs
  part_records (Remove leaving) rs = rs
  part_records (RemoveDirectories leaving) rs = rs
  part_records (Clear names) rs = rs
  part_records (Listing paths) rs = rs
  part_records DropList rs = rs
  part_records (DropMembers keep_postrm) rs = rs

  -- the lists after a part
  abbrev pub part_lists : Part → List PackageList → List PackageList
  part_lists (Note r) ls = ls
  part_lists Forget ls = ls
  part_lists (Settle settled) ls = ls
  part_lists (Remove leaving) ls = ls
  part_lists (RemoveDirectories leaving) ls = ls
  part_lists (Clear names) ls = ls
  part_lists (Listing paths) ls = with_list name paths ls
  part_lists DropList ls = ls
  part_lists (DropMembers keep_postrm) ls = ls

  -- A part is done. Of the directories that it was to take away those whose removal was declined may stay.
  abbrev pub HasDone : (declined : Path → Type 0) → Part → List Record → World → World → Type 0
  HasDone declined (Note r) rs old new = HasNoted (put_record r rs) old new
  HasDone declined Forget rs old new = HasNoted (drop_record name rs) old new
  HasDone declined (Settle settled) rs old new = AreSettled settled.items old new
  HasDone declined (Remove leaving) rs old new = Removed declined leaving.items old new
  HasDone declined (RemoveDirectories leaving) rs old new = RemovedDirectories declined leaving.items old new
  HasDone declined (Clear names) rs old new = Cleared names.items old new
  HasDone declined (Listing paths) rs old new = IsReplaced (list_path name) (list_file paths) old new
  HasDone declined DropList rs old new = IsDropped (list_path name) old new
  HasDone declined (DropMembers keep_postrm) rs old new = HasDropped name keep_postrm old new

  -- the records after parts, the first of them first
  abbrev pub parts_records : List Part → List Record → List Record
  parts_records [] rs = rs
  parts_records (part ∷ parts) rs = parts_records parts (part_records part rs)

  -- the lists after them
  abbrev pub parts_lists : List Part → List PackageList → List PackageList
  parts_lists [] ls = ls
  parts_lists (part ∷ parts) ls = parts_lists parts (part_lists part ls)

  -- parts are done, one after another, by the worlds between them
  abbrev pub HaveDone : (declined : Path → Type 0) → List Part → List Record → World → World → Type 0
  HaveDone declined [] rs old new = new ≡ old
  HaveDone declined (part ∷ parts) rs old new = (mid : World) × HasDone declined part rs old mid × HaveDone declined parts (part_records part rs) mid new
