-- Parts that are under way: at each moment the records can be opened, and no entry of `info` is a directory.
use Rattle.std.specs.Prelude.{◌≡◌, ◌⊎◌, ℕ, Bool, List, [], ◌∷◌, ◌++◌}
use Rattle.host_core.specs.Paths.{Path}
use Rattle.host_core.specs.World.{World}
use Rattle.host_core.specs.Events.{Event, IsDeniedIn}
use Rattle.administration.specs.Files.{IsDropping, IsReplacing}
use Rattle.administration.specs.Places.{list_path}
use Rattle.conffiles.specs.Settling.{AreSettling}
use Rattle.control_members.specs.Stored.{AreStoredNames, AreTaking, goes}
use Rattle.file_lists.specs.Info.{AreLoose}
use Rattle.file_lists.specs.Writing.{list_file}
use Rattle.file_removal.specs.Clearing.{IsClearing}
use Rattle.file_removal.specs.Removal.{IsRemoving, IsRemovingDirectories}
use Rattle.status_db.specs.Held.{CanOpenRecords, HasRecords}
use Rattle.status_db.specs.Noting.{IsNoting}
use Rattle.status_records.specs.Records.{drop_record, put_record}
use Rattle.status_records.specs.declared.record.Record.{Record}
use Rattle.unit_stages.specs.Parts.{HaveDone, part_records, parts_records}
use Rattle.unit_stages.specs.declared.part.Part.{Part}
use Rattle.unit_stages.specs.declared.part.Part.TheVariants.{Note, Forget, Settle, Remove, RemoveDirectories, Clear, List as Listing, DropList, DropMembers}

-- the stored control files of a package are looked for, or they go
abbrev pub MayDrop : Path → Bool → World → World → Type 0
MayDrop name keep_postrm old now =
    (now ≡ old) ⊎ ((names : List Path) × AreStoredNames old name names × AreTaking name (goes names keep_postrm) old now)

module _ (name : List ℕ) where
  -- a part is under way
  abbrev pub MayDo : Part → List Record → World → World → Type 0
  MayDo (Note r) rs old now = IsNoting rs (put_record r rs) old now
  MayDo Forget rs old now = IsNoting rs (drop_record name rs) old now
  MayDo (Settle settled) rs old now = AreSettling settled.items old now
  MayDo (Remove leaving) rs old now = IsRemoving leaving.items old now
  MayDo (RemoveDirectories leaving) rs old now = IsRemovingDirectories leaving.items old now
  MayDo (Clear names) rs old now = IsClearing names.items old now
  MayDo (Listing paths) rs old now = IsReplacing (list_path name) (list_file paths) old now
  MayDo DropList rs old now = IsDropping (list_path name) old now
  MayDo (DropMembers keep_postrm) rs old now = MayDrop name keep_postrm old now

  -- At each moment of a part: the records of before or those after it.
  pub record IsDoing (part : Part) (rs : List Record) (old now : World) : Type 0 where
    pub may : MayDo part rs old now
    pub records : HasRecords now rs ⊎ HasRecords now (part_records name part rs)
    pub opens : CanOpenRecords now
    pub loose : AreLoose now

  -- nothing more is to be done
  pub record IsOver (rs : List Record) (old now : World) : Type 0 where
    pub same : now ≡ old
    pub records : HasRecords now rs
    pub opens : CanOpenRecords now
    pub loose : AreLoose now

  -- the first of some parts is under way, or there is none
  abbrev pub IsFirstDoing : List Part → List Record → World → World → Type 0
  IsFirstDoing [] rs old now = IsOver rs old now
  IsFirstDoing (part ∷ parts) rs old now = IsDoing part rs old now

  -- At each moment of parts: some are done, and the next is under way.
  pub record AreDoing (declined : Path → Type 0) (parts : List Part) (rs : List Record) (old now : World) : Type 0 where
    pub front : List Part
    pub back : List Part
    pub are : parts ≡ front ++ back
    pub mid : World
    pub done : HaveDone name declined front rs old mid
    pub next : IsFirstDoing back (parts_records name front rs) mid now

  -- the same, where only directories whose removal was declined so far may have stayed
  abbrev pub AreAmid : List Part → List Record → World → List Event → World → Type 0
  AreAmid parts rs old so_far now = AreDoing (IsDeniedIn so_far) parts rs old now
