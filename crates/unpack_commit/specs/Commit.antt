-- The commit of an unpack, in Policy's order (6.6): old paths go, the list and the control files are the new ones, places leave other
-- packages' lists, what only the installer writes goes, and then the records are noted, the package's own last.
use Rattle.std.specs.Prelude.{◌≡◌, ◌⊎◌, ℕ, List, ◌++◌}
use Rattle.std.proofs.Common.{inl, inr}
use Rattle.host_core.specs.Paths.{Path}
use Rattle.host_core.specs.World.{World, KeepsBut}
use Rattle.administration.specs.Places.{list_path}
use Rattle.control_members.specs.Stored.{AreReplaced, AreReplacing, AreStored}
use Rattle.control_members.specs.declared.member.Member.{Member}
use Rattle.diversions.specs.Ways.{Ways}
use Rattle.file_lists.specs.Taking.{without_all}
use Rattle.file_lists.specs.Writing.{list_file, with_list}
use Rattle.file_lists.specs.declared.paths.PackageList.{PackageList}
use Rattle.file_removal.specs.declared.leaving.Leaving.{Leaving}
use Rattle.status_db.specs.Held.{CanOpenRecords, HasRecords, is_record_place}
use Rattle.status_records.specs.declared.record.Record.{Record}
use Rattle.listed_files.specs.Closing.{HasReleased, HasRenewed, HasRenewedUnless, MayRelease, MayRenew}
use Rattle.file_removal.specs.Removal.{any_path, Removed}
use Rattle.unpack_commit.specs.Takeover.{put_records}
use Rattle.unpack_commit.specs.declared.change.Change.{Change}

-- what a commit does, beside the notes
pub record Changes : Type 0 where
  pub name : List ℕ
  -- the paths of the old list, and which of them go
  pub leaving : List Leaving
  -- the new list, and the control files
  pub listed : List Path
  pub members : List Member
  -- the places that leave the lists of these packages
  pub places : List Path
  pub losers : List (List ℕ)
  -- names that only the installer writes
  pub names : List Path

-- a change, and the new list
abbrev pub changes_of : Change → List Path → Changes
changes_of change listed = record {
  name = change.name;
  leaving = change.leaving.items;
  listed = listed;
  members = change.members;
  places = change.places.items;
  losers = change.losers;
  names = change.names.items;
}

-- a table with the first of these records noted, none or all of them
pub record HasSomeNoted (records before table : List Record) : Type 0 where
  pub front : List Record
  pub back : List Record
  pub are : records ≡ front ++ back
  pub is : table ≡ put_records front before

-- at each moment of noting records one after another: the first of them are noted
pub record AreNoting (records : List Record) (before : List Record) (old now : World) : Type 0 where
  pub front : List Record
  pub back : List Record
  pub are : records ≡ front ++ back
  pub has : HasRecords now (put_records front before)
  pub opens : CanOpenRecords now
  pub rest : KeepsBut is_record_place old now

-- the records are noted, and only they have changed
pub record HaveNoted (after : List Record) (old new : World) : Type 0 where
  pub has : HasRecords new after
  pub rest : KeepsBut is_record_place old new

-- the control files of a package took the place of those that were stored
pub record HasStored (name : List ℕ) (members : List Member) (old new : World) : Type 0 where
  pub stale : List Path
  pub replaced : AreReplaced name members stale old new
  pub whole : AreStored name members new

-- at each moment: they take the place of some names' old ones
pub record IsStoring (name : List ℕ) (members : List Member) (old now : World) : Type 0 where
  pub stale : List Path
  pub replacing : AreReplacing name members stale old now

module _ (c : Changes) (ways : Ways) (lists : List PackageList) where
  -- the lists with the new one, and then without the places
  abbrev pub renewed_lists : List PackageList
  renewed_lists = with_list c.name c.listed lists

  abbrev pub committed_lists : List PackageList
  committed_lists = without_all ways c.places c.losers renewed_lists

  -- the lists as far as it went
  abbrev pub AreListsAmid : List PackageList → Type 0
  AreListsAmid now = (now ≡ lists) ⊎ ((now ≡ renewed_lists) ⊎ (now ≡ committed_lists))

  -- all of it, by the worlds between its parts; of the directories that could go only those stayed whose removal was declined
  pub record HasCommittedUnless (declined : Path → Type 0) (after : List Record) (old new : World) : Type 0 where
    pub renewed : World
    pub stored : World
    pub released : World
    pub stale : List Path
    pub renewal : HasRenewedUnless declined c.leaving (list_path c.name) (list_file c.listed) old renewed
    pub replaced : AreReplaced c.name c.members stale renewed stored
    pub whole : AreStored c.name c.members stored
    pub release : HasReleased ways c.places c.losers renewed_lists c.names stored released
    pub noted : HaveNoted after released new

  -- whatever was declined
  abbrev pub HasCommitted : List Record → World → World → Type 0
  HasCommitted after old new = HasCommittedUnless any_path after old new

  -- at each moment: the paths go and the list is written; or control files take the place of the old ones; or places leave other
  -- lists and names are cleared; or the records are noted
  pub data MayCommit (records before : List Record) (old now : World) : Type 0 where
    renewing : MayRenew c.leaving (list_path c.name) (list_file c.listed) old now → HasRecords now before → CanOpenRecords now → MayCommit records before old now
    replacing : (renewed : World) (stale : List Path) → HasRenewed c.leaving (list_path c.name) (list_file c.listed) old renewed
        → AreReplacing c.name c.members stale renewed now → HasRecords now before → CanOpenRecords now → MayCommit records before old now
    releasing : (renewed stored : World) (stale : List Path) → HasRenewed c.leaving (list_path c.name) (list_file c.listed) old renewed
        → AreReplaced c.name c.members stale renewed stored → AreStored c.name c.members stored
        → MayRelease ways c.places c.losers renewed_lists c.names stored now → HasRecords now before → CanOpenRecords now → MayCommit records before old now
    noting : (renewed stored released : World) (stale : List Path) → HasRenewed c.leaving (list_path c.name) (list_file c.listed) old renewed
        → AreReplaced c.name c.members stale renewed stored → AreStored c.name c.members stored
        → HasReleased ways c.places c.losers renewed_lists c.names stored released → AreNoting records before released now → MayCommit records before old now

  -- of the directories that could go only those stayed whose removal was declined
  abbrev pub StayedAmid : (declined : Path → Type 0) (records before : List Record) (old now : World) → MayCommit records before old now → Type 0
  StayedAmid declined records before old now (MayCommit.renewing (inl removing) has opens) = Unit {0}
  StayedAmid declined records before old now (MayCommit.renewing (inr m) has opens) = Removed declined c.leaving old m.0
  StayedAmid declined records before old now (MayCommit.replacing renewed stale first is has opens) = Removed declined c.leaving old first.mid
  StayedAmid declined records before old now (MayCommit.releasing renewed stored stale first second whole may has opens) = Removed declined c.leaving old first.mid
  StayedAmid declined records before old now (MayCommit.noting renewed stored released stale first second whole third is) = Removed declined c.leaving old first.mid

  -- at each moment, of what was declined until then
  abbrev pub MayCommitUnless : (declined : Path → Type 0) (records before : List Record) (old now : World) → Type 0
  MayCommitUnless declined records before old now = (may : MayCommit records before old now) × StayedAmid declined records before old now may
