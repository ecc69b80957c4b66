-- An administration that is open.
use Rattle.std.specs.Prelude.{◌≡◌, ℕ, List, None}
use Rattle.host_core.specs.World.{World, IsDirectory}
use Rattle.administration.specs.Places.{home_path, info_path, diversions_path, updates_path, tmp_path, temporary}
use Rattle.administration.specs.Directories.{HasBadName}
use Rattle.administration.specs.Files.{NoDirectory}
use Rattle.diversions.specs.declared.entry.Diversion.{Diversion}
use Rattle.diversions.specs.Lines.{HasDiversions}
use Rattle.file_lists.specs.Info.{AreSound}
use Rattle.file_lists.specs.Lists.{HasLists}
use Rattle.file_lists.specs.declared.paths.PackageList.{PackageList}
use Rattle.status_records.specs.declared.record.Record.{Record}
use Rattle.status_records.specs.Records.{standing}
use Rattle.status_db.specs.Held.{AreKept}
use Rattle.opening.specs.Parts.{names_of}

-- the lists and scripts of the packages of these names can be read, and these are their lists
pub record IsListed (w : World) (names : List (List ℕ)) (found : List PackageList) : Type 0 where
  pub sound : AreSound w names
  pub lists : HasLists w names found

-- Its directories are there, all that is in it can be read, no directory is in a file's way, nothing is left in `tmp.ci`;
-- these are its records, the lists of their packages, and its diversions, and no note has this number or a greater.
pub record IsFound (table : List Record) (notes : ℕ) (lists : List PackageList) (entries : List Diversion) (w : World) : Type 0 where
  pub home : IsDirectory (w home_path)
  pub info : IsDirectory (w info_path)
  pub updates : IsDirectory (w updates_path)
  pub text : HasBadName w info_path → ⊥
  pub diversions : HasDiversions w entries
  pub diversions_spare : NoDirectory (w (temporary diversions_path))
  pub tmp : w tmp_path ≡ None
  pub records : AreKept table notes w
  pub standing : standing table ≡ table
  pub listed : IsListed w (names_of table) lists

-- the same, where all records are in the status file: no note stands
abbrev pub IsOpened : List Record → List PackageList → List Diversion → World → Type 0
IsOpened table lists entries w = IsFound table 0 lists entries w
