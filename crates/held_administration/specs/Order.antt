-- The administration in order: as a unit finds it and leaves it.
use Rattle.std.specs.Prelude.{◌≡◌, ℕ, true, List, None, map}
use Rattle.host_core.specs.World.{World, is_directory}
use Rattle.administration.specs.Places.{home_path, info_path, tmp_path}
use Rattle.file_lists.specs.Info.{AreLoose}
use Rattle.file_lists.specs.Lists.{HasLists}
use Rattle.file_lists.specs.declared.paths.PackageList.{PackageList}
use Rattle.status_db.specs.Held.{IsKept}
use Rattle.status_db.specs.Recorded.{Recorded}
use Rattle.status_records.specs.declared.record.Record.{Record}

abbrev pub record_names : List Record → List (List ℕ)
record_names records = map (λ r. r.name) records

-- Its directories are there, no directory is in a file's way, no unit is under way, these are its records, and the lists of their
-- packages.
pub record IsInOrder (d : Recorded) (lists : List PackageList) (w : World) : Type 0 where
  pub home : is_directory (w home_path) ≡ true
  pub info : is_directory (w info_path) ≡ true
  pub loose : AreLoose w
  pub tmp : w tmp_path ≡ None
  pub kept : IsKept d w
  pub listed : ∥ HasLists w (record_names d.records) lists ∥₁
