-- How the world came about while rows run: script calls and notes, and the moves of the file row.
use Rattle.std.specs.Prelude.{◌≡◌, ◌⊎◌, false, List, ◌++◌}
use Rattle.host_core.specs.Paths.{Path}
use Rattle.host_core.specs.World.{World, Change, Avoids, IsDirectory, changed, is_kept}
use Rattle.administration.specs.Places.{home_path, list_path}
use Rattle.file_lists.specs.Writing.{list_file}
use Rattle.package_files.specs.Files.{Each}
use Rattle.package_files.specs.Free.{IsWrittenFrom}
use Rattle.package_files.specs.Names.{AllInOrder, IsNamed}
use Rattle.package_files.specs.declared.work.Work.{Work}
use Rattle.file_check.specs.Rearranged.{IsRearranged}
use Rattle.status_db.specs.Held.{is_record_place}
use Rattle.listed_files.specs.Listing.{HasListed, HasTurnedBack, HasUnlisted}
use Rattle.unpack_rows.specs.Stages.{Stage, Unwritten, Wrote, Restored}
use Rattle.unpack_steps.specs.Task.{Task, name, all_places}

-- Script calls that leave these places alone changed so much, and records were noted; nothing else was done.
pub record Follows (places : List Path) (change : Change) (old new : World) : Type 0 where
  pub avoids : Avoids (is_kept places) change
  pub rest : (q : Path) → is_record_place q ≡ false → new q ≡ changed change old q

-- The list and then the files were written, in a world to which only calls and notes had led, and only these came since.
pub record HasFiles (t : Task) (works : List Work) (change : Change) (now : World) : Type 0 where
  pub early : Change
  pub late : Change
  pub changes : change ≡ early ++ late
  pub found : World
  pub written : World
  pub before : Follows t.places early t.start.world found
  -- where the administration's directory was there, so that no work has made it
  pub home : IsDirectory (found home_path)
  pub listed : HasListed (list_path (name t)) (list_file t.union) works found written
  pub from : IsWrittenFrom works listed.mid written
  pub since : Follows (all_places t) late written now

-- they were written, put back, and then the old list was written
pub record HasPutAll (t : Task) (works : List Work) (change : Change) (back : World) : Type 0 where
  pub last : World
  pub files : HasFiles t works change last
  pub unlisted : HasUnlisted (list_path (name t)) (list_file t.listed) works last back

-- A step of them was declined: what had been written was put back at once, and then the old list was written.
pub record HasTurned (t : Task) (works : List Work) (change : Change) (back : World) : Type 0 where
  pub found : World
  pub before : Follows t.places change t.start.world found
  pub home : IsDirectory (found home_path)
  pub turned : HasTurnedBack (list_path (name t)) (list_file t.union) (list_file t.listed) works found back

-- They are put back, and the old list is written; only calls and notes came since.
pub record HasGoneBack (t : Task) (works : List Work) (change : Change) (now : World) : Type 0 where
  pub early : Change
  pub late : Change
  pub changes : change ≡ early ++ late
  pub back : World
  pub put : HasPutAll t works early back ⊎ HasTurned t works early back
  pub since : Follows t.places late back now

-- the world in each stage of the files
abbrev pub HasCome : Task → Stage → List Work → Change → World → Type 0
HasCome t Unwritten works change now = Follows t.places change t.start.world now
HasCome t Wrote works change now = HasFiles t works change now
HasCome t Restored works change now = HasGoneBack t works change now

-- the works of the package in the order of their places, with what was seen of them
pub record AreOrdered (t : Task) (works : List Work) : Type 0 where
  pub same : IsRearranged t.works works
  pub named : Each IsNamed works
  pub order : AllInOrder works
