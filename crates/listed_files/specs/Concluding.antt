-- The end of an unpack's commit: the record is noted last (Policy 6.6).
use Rattle.std.specs.Prelude.{◌≡◌, ◌⊎◌, true, false, List}
use Rattle.host_core.specs.Paths.{Path}
use Rattle.host_core.specs.World.{World}
use Rattle.administration.specs.Places.{home_path, is_within}
use Rattle.diversions.specs.Ways.{Ways}
use Rattle.file_lists.specs.declared.paths.PackageList.{PackageList}
use Rattle.file_removal.specs.Clearing.{is_among}
use Rattle.status_records.specs.declared.record.Record.{Record}
use Rattle.status_db.specs.Noting.{IsNoted, IsNoting}
use Rattle.status_db.specs.Recorded.{Recorded}
use Rattle.listed_files.specs.Closing.{HasReleased, MayRelease}

-- none of the names lies in the directory of the administration
abbrev pub AreElsewhere : List Path → Type 0
AreElsewhere names = (q : Path) → is_within home_path q ≡ true → is_among names q ≡ false

-- places left other lists and names were cleared, and then the record was noted
pub record HasConcluded (ways : Ways) (places from : List Path) (had : List PackageList) (names : List Path) (now_recorded : Recorded) (old new : World) : Type 0 where
  pub mid : World
  pub released : HasReleased ways places from had names old mid
  pub noted : IsNoted now_recorded mid new

-- at each moment: places leave other lists and names are cleared, or all that is done and the record is being noted
abbrev pub MayConclude : Ways → List Path → List Path → List PackageList → List Path → (before after : List Record) → World → World → Type 0
MayConclude ways places from had names before after old now =
    MayRelease ways places from had names old now ⊎ ((mid : World) × HasReleased ways places from had names old mid × IsNoting before after mid now)
