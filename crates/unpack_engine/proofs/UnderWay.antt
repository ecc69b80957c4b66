-- What holds at each moment of a unit: while it begins and its rows run, and after that.
use Rattle.std.proofs.Common.{◌≡◌, true, List, [], ◌++◌, subst}
use Rattle.texts.specs.PackageNames.{is_package_name}
use Rattle.host_core.specs.Paths.{Path}
use Rattle.host_core.specs.World.{World}
use Rattle.host_core.specs.Events.{Event, scripts_of}
use Rattle.host_core.specs.Host.{State}
use Rattle.administration.specs.Places.{list_path}
use Rattle.undo_rows.specs.Place.{Place}
use Rattle.control_members.specs.LaidOut.{AreLaidOut, IsIncoming, IsLaying}
use Rattle.control_members.specs.Stored.{IsMembersReady}
use Rattle.control_members.proofs.LaidOut.{laid_elsewhere, laid_incoming}
use Rattle.file_lists.specs.Info.{AreLoose}
use Rattle.file_lists.specs.Writing.{IsListReady}
use Rattle.package_files.specs.Files.{Each}
use Rattle.package_files.specs.Names.{IsNamed}
use Rattle.status_db.specs.Held.{HasRecords, IsKept}
use Rattle.status_db.specs.Recorded.{Recorded}
use Rattle.unpack_plan.specs.Planned.{Planned}
use Rattle.unpack_steps.specs.At.{Stops}
use Rattle.unpack_steps.specs.Task.{state_on}
use Rattle.unpack_engine.specs.Units.{Begins, BeginsAt, Ground, IsRunning, IsStage, IsUnderWay, package_name, stage_records, task_from}
use Rattle.unpack_engine.proofs.Apart.{loose_still, tmp_beside}
use Rattle.unpack_engine.proofs.Cleared.{begun_laid, begun_loose, laid_loose}
use Rattle.unpack_engine.proofs.Dropping.{laying_kept}
use Rattle.unpack_engine.proofs.Frames.{IsBeside, amid_same}
use Rattle.unpack_engine.proofs.Ready.{kept_opens}

-- a stage, and the next opening finds its records
abbrev pub IsStaged : Ground → Planned → World → List Event → World → Type 0
IsStaged g p old so_far now = (stage : IsStage g p old so_far now) × HasRecords now (stage_records g p old so_far now stage)

module _ (g : Ground) (p : Planned) (named : is_package_name (package_name g p) ≡ true) (works_named : Each IsNamed p.works) (old : World)
    (list : IsListReady (package_name g p) old) (members : IsMembersReady (package_name g p) old) (loose : AreLoose old) (incoming : IsIncoming old) where
  pub beginning_under_way : (d : Recorded) → IsKept d old → d.records ≡ g.records → (so_far : List Event) (now : World) → scripts_of so_far ≡ [] → IsLaying old now → IsUnderWay g p old so_far now
  beginning_under_way d kept same so_far now none may =
      let here = laying_kept old now may.rest d kept in
      record {
        stage = IsStage.running (IsRunning.beginning none may);
        records = subst (HasRecords now) same here.holds;
        opens = kept_opens d now here;
        incoming = may.incoming;
        loose = laid_loose old now may.rest loose;
      }

  -- what the rows leave alone: the control files, and what is in `info`
  module _ (place : Place) (base : World) (begins : BeginsAt g p place old base) where
    pub still_loose : (now : World) → ((q : Path) → IsBeside (list_path (package_name g p)) q → now q ≡ base q) → IsListReady (package_name g p) now → AreLoose now
    still_loose now same ready = loose_still (package_name g p) base now same ready.target ready.spare (begun_loose g p place old base begins named list.info loose)

    pub still_laid : (now : World) → ((q : Path) → IsBeside (list_path (package_name g p)) q → now q ≡ base q) → AreLaidOut p.members now
    still_laid now same = laid_elsewhere p.members base now (λ q within. same q (tmp_beside (package_name g p) q within)) (begun_laid g p place old base begins)

  module _ (begun : State) (begins : Begins g p old begun.world) where
    pub running_under_way : (so_far more : List Event) (now : World) → (before : List Event) → so_far ≡ before ++ more → scripts_of before ≡ [] → Stops (task_from g p begun) (begun.events ++ more) now → IsUnderWay g p old so_far now
    running_under_way so_far more now before is none stops =
        let then : BeginsAt g p stops.place old stops.base = record { begun = begun.world; begins = begins; clears = stops.cleared } in
        let same : (q : Path) → IsBeside (list_path (package_name g p)) q → now q ≡ stops.base q = λ q beside. amid_same (task_from g p (state_on begun stops.base)) q beside works_named _ _ now stops.files in
        record {
          stage = IsStage.running (IsRunning.running begun before more is none begins stops);
          records = stops.records;
          opens = stops.opens;
          incoming = laid_incoming p.members now (still_laid stops.place stops.base then now same);
          loose = still_loose stops.place stops.base then now same stops.ready;
        }

  pub run_under_way : (d : Recorded) → IsKept d old → d.records ≡ g.records → (so_far : List Event) (now : World) → IsRunning (Begins g p) IsLaying (task_from g p) old so_far now → IsUnderWay g p old so_far now
  run_under_way d kept same so_far now (IsRunning.beginning none may) = beginning_under_way d kept same so_far now none may
  run_under_way d kept same so_far now (IsRunning.running begun before more is none begins stops) = running_under_way begun begins so_far more now before is none stops
