-- The administration as a unit leaves it.
use Rattle.std.proofs.Common.{◌≡◌, IsTrue, ℕ, true, nat_le, length, List, refl, sym, ap, subst, ◌∙◌}
use Rattle.std.specs.Prelude.{Result, Ok, Err, IfOk, OnOk}
use Rattle.texts.specs.PackageNames.{is_package_name}
use Rattle.host_core.specs.Paths.{Path}
use Rattle.host_core.specs.World.{World, IsDirectory}
use Rattle.host_core.specs.Events.{changes_of}
use Rattle.host_core.specs.Host.{State, Needs}
use Rattle.administration.specs.Places.{home_path, info_path, list_path, tmp_path}
use Rattle.undo_rows.specs.declared.rows.Called.{Called}
use Rattle.undo_rows.specs.Transcripts.{Ended, Committed, Unwound}
use Rattle.diversions.specs.Ways.{Ways}
use Rattle.file_lists.specs.Info.{AreLoose}
use Rattle.file_lists.specs.Lists.{HasLists}
use Rattle.file_lists.specs.Writing.{IsListReady}
use Rattle.file_lists.specs.declared.paths.PackageList.{PackageList}
use Rattle.package_files.specs.Files.{Each}
use Rattle.package_files.specs.Names.{IsNamed}
use Rattle.status_db.specs.Held.{IsKept}
use Rattle.status_db.specs.Recorded.{Recorded}
use Rattle.status_records.specs.Records.{record_in}
use Rattle.status_records.specs.declared.record.Record.{Record}
use Rattle.unpack_commit.specs.Commit.{Changes}
use Rattle.unpack_commit.specs.Takeover.{put_records}
use Rattle.unpack_commit.proofs.Ready.{info_is_no_list}
use Rattle.unpack_commit.proofs.StillReady.{lists_still_ready}
use Rattle.listed_files.specs.Closing.{SparesAdministration}
use Rattle.listed_files.specs.Concluding.{AreElsewhere}
use Rattle.unpack_plan.specs.Planned.{IsPlanned, Job, Planned}
use Rattle.unpack_rows.specs.Kinds.{kinds_of}
use Rattle.unpack_rows.specs.Stages.{stage_of}
use Rattle.unpack_steps.specs.At.{At, Holding}
use Rattle.unpack_steps.specs.Task.{state_on}
use Rattle.held_administration.specs.Order.{IsInOrder, record_names}
use Rattle.unpack_engine.specs.Units.{Begins, Ground, HasCarriedOut, HasFollowed, HasLeft, changes, commit_records, last_place, package_name, task_from}
use Rattle.unpack_engine.proofs.Apart.{loose_still}
use Rattle.unpack_engine.proofs.Begun.{dropped_same}
use Rattle.unpack_engine.proofs.Cleared.{begun_at, begun_loose, works_on}
use Rattle.unpack_engine.proofs.EndLoose.{left_loose}
use Rattle.unpack_engine.proofs.Frames.{IsBeside, come_same}
use Rattle.unpack_engine.proofs.Order.{info_there, there_directory}

-- `info` is there yet after what follows the rows
module _ (c : Changes) (records : List Record) (ways : Ways) (lists : List PackageList) (table : List Record) (others : ℕ) (old : World) (spares : SparesAdministration c.leaving) (elsewhere : AreElsewhere c.names) where
  pub followed_info : (ended : Ended) (new : World) → HasFollowed c records ways lists table others ended old new → IsListReady c.name old → IsDirectory (new info_path)
  followed_info Committed new has ready = (lists_still_ready c ways lists old spares elsewhere (put_records records table) new has c.name ready).info
  followed_info (Unwound fall failed) new has ready =
      subst IsDirectory (sym (dropped_same (nat_le others fall.row) (record_in table c.name) c.name old new info_path has ((info_is_no_list c.name).0))) ready.info

  pub left_info : (ended : Ended) (new : World) → HasLeft c records ways lists table others ended old new → IsListReady c.name old → IsDirectory (new info_path)
  left_info ended new left ready = subst IsDirectory (sym (left.removed.rest info_path refl)) (followed_info ended left.followed left.has_followed ready)

-- while the rows ran no entry of `info` became a directory
module _ (g : Ground) (p : Planned) (named : is_package_name (package_name g p) ≡ true) (works_named : Each IsNamed p.works) (before : Recorded) (lists_before : List PackageList)
    (old : World) (order : IsInOrder before lists_before old) (ended : Ended) (mid : Holding) (begun last : State) (begins : Begins g p old begun.world)
    (at : At (task_from g p begun) mid last (last_place g p ended)) (h : IsTrue last.honest) where
  pub rows_same : (q : Path) → IsBeside (list_path (package_name g p)) q → last.world q ≡ at.base q
  rows_same q beside = come_same (task_from g p (state_on begun at.base)) q beside works_named (last_place g p ended) (stage_of (kinds_of p.found p.others) (last_place g p ended)) mid.works (works_on g p (last_place g p ended) begun at.base mid.works at.works) (changes_of at.since) last.world (at.world h).came

  pub rows_loose : AreLoose last.world
  rows_loose =
      let ready = (at.world h).ready in
      loose_still (package_name g p) at.base last.world rows_same ready.target ready.spare
      (begun_loose g p (last_place g p ended) old at.base (begun_at g p (last_place g p ended) old begun mid last begins at h) named (info_there before lists_before old order) order.loose)

  -- all but the lists, which others show
  module _ (spares : SparesAdministration p.leaving) (elsewhere : AreElsewhere p.names) (new : World)
      (left : HasLeft (changes g p mid.works mid.lists) (commit_records g p mid.works mid.lists mid.database.records) g.ways mid.lists mid.database.records (length p.others) ended last.world new) where
    pub end_order : (after : Recorded) (lists : List PackageList) → IsKept after new → ∥ HasLists new (record_names after.records) lists ∥₁ → IsInOrder after lists new
    end_order after lists kept listed = record {
      home = there_directory (new home_path) kept.unblocked.home;
      info = there_directory (new info_path) (left_info (changes g p mid.works mid.lists) (commit_records g p mid.works mid.lists mid.database.records) g.ways mid.lists mid.database.records (length p.others) last.world spares elsewhere ended new left ((at.world h).ready));
      loose = left_loose (changes g p mid.works mid.lists) (commit_records g p mid.works mid.lists mid.database.records) g.ways mid.lists mid.database.records (length p.others) last.world ended new left rows_loose;
      tmp = left.removed.inside tmp_path refl;
      kept = kept;
      listed = listed;
    }

-- so a unit that is carried out leaves it in order
pub carried_order : (g : Ground) (p : Planned) → is_package_name (package_name g p) ≡ true → Each IsNamed p.works → SparesAdministration p.leaving → AreElsewhere p.names
    → (ended : Ended) (before after : Recorded) (lists_before lists : List PackageList) (old new : State) (told now : List Called) → Needs old (IsInOrder before lists_before)
    → HasCarriedOut g p ended after lists old new told now → Needs new (IsKept after) → Needs new (λ w. ∥ HasLists w (record_names after.records) lists ∥₁) → Needs new (IsInOrder after lists)
carried_order g p named works_named spares elsewhere ended before after lists_before lists old new told now order carried kept listed = λ h.
    let at_last = carried.since.honest h in
    let at_old = carried.ran.until.honest (carried.ran.between.honest at_last) in
    end_order g p named works_named before lists_before old.world (order at_old) ended carried.mid carried.ran.begun carried.last (carried.ran.begins_so at_last) carried.ran.rows_end at_last
    spares elsewhere new.world (carried.leaves h) after lists (kept h) (listed h)

pub plan_named : (g : Ground) (j : Job) (p : Planned) → IsPlanned j p → is_package_name (package_name g p) ≡ true
plan_named g j p planned = ap is_package_name planned.records_are.own ∙ planned.records_are.named

-- and so says its answer
pub order_if_ok : {T E : Type 0} (result : Result T E) (g : Ground) (j : Job) (p : Planned) → IsPlanned j p → (ended : T → Ended) (before after : Recorded) (lists_before lists : List PackageList)
    (old new : State) (told now : List Called) → Needs old (IsInOrder before lists_before) → IfOk result (λ u. HasCarriedOut g p (ended u) after lists old new told now)
    → (IsTrue new.honest → OnOk result (IsKept after new.world)) → IfOk result (λ u. Needs new (λ w. ∥ HasLists w (record_names after.records) lists ∥₁))
    → IfOk result (λ u. Needs new (IsInOrder after lists))
order_if_ok (Ok u) g j p planned ended before after lists_before lists old new told now order carried kept listed =
    carried_order g p (plan_named g j p planned) planned.works_are.named planned.lists_are.spares planned.names_are.elsewhere (ended u) before after lists_before lists old new told now order carried kept listed
order_if_ok (Err e) g j p planned ended before after lists_before lists old new told now order carried kept listed = tt
