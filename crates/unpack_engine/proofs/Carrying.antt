-- A unit from its parts.
use Rattle.std.proofs.Common.{◌≡◌, IsTrue, ℕ, List, Option, Some, None, length, refl, subst, ◌∙◌}
use Rattle.host_core.specs.Paths.{Path}
use Rattle.host_core.specs.World.{World}
use Rattle.host_core.specs.Host.{State, Silent, AtEachMoment, WasDenied}
use Rattle.undo_rows.specs.Transcripts.{Ended, Committed, Unwound}
use Rattle.undo_rows.specs.Ended.{end_place, ended_as}
use Rattle.undo_rows.specs.declared.unwinding.Unwinding.{Unwinding}
use Rattle.status_records.specs.declared.record.Record.{Record}
use Rattle.status_db.specs.Recorded.{Recorded}
use Rattle.file_lists.specs.Filed.{Filed}
use Rattle.file_lists.specs.declared.paths.PackageList.{PackageList}
use Rattle.package_files.specs.declared.work.Work.{Work}
use Rattle.held_administration.specs.declared.held.Administration.{Administration}
use Rattle.undo_rows.specs.declared.rows.Called.{Called}
use Rattle.undo_rows.specs.declared.rows.Row.{Row}
use Rattle.diversions.specs.Ways.{Ways}
use Rattle.unpack_rows.specs.EndStates.{end_of, own_name}
use Rattle.unpack_steps.specs.Task.{task_by}
use Rattle.unpack_steps.specs.At.{Holding}
use Rattle.unpack_steps.specs.declared.plan.Rows.{Rows}
use Rattle.unpack_plan.specs.Planned.{planned_from}
use Rattle.unpack_plan.specs.declared.plan.PlannedCommit.{PlannedCommit}
use Rattle.unpack_commit.specs.Commit.{Changes}
use Rattle.unpack_commit.specs.Takeover.{put_records}
use Rattle.unpack_commit.proofs.Parts.{committed_wider}
use Rattle.unpack_engine.specs.Endings.{changes_from, ended_lists, ended_table, records_from}
use Rattle.unpack_engine.specs.Units.{HasBegun, HasCarriedOut, HasLeft, HasLeftUnless, HasRunRows, MayLeave, end_lists, end_table, ground_by}
use Rattle.unpack_engine.proofs.Sequel.{later}

-- where more was declined the same is said of what a unit left
pub left_wider : (c : Changes) (records : List Record) (ways : Ways) (lists : List PackageList) (table : List Record) (others : ℕ) (declined more : Path → Type 0) → ((q : Path) → declined q → more q)
    → (ended : Ended) (old new : World) → HasLeftUnless c records ways lists table others declined ended old new → HasLeftUnless c records ways lists table others more ended old new
left_wider c records ways lists table others declined more wide Committed old new left = record {
  followed = left.followed;
  has_followed = committed_wider declined more wide c ways lists (put_records records table) old left.followed left.has_followed;
  removed = left.removed;
}
left_wider c records ways lists table others declined more wide (Unwound fall failed) old new left = left

pub same_end : (n : ℕ) (u : Option Unwinding) → end_place n u ≡ end_of n (ended_as u)
same_end n None = refl
same_end n (Some u) = refl

module _ (held : Administration) (ways : Ways) (rows : Rows) (works : List Work) (calls : List Row) (commit : PlannedCommit) where
  pub carried_out : (ended end : Ended) (mid : Holding) (after : Recorded) (end_of_lists : Filed) (old last new : State) (told now : List Called) → ended ≡ end
      → HasRunRows (HasBegun commit.members) (λ s. task_by s held ways works rows) calls ended mid old last told now
      → Silent last new
      → AtEachMoment (MayLeave (changes_from (own_name rows.found rows.incoming) rows.yields ways mid.lists mid.works commit) (records_from (own_name rows.found rows.incoming) rows.yields ways mid.lists mid.works commit mid.database.records) ways mid.lists mid.database.records (length rows.others.items) ended) last new
      → (IsTrue new.honest → HasLeft (changes_from (own_name rows.found rows.incoming) rows.yields ways mid.lists mid.works commit) (records_from (own_name rows.found rows.incoming) rows.yields ways mid.lists mid.works commit mid.database.records) ways mid.lists mid.database.records (length rows.others.items) ended last.world new.world)
      → (IsTrue new.honest → HasLeftUnless (changes_from (own_name rows.found rows.incoming) rows.yields ways mid.lists mid.works commit) (records_from (own_name rows.found rows.incoming) rows.yields ways mid.lists mid.works commit mid.database.records) ways mid.lists mid.database.records (length rows.others.items) (WasDenied last new) ended last.world new.world)
      → after.records ≡ ended_table ended (records_from (own_name rows.found rows.incoming) rows.yields ways mid.lists mid.works commit mid.database.records) mid.database.records
      → end_of_lists.lists ≡ ended_lists ended (changes_from (own_name rows.found rows.incoming) rows.yields ways mid.lists mid.works commit) ways mid.lists
      → HasCarriedOut (ground_by held ways rows.yields) (planned_from rows works calls commit) end after end_of_lists.lists old new told now
  carried_out ended end mid after end_of_lists old last new told now same ran silent may left stays table lists_are =
      let g = ground_by held ways rows.yields in
      let p = planned_from rows works calls commit in
      subst (λ e. HasCarriedOut g p e after end_of_lists.lists old new told now) same (record {
        mid = mid;
        last = last;
        ran = ran;
        since = silent;
        later = later _ last new may;
        leaves = left;
        stays = stays;
        records = table ∙ by_table ended;
        lists_are = lists_are ∙ by_lists ended;
      })
    where
      by_table : (e : Ended) → ended_table e (records_from (own_name rows.found rows.incoming) rows.yields ways mid.lists mid.works commit mid.database.records) mid.database.records
          ≡ end_table (ground_by held ways rows.yields) (planned_from rows works calls commit) e mid.works mid.lists mid.database.records
      by_table Committed = refl
      by_table (Unwound fall failed) = refl

      by_lists : (e : Ended) → ended_lists e (changes_from (own_name rows.found rows.incoming) rows.yields ways mid.lists mid.works commit) ways mid.lists
          ≡ end_lists (ground_by held ways rows.yields) (planned_from rows works calls commit) e mid.works mid.lists
      by_lists Committed = refl
      by_lists (Unwound fall failed) = refl
