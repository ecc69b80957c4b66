-- The stored control files of the package at each moment of a unit.
use Rattle.std.proofs.Common.{◌≡◌, ◌≢◌, ◌⊎◌, inl, inr, ℕ, Bool, true, false, cond, nat_le, length, List, Option, Some, None, refl, sym, ap, subst, ◌∙◌}
use Rattle.host_core.specs.Paths.{Path}
use Rattle.host_core.specs.World.{World, is_kept}
use Rattle.host_core.specs.Events.{Event, changes_of}
use Rattle.host_core.proofs.Scripts.{changed_kept}
use Rattle.host_core.specs.declared.node.Node.{Node}
use Rattle.administration.specs.Places.{list_path, temporary}
use Rattle.undo_rows.specs.Transcripts.{Ended, Committed, Unwound}
use Rattle.control_members.specs.Members.{member_node}
use Rattle.control_members.specs.Names.{is_member_name}
use Rattle.control_members.specs.Stored.{is_among, over, stored_member_path}
use Rattle.file_lists.specs.Writing.{list_file}
use Rattle.file_lists.specs.declared.paths.PackageList.{PackageList}
use Rattle.package_files.specs.declared.work.Work.{Work}
use Rattle.status_records.specs.Records.{record_in}
use Rattle.status_records.specs.declared.record.Record.{Record}
use Rattle.unpack_commit.specs.Commit.{Changes, MayCommit, renewed_lists}
use Rattle.unpack_commit.specs.Takeover.{put_records}
use Rattle.unpack_commit.proofs.Left.{member_within, members_stored}
use Rattle.unpack_commit.proofs.Ready.{member_is_no_list}
use Rattle.unpack_commit.proofs.Stays.{no_renewed_place}
use Rattle.listed_files.proofs.Areas.{released_keeps, releasing_keeps, renewed_keeps, renewing_keeps}
use Rattle.listed_files.proofs.Listings.{all_miss}
use Rattle.unpack_plan.specs.Planned.{IsPlanned, Planned}
use Rattle.unpack_rows.specs.Kinds.{kinds_of}
use Rattle.unpack_rows.specs.Stages.{stage_of}
use Rattle.unpack_rows.specs.declared.rows.Present.{Present}
use Rattle.unpack_steps.specs.Task.{lists_at, state_on}
use Rattle.unpack_steps.specs.Clearing.{MayClear, is_gone, next_ready}
use Rattle.unpack_engine.specs.Units.{Given, Ground, IsAmidUnit, IsRunning, IsStage, MayLeave, MayLeaveBy, changes, commit_records, ground_of, job_of, last_place, package_name, table_after, task_from}
use Rattle.unpack_engine.proofs.Begun.{dropped_same, may_drop_same}
use Rattle.unpack_laws.specs.InHand.{unit_name}
use Rattle.unpack_laws.specs.Info.{IsOwnMember}
use Rattle.unpack_laws.proofs.Alone.{Based, based_amid}
use Rattle.unpack_laws.proofs.Scripted.{IsSpared, amid_avoids, amid_there, come_avoids, come_there}

module _ (g : Given) (stored : Present) (p : Planned) (plan : IsPlanned (job_of g stored) p) (places : List Path) (member : Path) (named : is_member_name member ≡ true) where
  abbrev here : Ground
  here = ground_of g places

  abbrev own : List ℕ
  own = package_name here p

  abbrev file : Path
  file = stored_member_path own member

  abbrev Own : Option Node → Option Node → Type 0
  Own = IsOwnMember g member

  apart : (file ≢ list_path own) × (file ≢ temporary (list_path own))
  apart = member_is_no_list own member own named

  spared : IsSpared (list_path own) p.works file
  spared = record { unnoted = refl; unlisted = apart.0; unspared = apart.1; missed = all_miss p.works file plan.works_are.named refl }

  stores : (before now : Option Node) → now ≡ member_node p.members member → Own before now
  stores before now is = IsOwnMember.stored p.members plan.members_are is

  -- the new one where there is one; else none, or what stood there
  replaced_is : (new : Option Node) (b : Bool) (stood now : Option Node) → new ≡ member_node p.members member → now ≡ over new (cond b None stood) → (now ≡ stood) ⊎ ((now ≡ None) ⊎ (now ≡ member_node p.members member))
  replaced_is (Some n) b stood now new is = inr (inr (is ∙ new))
  replaced_is None true stood now new is = inr (inl is)
  replaced_is None false stood now new is = inl is

  -- how it begins

  going_file : (gone goes : Bool) (v w : World) → MayClear gone goes own v w → Own (v file) (w file)
  going_file true goes v w has = IsOwnMember.gone (has.members member named)
  going_file false true v w may = elim (may.members member named) [ inl same ↦ IsOwnMember.stood same | inr none ↦ IsOwnMember.gone none ]
  going_file false false v w same = IsOwnMember.stood (ap (λ (x : World). x file) same)

  still : (before : Option Node) (v w : World) → w file ≡ v file → Own before (v file) → Own before (w file)
  still before v w same = subst (Own before) (sym same)

  begun_file : (old new : World) → Based here p old new → Own (old file) (new file)
  begun_file old new begins =
      subst (λ n. Own n (new file)) (begins.1.begins.lays file refl)
      (going_file (is_gone p.found (length p.others) begins.0) (is_gone p.found (length p.others) (next_ready begins.0)) begins.1.begun new begins.1.clears)

  -- what follows the rows
  module _ (works : List Work) (lists : List PackageList) (before : Option Node) (last : World) (was : Own before (last file)) where
    abbrev c : Changes
    c = changes here p works lists

    kept : (now : World) → now file ≡ last file → Own before (now file)
    kept now same = still before last now same was

    replacing_file : (renewed now : World) → renewed file ≡ last file
        → (now file ≡ renewed file) ⊎ ((now file ≡ None) ⊎ (now file ≡ member_node p.members member)) → Own before (now file)
    replacing_file renewed now same (inl is) = kept now (is ∙ same)
    replacing_file renewed now same (inr (inl none)) = IsOwnMember.gone none
    replacing_file renewed now same (inr (inr new)) = stores before (now file) new

    commit_file : (records table : List Record) (now : World) → MayCommit c g.ways lists records table last now → Own before (now file)
    commit_file records table now (MayCommit.renewing may has opens) =
        kept now (renewing_keeps p.leaving (list_path own) (list_file p.new_list) last now may file (no_renewed_place p.leaving (list_path own) file plan.lists_are.spares (member_within own member) apart.0 apart.1))
    commit_file records table now (MayCommit.replacing renewed stale first is has opens) =
        let same = renewed_keeps p.leaving (list_path own) (list_file p.new_list) last renewed first file (no_renewed_place p.leaving (list_path own) file plan.lists_are.spares (member_within own member) apart.0 apart.1) in
        elim (is.own member named) [
          | inl stays ↦ kept now (stays ∙ same)
          | inr new ↦ replacing_file renewed now same (replaced_is (member_node p.members member) (is_among stale member) (renewed file) (now file) refl new)
        ]
    commit_file records table now (MayCommit.releasing renewed stored_then stale first second whole may has opens) =
        stores before (now file)
        (releasing_keeps g.ways c.places c.losers (renewed_lists c g.ways lists) c.names stored_then now file may (λ n loses. member_is_no_list own member n named) (plan.names_are.elsewhere file (member_within own member))
        ∙ whole member named)
    commit_file records table now (MayCommit.noting renewed stored_then released stale first second whole third is) =
        stores before (now file)
        (is.rest file refl
        ∙ released_keeps g.ways c.places c.losers (renewed_lists c g.ways lists) c.names stored_then released file third (λ n loses. member_is_no_list own member n named) (plan.names_are.elsewhere file (member_within own member))
        ∙ whole member named)

    module _ (table : List Record) (now : World) where
      leave_file : (e : Ended) → MayLeave c (commit_records here p works lists table) g.ways lists table (length p.others) e last now → Own before (now file)
      leave_file Committed (MayLeaveBy.following may) = commit_file (commit_records here p works lists table) table now may
      leave_file Committed (MayLeaveBy.clearing_away followed has opens laying) =
          stores before (now file) (laying.rest file refl ∙ members_stored c g.ways lists last (put_records (commit_records here p works lists table) table) followed plan.names_are.elsewhere has member named)
      leave_file (Unwound fall failed) (MayLeaveBy.following may) = kept now (may_drop_same (nat_le (length p.others) fall.row) (record_in table own) own last now file may apart.0)
      leave_file (Unwound fall failed) (MayLeaveBy.clearing_away followed has opens laying) = kept now (laying.rest file refl ∙ dropped_same (nat_le (length p.others) fall.row) (record_in table own) own last followed file has apart.0)

  stage_file : (old : World) (so_far : List Event) (now : World) → IsStage here p old so_far now → Own (old file) (now file)
  stage_file old so_far now (IsStage.running (IsRunning.beginning none may)) = IsOwnMember.stood (may.rest file refl)
  stage_file old so_far now (IsStage.running (IsRunning.running begun before more is none begins stops)) =
      let task = task_from here p (state_on begun stops.base) in
      let c = changes_of stops.since in
      still (old file) stops.base now
      (amid_there task file spared plan.works_are.named _ c now stops.files ∙ changed_kept (is_kept places) c stops.base (amid_avoids task _ c now stops.files) file refl) (begun_file old stops.base (based_amid here p old begun _ now begins stops))
  stage_file old so_far now (IsStage.leaving ended works begun last begins are come may) =
      let task = task_from here p begun in
      let stage = stage_of (kinds_of p.found p.others) (last_place here p ended) in
      let c = changes_of so_far in
      leave_file works (lists_at task stage) (old file) last
      (still (old file) begun.world last
      (come_there task file spared plan.works_are.named (last_place here p ended) stage works are c last come ∙ changed_kept (is_kept places) c begun.world (come_avoids task stage works c last come) file refl) (begun_file old begun.world (last_place here p ended, begins)))
      (table_after here p (last_place here p ended)) now ended may

  pub file_planned : (old : World) (so_far : List Event) (now : World) → IsStage here p old so_far now → IsOwnMember g member (old (stored_member_path (unit_name g) member)) (now (stored_member_path (unit_name g) member))
  file_planned old so_far now stage = subst (λ (n : List ℕ). IsOwnMember g member (old (stored_member_path n member)) (now (stored_member_path n member))) plan.records_are.own (stage_file old so_far now stage)

pub member_unit : (g : Given) (places : List Path) (old now : World) (so_far : List Event) (member : Path) → is_member_name member ≡ true → IsAmidUnit g places old so_far now
    → IsOwnMember g member (old (stored_member_path (unit_name g) member)) (now (stored_member_path (unit_name g) member))
member_unit g places old now so_far member named (inl looks) = IsOwnMember.stood (ap (λ (w : World). w (stored_member_path (unit_name g) member)) looks.0)
member_unit g places old now so_far member named (inr amid) = file_planned g amid.plan_for.stored amid.plan amid.plan_for.planned places member named old so_far now amid.under_way.stage
