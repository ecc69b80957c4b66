-- The lists of other packages at each moment of a unit.
use Rattle.std.proofs.Common.{◌≡◌, ◌≢◌, inl, inr, ℕ, cond, nat_le, length, List, Option, Some, Contains, refl, sym, ap, subst, ◌∙◌}
use Rattle.std.proofs.lemmas.Bool.{true≢false}
use Rattle.host_core.specs.Paths.{Path}
use Rattle.host_core.specs.World.{World, is_kept}
use Rattle.host_core.specs.Events.{Event, changes_of}
use Rattle.host_core.specs.Host.{State}
use Rattle.host_core.proofs.Scripts.{changed_kept}
use Rattle.host_core.specs.declared.node.Node.{Node}
use Rattle.administration.specs.Places.{list_path, temporary}
use Rattle.undo_rows.specs.Transcripts.{Ended, Committed, Unwound}
use Rattle.control_members.proofs.Apart.{no_list_temporary}
use Rattle.file_lists.specs.Taking.{left_file}
use Rattle.file_lists.specs.Writing.{left_paths, list_file}
use Rattle.file_lists.specs.declared.paths.PackageList.{PackageList}
use Rattle.file_removal.specs.Clearing.{cleared, is_among}
use Rattle.file_check.specs.Rearranged.{IsRearranged}
use Rattle.package_files.specs.declared.work.Work.{Work}
use Rattle.status_records.specs.Records.{record_in}
use Rattle.status_records.specs.declared.record.Record.{Record}
use Rattle.unpack_commit.specs.Commit.{Changes, HasCommitted, MayCommit, renewed_lists}
use Rattle.unpack_commit.specs.Takeover.{put_records, taken_places}
use Rattle.unpack_commit.proofs.Left.{list_within, no_other, same_list}
use Rattle.unpack_commit.proofs.Ready.{list_is_no_member, renewed_same}
use Rattle.unpack_commit.proofs.Stays.{no_renewed_place}
use Rattle.listed_files.specs.Closing.{HasReleased, HasRenewed, MayRelease, MayRenew}
use Rattle.listed_files.proofs.Apart.{list_below}
use Rattle.listed_files.proofs.Areas.{renewing_keeps}
use Rattle.listed_files.proofs.Listings.{all_miss}
use Rattle.unpack_plan.specs.Planned.{IsPlanned, Planned}
use Rattle.unpack_rows.specs.Kinds.{kinds_of}
use Rattle.unpack_rows.specs.Stages.{Stage, stage_of}
use Rattle.unpack_rows.specs.declared.rows.Present.{Present}
use Rattle.unpack_steps.specs.Clearing.{IsBesideOwn}
use Rattle.unpack_steps.specs.Task.{lists_at, state_on}
use Rattle.unpack_engine.specs.Units.{Given, Ground, IsAmidUnit, IsRunning, IsStage, MayLeave, MayLeaveBy, changes, commit_records, ground_of, job_of, last_place, package_name, table_after, task_from}
use Rattle.unpack_engine.proofs.Begun.{dropped_same, may_drop_same}
use Rattle.unpack_engine.proofs.ListEnds.{among}
use Rattle.unpack_laws.specs.InHand.{unit_name}
use Rattle.unpack_laws.specs.Info.{IsOtherList}
use Rattle.unpack_laws.proofs.Alone.{AreMoved, are_moved, based_amid, beginning_beside, begun_beside}
use Rattle.unpack_laws.proofs.Passing.{listed_then, loses_places, unnamed, with_other}
use Rattle.unpack_laws.proofs.Scripted.{IsSpared, amid_avoids, amid_there, come_avoids, come_there}

module _ (g : Given) (stored : Present) (p : Planned) (plan : IsPlanned (job_of g stored) p) (places : List Path) (q : List ℕ) (other : q ≢ unit_name g) where
  abbrev here : Ground
  here = ground_of g places

  abbrev own : List ℕ
  own = package_name here p

  abbrev theirs : Path
  theirs = list_path q

  abbrev Theirs : Option Node → Option Node → Type 0
  Theirs = IsOtherList g q

  ne : q ≢ own
  ne = unnamed g stored p plan places q other

  apart : (theirs ≢ list_path own) × (theirs ≢ temporary (list_path own))
  apart = (λ e. ne (same_list q own e), λ e. no_list_temporary q (list_path own) e)

  beside : IsBesideOwn own theirs
  beside = record { list = apart.0; members = λ member is. (list_is_no_member own q member is).0 }

  spared : IsSpared (list_path own) p.works theirs
  spared = record { unnoted = refl; unlisted = apart.0; unspared = apart.1; missed = all_miss p.works theirs plan.works_are.named (list_below q) }

  -- what follows the rows

  module _ (works : List Work) (begun : State) (stage : Stage) (moved : IsRearranged p.works works) (last : World) where
    abbrev lists : List PackageList
    lists = lists_at (task_from here p begun) stage

    abbrev c : Changes
    c = changes here p works lists

    abbrev Left : World → Type 0
    Left w = Theirs (last theirs) (w theirs)

    -- a package that loses places has its list without them
    left_is : Contains c.losers q → (w : World) → w theirs ≡ Some (left_file g.ways c.places (renewed_lists c g.ways lists) q) → Left w
    left_is has w is = IsOtherList.left (taken_places works) (loses_places g stored p plan places q other works begun stage moved has)
        (is ∙ ap (λ (l : List Path). Some (list_file (left_paths g.ways (taken_places works) q l))) (with_other own q ne lists p.new_list ∙ listed_then g stored p plan places q other begun stage))

    still : (v w : World) → w theirs ≡ v theirs → Left v → Left w
    still v w same = subst (Theirs (last theirs)) (sym same)

    renewing_theirs : (now : World) → MayRenew p.leaving (list_path own) (list_file p.new_list) last now → now theirs ≡ last theirs
    renewing_theirs now may = renewing_keeps p.leaving (list_path own) (list_file p.new_list) last now may theirs (no_renewed_place p.leaving (list_path own) theirs plan.lists_are.spares (list_within q) apart.0 apart.1)

    renewed_theirs : (renewed : World) → HasRenewed p.leaving (list_path own) (list_file p.new_list) last renewed → renewed theirs ≡ last theirs
    renewed_theirs renewed has = renewed_same p.leaving own (list_file p.new_list) last renewed plan.lists_are.spares has theirs (list_within q) apart.0 apart.1

    cleared_theirs : (v w : World) → w theirs ≡ cond (is_among p.names theirs) (cleared (v theirs)) (v theirs) → w theirs ≡ v theirs
    cleared_theirs v w is = is ∙ ap (λ b. cond b (cleared (v theirs)) (v theirs)) (plan.names_are.elsewhere theirs (list_within q))

    releasing_theirs : (v now : World) → v theirs ≡ last theirs → MayRelease g.ways c.places c.losers (renewed_lists c g.ways lists) c.names v now → Left now
    releasing_theirs v now same (inl is) = elim (among c.losers q) [
      | inl has ↦ elim (is.lists q has) [ inl kept ↦ IsOtherList.stood (kept ∙ same) | inr whole ↦ left_is has now whole ]
      | inr none ↦ IsOtherList.stood (is.rest theirs (no_other c.losers q none) ∙ same)
    ]
    releasing_theirs v now same (inr m) =
        let mid : Left m.0 = elim (among c.losers q) [
          | inl has ↦ left_is has m.0 (m.1.lists q has)
          | inr none ↦ IsOtherList.stood (m.1.rest theirs (no_other c.losers q none) ∙ same)
        ] in
        elim (m.3.each theirs) [
          | inl kept ↦ still m.0 now kept mid
          | inr gone ↦ absurd (true≢false (sym gone.0 ∙ plan.names_are.elsewhere theirs (list_within q)))
        ]

    released_theirs : (v released : World) → v theirs ≡ last theirs → HasReleased g.ways c.places c.losers (renewed_lists c g.ways lists) c.names v released → Left released
    released_theirs v released same has = elim (among c.losers q) [
      | inl loses ↦ left_is loses released (cleared_theirs has.mid released (has.cleared.each theirs) ∙ has.taken.lists q loses)
      | inr none ↦ IsOtherList.stood (cleared_theirs has.mid released (has.cleared.each theirs) ∙ has.taken.rest theirs (no_other c.losers q none) ∙ same)
    ]

    commit_theirs : (records before : List Record) (now : World) → MayCommit c g.ways lists records before last now → Left now
    commit_theirs records before now (MayCommit.renewing may has opens) = IsOtherList.stood (renewing_theirs now may)
    commit_theirs records before now (MayCommit.replacing renewed stale first is has opens) = IsOtherList.stood (is.rest theirs (list_is_no_member own q) ∙ renewed_theirs renewed first)
    commit_theirs records before now (MayCommit.releasing renewed kept_then stale first second whole may has opens) =
        releasing_theirs kept_then now (second.rest theirs (list_is_no_member own q) ∙ renewed_theirs renewed first) may
    commit_theirs records before now (MayCommit.noting renewed kept_then released stale first second whole third is) =
        still released now (is.rest theirs refl) (released_theirs kept_then released (second.rest theirs (list_is_no_member own q) ∙ renewed_theirs renewed first) third)

    committed_theirs : (after : List Record) (now : World) → HasCommitted c g.ways lists after last now → Left now
    committed_theirs after now has =
        still has.released now (has.noted.rest theirs refl) (released_theirs has.stored has.released (has.replaced.rest theirs (list_is_no_member own q) ∙ renewed_theirs has.renewed has.renewal) has.release)

  -- however the rows ended
  module _ (works : List Work) (begun : State) (stage : Stage) (table : List Record) (last now : World) where
    abbrev had : List PackageList
    had = lists_at (task_from here p begun) stage

    leave_theirs : (e : Ended) → AreMoved here p e works → MayLeave (changes here p works had) (commit_records here p works had table) g.ways had table (length p.others) e last now → Theirs (last theirs) (now theirs)
    leave_theirs Committed moved (MayLeaveBy.following may) = commit_theirs works begun stage moved last (commit_records here p works had table) table now may
    leave_theirs Committed moved (MayLeaveBy.clearing_away followed has opens laying) =
        still works begun stage moved last followed now (laying.rest theirs refl) (committed_theirs works begun stage moved last (put_records (commit_records here p works had table) table) followed has)
    leave_theirs (Unwound fall failed) moved (MayLeaveBy.following may) = IsOtherList.stood (may_drop_same (nat_le (length p.others) fall.row) (record_in table own) own last now theirs may apart.0)
    leave_theirs (Unwound fall failed) moved (MayLeaveBy.clearing_away followed has opens laying) = IsOtherList.stood (laying.rest theirs refl ∙ dropped_same (nat_le (length p.others) fall.row) (record_in table own) own last followed theirs has apart.0)

  pub stage_theirs : (old : World) (so_far : List Event) (now : World) → IsStage here p old so_far now → Theirs (old theirs) (now theirs)
  stage_theirs old so_far now (IsStage.running (IsRunning.beginning none may)) = IsOtherList.stood (beginning_beside here p theirs beside refl old now may)
  stage_theirs old so_far now (IsStage.running (IsRunning.running begun before more is none begins stops)) =
      let task = task_from here p (state_on begun stops.base) in
      let c = changes_of stops.since in
      IsOtherList.stood (amid_there task theirs spared plan.works_are.named _ c now stops.files ∙ changed_kept (is_kept places) c stops.base (amid_avoids task _ c now stops.files) theirs refl
      ∙ begun_beside here p theirs beside refl old stops.base (based_amid here p old begun _ now begins stops))
  stage_theirs old so_far now (IsStage.leaving ended works begun last begins are come may) =
      let task = task_from here p begun in
      let stage = stage_of (kinds_of p.found p.others) (last_place here p ended) in
      let c = changes_of so_far in
      subst (λ n. Theirs n (now theirs))
      (come_there task theirs spared plan.works_are.named (last_place here p ended) stage works are c last come ∙ changed_kept (is_kept places) c begun.world (come_avoids task stage works c last come) theirs refl
      ∙ begun_beside here p theirs beside refl old begun.world (last_place here p ended, begins))
      (leave_theirs works begun stage (table_after here p (last_place here p ended)) last now ended (are_moved here p begun ended stage works are) may)

pub theirs_unit : (g : Given) (places : List Path) (old now : World) (so_far : List Event) (q : List ℕ) → q ≢ unit_name g → IsAmidUnit g places old so_far now → IsOtherList g q (old (list_path q)) (now (list_path q))
theirs_unit g places old now so_far q other (inl looks) = IsOtherList.stood (ap (λ (w : World). w (list_path q)) looks.0)
theirs_unit g places old now so_far q other (inr amid) = stage_theirs g amid.plan_for.stored amid.plan amid.plan_for.planned places q other old so_far now amid.under_way.stage
