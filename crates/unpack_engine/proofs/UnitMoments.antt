-- What holds at each moment of a unit, from those of its rows and of what follows them.
use Rattle.std.proofs.Common.{◌≡◌, IsTrue, List, [], ◌++◌, length, inl, inr, refl, sym, ap, subst, ◌∙◌, append_assoc}
use Rattle.std.proofs.lemmas.List.{append-nil, append_cancel_left}
use Rattle.host_core.specs.Paths.{Path}
use Rattle.host_core.specs.World.{Change, World}
use Rattle.host_core.specs.Events.{Event, changes_of, scripts_of}
use Rattle.host_core.specs.Host.{State, Silent, AtEachMoment, AtEachMomentOf, Falls, Needs}
use Rattle.host_core.proofs.Moments.{since_then, since_weaker_if}
use Rattle.host_core.proofs.Scripts.{changes_of-append, no_change, silent_added, since_silent}
use Rattle.host_core.specs.Tree.{IsTree}
use Rattle.undo_rows.specs.declared.rows.Called.{Called}
use Rattle.undo_rows.specs.declared.rows.Row.{Row}
use Rattle.undo_rows.specs.Transcripts.{Ended}
use Rattle.control_members.specs.LaidOut.{IsLaying}
use Rattle.control_members.specs.declared.member.Member.{Member}
use Rattle.control_members.proofs.LaidOut.{incoming_absent}
use Rattle.diversions.specs.Ways.{Ways}
use Rattle.package_files.specs.declared.work.Work.{Work}
use Rattle.held_administration.specs.declared.held.Administration.{Administration}
use Rattle.unpack_plan.specs.Planned.{IsPlanned, Job, Planned, planned_from}
use Rattle.unpack_plan.specs.declared.plan.PlannedCommit.{PlannedCommit}
use Rattle.unpack_rows.specs.EndStates.{own_name}
use Rattle.unpack_steps.specs.At.{Holding}
use Rattle.unpack_steps.specs.Task.{task_by}
use Rattle.unpack_steps.specs.declared.plan.Rows.{Rows}
use Rattle.unpack_engine.specs.Endings.{changes_from, records_from}
use Rattle.held_administration.specs.Order.{IsInOrder}
use Rattle.unpack_engine.specs.Tables.{IsRunningByEither, IsUnderWayByEither}
use Rattle.unpack_engine.specs.Units.{Ground, HasBegun, HasRunRows, IsRunning, IsUnderWay, MayLeave, changes, commit_records, ground_by}
use Rattle.unpack_engine.proofs.AfterRows.{leaving_under_way}
use Rattle.unpack_engine.proofs.EndOrder.{plan_named}
use Rattle.unpack_engine.proofs.Order.{own_list, own_members}
use Rattle.unpack_engine.proofs.UnderWay.{run_under_way}

-- what script calls changed since the rows began is all that they changed in the unit
same_changes : (a begun b : State) (early late all more : List Event) → Silent a begun → begun.events ≡ a.events ++ early → b.events ≡ begun.events ++ late → b.events ≡ a.events ++ all
    → scripts_of more ≡ [] → changes_of (all ++ more) ≡ changes_of late
same_changes a begun b early late all more quiet first second whole none =
    let is : all ≡ early ++ late = append_cancel_left a.events all (early ++ late) (sym whole ∙ second ∙ ap (λ (l : List Event). l ++ late) first ∙ append_assoc a.events early late) in
    changes_of-append all more ∙ ap (λ (l : Change). changes_of all ++ l) (no_change more none) ∙ append-nil (changes_of all)
    ∙ ap changes_of is ∙ changes_of-append early late ∙ ap (λ (l : Change). l ++ changes_of late) (no_change early (silent_added a begun early quiet first))

-- by the parts of plans of the same rows
module _ (held : Administration) (rows : Rows) (calls : List Row)
    (a b : State) (order : Needs a (IsInOrder held.database held.lists.lists)) (tree : Needs a IsTree) where
  abbrev own : Path
  own = own_name rows.found rows.incoming

  abbrev g : Ways → Ground
  g ways = ground_by held ways rows.yields

  abbrev p : List Work → PlannedCommit → Planned
  p works commit = planned_from rows works calls commit

  -- while the rows run
  way : (ways : Ways) (works : List Work) (commit : PlannedCommit) (j : Job) → IsPlanned j (p works commit) → IsTrue a.honest → (so_far : List Event) (now : World)
      → IsRunning (HasBegun commit.members) IsLaying (λ s. task_by s held ways works rows) a.world so_far now → IsUnderWay (g ways) (p works commit) a.world so_far now
  way ways works commit j planned at so_far now is =
      let o = order at in
      let named = plan_named (g ways) j (p works commit) planned in
      run_under_way (g ways) (p works commit) named planned.works_are.named a.world (own_list held.database held.lists.lists a.world o own named) (own_members held.database held.lists.lists a.world o own named) o.loose
      (incoming_absent a.world (tree at) o.tmp) held.database o.kept refl so_far now is

  module _ (j : Job) (first late : Ways) (works : List Work) (commit : PlannedCommit) (planned : IsPlanned j (p works commit)) where
    either_way : IsTrue a.honest → (so_far : List Event) (now : World) → IsRunningByEither j held rows calls works first late commit a.world so_far now → IsUnderWayByEither j (p works commit) late (g first) a.world so_far now
    either_way at so_far now (inl rows_run) = inl (way first works commit j planned at so_far now rows_run)
    either_way at so_far now (inr (other, is, rows_run)) = inr (
      p other is.behind,
      is.planned,
      way late other is.behind (record j { ways = late }) is.planned at so_far now
          (subst (λ (m : List Member). IsRunning (HasBegun m) IsLaying (λ s. task_by s held late other rows) a.world so_far now) (sym is.members) rows_run),
    )

    pub plan_begins : AtEachMomentOf (IsRunningByEither j held rows calls works first late commit) a b → AtEachMomentOf (IsUnderWayByEither j (p works commit) late (g first)) a b
    plan_begins moments = since_weaker_if (IsRunningByEither j held rows calls works first late commit a.world) (IsUnderWayByEither j (p works commit) late (g first) a.world) a b
        (λ h so_far now is. either_way (moments.honest h) so_far now is) moments

    -- and behind them, by the plan that was carried out
    module _ (c : State) (ended : Ended) (mid : Holding) (told now : List Called) (shipped : List Work) (then : PlannedCommit) (again : IsPlanned (record j { ways = late }) (p shipped then))
        (ran : HasRunRows (HasBegun then.members) (λ s. task_by s held late shipped rows) calls ended mid a b told now) (silent : Silent b c)
        (second : AtEachMoment (MayLeave (changes_from own rows.yields late mid.lists mid.works then) (records_from own rows.yields late mid.lists mid.works then mid.database.records) late mid.lists mid.database.records (length rows.others.items) ended) b c) where
      abbrev MayEnd : World → Type 0
      MayEnd = MayLeave (changes (g late) (p shipped then) mid.works mid.lists) (commit_records (g late) (p shipped then) mid.works mid.lists mid.database.records) late mid.lists mid.database.records (length rows.others.items) ended b.world

      ends : (added : List Event) → b.events ≡ a.events ++ added → Falls a b → IsTrue c.honest → (so_far : List Event) (w : World) → MayEnd w × (scripts_of so_far ≡ []) → IsUnderWay (g late) (p shipped then) a.world (added ++ so_far) w
      ends added events falls h so_far w is =
          let at_b = second.honest h in
          let at_a = falls at_b in
          let o = order at_a in
          let named = plan_named (g late) (record j { ways = late }) (p shipped then) again in
          leaving_under_way (g late) (p shipped then) named again.works_are.named a.world (own_list held.database held.lists.lists a.world o own named) (own_members held.database held.lists.lists a.world o own named) o.loose
          (incoming_absent a.world (tree at_a) o.tmp) mid ran.begun b (ran.begins_so at_b) at_b ended ran.rows_end again.lists_are.spares again.names_are.elsewhere (added ++ so_far) w
          (same_changes a ran.begun b ran.until.added ran.rows_end.since added so_far ran.quiet ran.until.events ran.rows_end.events events is.1) is.0

      pub plan_moments : AtEachMomentOf (IsRunningByEither j held rows calls works first late commit) a b → AtEachMomentOf (IsUnderWayByEither j (p works commit) late (g first)) a c
      plan_moments moments =
          let begins = plan_begins moments in
          since_then (IsUnderWayByEither j (p works commit) late (g first) a.world) a b c begins
          (since_weaker_if (λ so_far w. MayEnd w × (scripts_of so_far ≡ [])) (λ so_far. IsUnderWayByEither j (p works commit) late (g first) a.world (begins.added ++ so_far)) b c
          (λ h so_far w is. inr (p shipped then, again, ends begins.added begins.events begins.honest h so_far w is)) (since_silent (λ so_far. MayEnd) b c silent second))
