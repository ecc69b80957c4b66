-- A unit whose files go by the table as it was read behind the scripts before them: what its carrying out says of the whole.
use Rattle.std.proofs.Common.{◌≡◌, ◌++◌, ℕ, IsTrue, List, Option, subst}
use Rattle.std.specs.Prelude.{IfOk, Ok, Result}
use Rattle.diversions.specs.Ways.{Ways}
use Rattle.file_lists.specs.Lists.{HasLists}
use Rattle.file_lists.specs.declared.paths.PackageList.{PackageList}
use Rattle.held_administration.specs.Order.{IsInOrder, record_names}
use Rattle.host_core.specs.Host.{Needs, Reads, Silent, State}
use Rattle.host_core.specs.Paths.{Path}
use Rattle.package_tree.specs.declared.package.Package.{Package}
use Rattle.status_db.specs.Held.{IsKept}
use Rattle.status_db.specs.Recorded.{Recorded}
use Rattle.status_records.specs.declared.record.Record.{Record}
use Rattle.undo_rows.specs.Transcripts.{Ended}
use Rattle.undo_rows.specs.declared.rows.Called.{Called}
use Rattle.undo_rows.specs.declared.rows.Row.{Row}
use Rattle.unpack_commit.specs.Takeover.{yields_of}
use Rattle.unpack_plan.specs.Planned.{Job, Planned}
use Rattle.unpack_rows.specs.declared.rows.Present.{Present}
use Rattle.unpack_engine.specs.Tables.{HasCarriedOutPlan, IsJobOf}
use Rattle.unpack_engine.specs.Units.{Given, Ground, HasCarriedOut, HasReadAgain, IsPlanFor, IsReadAgain, ground, ground_of, job_of}
use Rattle.unpack_engine.proofs.Again.{read_earlier}
use Rattle.unpack_engine.proofs.EndLists.{listed_if_ok}
use Rattle.unpack_engine.proofs.EndOrder.{order_if_ok}
use Rattle.unpack_engine.proofs.Planning.{carried_late}
use Rattle.unpack_engine.proofs.Sequel.{if_ok_one}

-- it is of what was given, with the yielding packages that the plan had
pub by_job : {T E : Type 0} (result : Result T E) (g : Given) (late : Ways) (places : List Path) (stored : Present) (plan : Planned) (spare : Option Package) (mid new : State) (told now : List Called) (after : Recorded) (lists : List PackageList)
    (ended : T → Ended) (yields : List (List ℕ)) → yields ≡ yields_of g.records ++ g.yields → IsJobOf (job_of g stored) plan g.lists g.ways spare
    → IfOk result (λ u. (j : Job) → IsJobOf j plan g.lists g.ways spare → HasCarriedOutPlan (record j { ways = late }) (ground g.records g.lists late places yields) plan.rows (ended u) after lists mid new told now)
    → IfOk result (λ u. HasCarriedOutPlan (job_of (record g { ways = late }) stored) (ground_of (record g { ways = late }) places) plan.rows (ended u) after lists mid new told now)
by_job result g late places stored plan spare mid new told now after lists ended yields same of done =
    if_ok_one result (λ u. (j : Job) → IsJobOf j plan g.lists g.ways spare → HasCarriedOutPlan (record j { ways = late }) (ground g.records g.lists late places yields) plan.rows (ended u) after lists mid new told now)
    (λ u. HasCarriedOutPlan (job_of (record g { ways = late }) stored) (ground_of (record g { ways = late }) places) plan.rows (ended u) after lists mid new told now)
    (λ u has. subst (λ (ys : List (List ℕ)). HasCarriedOutPlan (job_of (record g { ways = late }) stored) (ground g.records g.lists late places ys) plan.rows (ended u) after lists mid new told now) same (has (job_of g stored) of)) done

module _ (g : Given) (ways : Ways) (places : List Path) (old mid : State) (reads : Reads old mid) (silent : Silent old mid) (plan : Planned) (plan_for : IsPlanFor g old.world mid.honest plan) (new : State)
    (falls : IsTrue new.honest → IsTrue mid.honest) where
  abbrev late : Given
  late = record g { ways = ways }

  -- the table was read again in the whole unit, which began with that of what was given
  pub reads_late : IsReadAgain g.lists plan g.ways ways mid new → (other : Planned) × IsPlanFor g old.world new.honest other × IsReadAgain g.lists other g.ways ways old new
  reads_late read = (plan, record { stored = plan_for.stored; seen = λ h. plan_for.seen (falls h); planned = plan_for.planned }, read_earlier g.lists plan g.ways ways old mid new reads silent read)

  module _ (told now : List Called) (ended : Ended) (before after : Recorded) (lists : List PackageList) (rows : List Row) (same : before.records ≡ g.records)
      (has : HasCarriedOutPlan (job_of late plan_for.stored) (ground_of late places) rows ended after lists mid new told now) where
    carried : HasCarriedOut (ground_of late places) has.plan ended after lists old new told now
    carried = carried_late g ways places old mid reads silent plan plan_for new falls told now ended after lists rows has

    pub order_late : (IsTrue new.honest → IsKept after new.world) → Needs old (IsInOrder before g.lists) → Needs new (IsInOrder after lists)
    order_late kept order =
        order_if_ok {T = Ended} {E = Ended} (Ok ended) (ground_of late places) (job_of late plan_for.stored) has.plan has.planned (λ e. e) before after g.lists lists old new told now order carried kept
        (listed_if_ok {T = Ended} {E = Ended} (Ok ended) late plan_for.stored has.plan places after lists has.planned (λ e. e) old new told now (λ h. subst (λ (rs : List Record). ∥ HasLists old.world (record_names rs) g.lists ∥₁) same (order h).listed) has.texts carried)
