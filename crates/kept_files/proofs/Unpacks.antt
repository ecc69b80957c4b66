-- A file of another package through the whole unit of an unpack, and at each moment of it.
use Rattle.std.proofs.Common.{◌≡◌, ◌≢◌, ◌⊎◌, inl, inr, ℕ, Bool, false, List, ◌∷◌, Option, IsTrue, Contains, length, nat_le, true, refl, sym, ap, subst, ◌∙◌}
use Rattle.host_core.specs.Paths.{Path}
use Rattle.host_core.specs.World.{World, IsLoose, is_kept, kind_of}
use Rattle.host_core.specs.Events.{Event, changes_of}
use Rattle.host_core.specs.Host.{State}
use Rattle.undo_rows.specs.declared.rows.Called.{Called}
use Rattle.undo_rows.specs.declared.rows.Row.{Row}
use Rattle.undo_rows.specs.Transcripts.{Ended, Committed, Unwound}
use Rattle.file_check.specs.Clashes.{claims, owning}
use Rattle.file_check.specs.Index.{is_made, is_twice}
use Rattle.file_check.specs.Sound.{AllSound}
use Rattle.file_lists.specs.declared.paths.PackageList.{PackageList}
use Rattle.package_files.specs.declared.work.Work.{Work}
use Rattle.package_files.specs.Files.{Each}
use Rattle.status_db.specs.Recorded.{Recorded}
use Rattle.status_records.specs.Records.{record_in}
use Rattle.status_records.specs.declared.record.Record.{Record}
use Rattle.unpack_commit.specs.Areas.{IsUntouched}
use Rattle.unpack_commit.specs.Takeover.{put_records}
use Rattle.unpack_commit.proofs.Left.{committed_keeps}
use Rattle.unpack_plan.specs.Members.{scripts_in}
use Rattle.unpack_plan.specs.Planned.{IsPlanned, Planned}
use Rattle.unpack_rows.specs.ForwardRows.{files_row, records_of}
use Rattle.unpack_rows.specs.Kinds.{kinds_of}
use Rattle.unpack_rows.specs.Stages.{Stage, Unwritten, stage_of}
use Rattle.unpack_rows.specs.declared.rows.Present.{Present}
use Rattle.unpack_steps.specs.At.{AreWorksAt}
use Rattle.unpack_steps.specs.Clearing.{IsBesideOwn}
use Rattle.unpack_steps.specs.Task.{Task, state_on}
use Rattle.unpack_steps.specs.Trail.{HasCome}
use Rattle.unpack_engine.specs.Units.{Begins, BeginsAt, Given, Ground, HasCarriedOut, HasFollowed, HasUnpacked, IsAmidUnit, IsRunning, IsStage, changes, commit_records, ground_of, job_of, last_place, package_name, table_after, task_from}
use Rattle.unpack_engine.proofs.Begun.{dropped_same}
use Rattle.unpack_engine.proofs.Cleared.{begun_at, works_on}
use Rattle.unpack_laws.specs.InHand.{unit_name, unit_works}
use Rattle.unpack_laws.proofs.Alone.{are_moved, based_amid, beginning_same, begun_same, leave_same}
use Rattle.unpack_laws.proofs.Passing.{outside_list, outside_member, outside_records, outside_tmp, own_is, works_are}
use Rattle.kept_files.specs.Kept.{IsFoundSound, IsHeldFile, IsHeldPlace, IsPackagePlace, unit_owning}
use Rattle.kept_files.proofs.Aside.{aside}
use Rattle.kept_files.proofs.Sounds.{sound_at, spares_sound, unclaimed}
use Rattle.kept_files.proofs.Succeeding.{AreBeside, WasSound, files_among, rows_beside, sound_committed, sound_unwound}
use Rattle.kept_files.proofs.Trails.{IsHere, come_leaves, rows_leave, unwritten_leaves}
use Rattle.kept_files.proofs.Works.{Spares}

module _ (g : Given) (stored : Present) (p : Planned) (plan : IsPlanned (job_of g stored) p) (places : List Path) (q : Path) (packaged : IsPackagePlace q) (held : IsHeldPlace g q) (kept : is_kept places q ≡ true) where
  abbrev here : Ground
  here = ground_of g places

  abbrev own : List ℕ
  own = package_name here p

  abbrev task : State → Task
  task begun = task_from here p begun

  is_here : (begun : State) → IsHere (task begun) q
  is_here begun = record {
    unnoted = outside_records q packaged.outside;
    unlisted = (outside_list q packaged.outside own).0;
    unspared = (outside_list q packaged.outside own).1;
    kept = kept;
  }

  beside_own : IsBesideOwn own q
  beside_own = record { list = (outside_list q packaged.outside own).0; members = λ member is. (outside_member q packaged.outside own member).0 }

  -- sound works leave it alone
  spare_all : (w : World) (old : World) → w q ≡ old q → IsLoose (old q) → AllSound (unit_owning g) p.works w → Each (Spares q (old q)) p.works
  spare_all w old is loose sound =
      subst (λ n. Each (Spares q n) p.works) is
      (spares_sound g q packaged.plain held (is_made p.works w) (is_twice p.works) w (subst IsLoose (sym is) loose) p.works plan.works_are.named sound)

  named_sound : (w : World) → AllSound (owning g.ways g.lists here.yields own) p.works w → AllSound (unit_owning g) p.works w
  named_sound w sound = subst (λ (n : List ℕ). AllSound (owning g.ways g.lists here.yields n) p.works w) (own_is g stored p plan places) sound

  -- in the end
  module _ (ended : Ended) (after : Recorded) (lists : List PackageList) (old new : State) (told now : List Called) (out : HasCarriedOut here p ended after lists old new told now) (honest : IsTrue new.honest) where
    last_honest : IsTrue out.last.honest
    last_honest = out.since.honest honest

    begins : Begins here p old.world out.ran.begun.world
    begins = out.ran.begins_so last_honest

    begun_is : out.ran.begun.world q ≡ old.world q
    begun_is = begins.lays q (outside_tmp q packaged.outside)

    based : BeginsAt here p (last_place here p ended) old.world out.ran.rows_end.base
    based = begun_at here p (last_place here p ended) old.world out.ran.begun out.mid out.last begins out.ran.rows_end last_honest

    base_is : out.ran.rows_end.base q ≡ old.world q
    base_is = begun_same here p q (aside g stored p plan places q packaged held.held) old.world out.ran.rows_end.base (last_place here p ended, based)

    abbrev on : Task
    on = task (state_on out.ran.begun out.ran.rows_end.base)

    come : HasCome on (stage_of (kinds_of p.found p.others) (last_place here p ended)) out.mid.works (changes_of out.ran.rows_end.since) out.last.world
    come = (out.ran.rows_end.world last_honest).came

    works_there : AreWorksAt on (last_place here p ended) (stage_of (kinds_of p.found p.others) (last_place here p ended)) out.mid.works
    works_there = works_on here p (last_place here p ended) out.ran.begun out.ran.rows_end.base out.mid.works out.ran.rows_end.works

    last_sound : IsLoose (old.world q) → WasSound (task out.ran.begun) q (is_here out.ran.begun) beside_own → out.last.world q ≡ old.world q
    last_sound loose was =
        come_leaves on q (old.world q) (is_here (state_on out.ran.begun out.ran.rows_end.base)) base_is plan.works_are.named
        (spare_all was.found old.world (was.stands ∙ begun_is) loose (named_sound was.found was.sound))
        (last_place here p ended) (stage_of (kinds_of p.found p.others) (last_place here p ended)) out.mid.works works_there (changes_of out.ran.rows_end.since) out.last.world come

    last_unwritten : stage_of (kinds_of p.found p.others) (last_place here p ended) ≡ Unwritten → out.last.world q ≡ old.world q
    last_unwritten is =
        unwritten_leaves on q (old.world q) (is_here (state_on out.ran.begun out.ran.rows_end.base)) base_is (changes_of out.ran.rows_end.since) out.last.world
        (subst (λ (s : Stage). HasCome on s out.mid.works (changes_of out.ran.rows_end.since) out.last.world) is come)

    -- behind the rows
    untouched : IsUntouched (changes here p out.mid.works out.mid.lists) q
    untouched =
        let off = aside g stored p plan places q packaged held.held in
        record {
          stays = off.stays;
          uncleared = off.uncleared;
          unlisted = λ n has. outside_list q packaged.outside n;
          no_member = off.no_member;
          unnoted = off.unnoted;
        }

    followed_is : (e : Ended) (v w : World) (table : List Record)
        → HasFollowed (changes here p out.mid.works out.mid.lists) (commit_records here p out.mid.works out.mid.lists table) g.ways out.mid.lists table (length p.others) e v w → w q ≡ v q
    followed_is Committed v w table has =
        committed_keeps (changes here p out.mid.works out.mid.lists) g.ways out.mid.lists v (put_records (commit_records here p out.mid.works out.mid.lists table) table) w q has untouched
    followed_is (Unwound fall failed) v w table has =
        dropped_same (nat_le (length p.others) fall.row) (record_in table own) own v w q has (outside_list q packaged.outside own).0

    behind : new.world q ≡ out.last.world q
    behind =
        let left = out.leaves honest in
        left.removed.rest q (outside_tmp q packaged.outside) ∙ followed_is ended out.last.world left.followed out.mid.database.records left.has_followed

  module _ (after : Recorded) (lists : List PackageList) (old new : State) (told now : List Called) (out : HasCarriedOut here p Committed after lists old new told now) (honest : IsTrue new.honest) where
    was_sound : WasSound (task out.ran.begun) q (is_here out.ran.begun) beside_own
    was_sound =
        sound_committed (task out.ran.begun) q (is_here out.ran.begun) beside_own p.rows out.ran.begun out.last told now (out.since.honest honest)
        (subst (λ (rows : List Row). Contains rows files_row) (sym plan.rows_are.rows_are) (files_among p.found p.incoming stored (scripts_in g.«package».scripts) g.others))
        out.ran.run

    pub none_claims : (x : Work) → Contains (unit_works g) x → x.place ≡ q → claims x.node (kind_of (old.world q)) ≡ false
    none_claims x there at =
        let found = was_sound.found in
        ap (λ n. claims x.node (kind_of n)) (sym (was_sound.stands ∙ begun_is Committed after lists old new told now out honest))
        ∙ unclaimed g q held (is_made p.works found) (is_twice p.works) found x at
        (sound_at (unit_owning g) (is_made p.works found) (is_twice p.works) found p.works x (named_sound found was_sound.sound) (subst (λ (l : List Work). Contains l x) (sym (works_are g stored p plan places)) there))

  pub carried_out : (ended : Ended) (after : Recorded) (lists : List PackageList) (old new : State) (told now : List Called) → HasCarriedOut here p ended after lists old new told now → IsTrue new.honest → IsLoose (old.world q) → new.world q ≡ old.world q
  carried_out Committed after lists old new told now out honest loose =
      behind Committed after lists old new told now out honest
      ∙ last_sound Committed after lists old new told now out honest loose (was_sound after lists old new told now out honest)
  carried_out (Unwound fall failed) after lists old new told now out honest loose =
      behind (Unwound fall failed) after lists old new told now out honest
      ∙ elim (sound_unwound (task out.ran.begun) q (is_here out.ran.begun) beside_own p.rows out.ran.begun out.last told now (out.since.honest honest) (kinds_of p.found p.others)
      (subst (λ (rs : List Record). AreBeside (kinds_of p.found rs) p.rows) (sym plan.rows_are.others_are)
      (subst (λ (rows : List Row). AreBeside (kinds_of p.found (records_of g.others)) rows) (sym plan.rows_are.rows_are)
      (rows_beside p.found p.incoming stored (scripts_in g.«package».scripts) g.others))) fall failed out.ran.run) [
        | inl unwritten ↦ last_unwritten (Unwound fall failed) after lists old new told now out honest unwritten
        | inr was ↦ last_sound (Unwound fall failed) after lists old new told now out honest loose was
      ]

  -- at each moment
  module _ (old : World) (spare : Each (Spares q (old q)) p.works) where
    pub stage_leaves : (so_far : List Event) (now : World) → IsStage here p old so_far now → now q ≡ old q
    stage_leaves so_far now (IsStage.running (IsRunning.beginning none may)) = beginning_same here p q (aside g stored p plan places q packaged held.held) old now may
    stage_leaves so_far now (IsStage.running (IsRunning.running begun before more is none begins stops)) =
        rows_leave (task (state_on begun stops.base)) q (old q) (is_here (state_on begun stops.base))
        (begun_same here p q (aside g stored p plan places q packaged held.held) old stops.base (based_amid here p old begun _ now begins stops))
        plan.works_are.named spare _ (changes_of stops.since) now stops.files
    stage_leaves so_far now (IsStage.leaving ended works begun last begins are come may) =
        leave_same here p q (aside g stored p plan places q packaged held.held) works begun (stage_of (kinds_of p.found p.others) (last_place here p ended)) (table_after here p (last_place here p ended)) ended (are_moved here p begun ended _ works are) last now may
        ∙ come_leaves (task begun) q (old q) (is_here begun) (begun_same here p q (aside g stored p plan places q packaged held.held) old begun.world (last_place here p ended, begins)) plan.works_are.named spare
        (last_place here p ended) _ works are (changes_of so_far) last come

pub unit_claims : (g : Given) (places : List Path) (after : Recorded) (lists : List PackageList) (old new : State) (told now : List Called) (q : Path) (x : Work) → HasUnpacked g places Committed after lists old new told now → IsTrue new.honest
    → IsHeldFile g places old.world q → Contains (unit_works g) x → x.place ≡ q → claims x.node (kind_of (old.world q)) ≡ false
unit_claims g places after lists old new told now q x unit honest held there at =
    none_claims g unit.plan_for.stored unit.plan unit.plan_for.planned places q held.packaged held.place held.kept after lists old new told now unit.carried_out honest x there at

pub unit_leaves : (g : Given) (places : List Path) (ended : Ended) (after : Recorded) (lists : List PackageList) (old new : State) (told now : List Called) (q : Path) → HasUnpacked g places ended after lists old new told now → IsTrue new.honest
    → IsHeldFile g places old.world q → new.world q ≡ old.world q
unit_leaves g places ended after lists old new told now q unit honest held =
    carried_out g unit.plan_for.stored unit.plan unit.plan_for.planned places q held.packaged held.place held.kept ended after lists old new told now unit.carried_out honest held.stands

pub amid_leaves : (g : Given) (places : List Path) (old seen now : World) (so_far : List Event) (q : Path) → IsHeldFile g places old q → seen q ≡ old q → IsFoundSound g seen → IsAmidUnit g places old so_far now → now q ≡ old q
amid_leaves g places old seen now so_far q held is sound (inl looks) = ap (λ (w : World). w q) looks.0
amid_leaves g places old seen now so_far q held is sound (inr amid) =
    let plan = amid.plan_for.planned in
    let stored = amid.plan_for.stored in
    stage_leaves g stored amid.plan plan places q held.packaged held.place held.kept old
    (spare_all g stored amid.plan plan places q held.packaged held.place held.kept seen old is held.stands (subst (λ (l : List Work). AllSound (unit_owning g) l seen) (sym (works_are g stored amid.plan plan places)) sound))
    so_far now amid.under_way.stage

pub check_claims : (g : Given) (w : World) (q : Path) (x : Work) → IsHeldPlace g q → Contains (unit_works g) x → x.place ≡ q → IsFoundSound g w → claims x.node (kind_of (w q)) ≡ false
check_claims g w q x held there at sound =
    unclaimed g q held (is_made (unit_works g) w) (is_twice (unit_works g)) w x at (sound_at (unit_owning g) (is_made (unit_works g) w) (is_twice (unit_works g)) w (unit_works g) x sound there)
