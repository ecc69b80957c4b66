-- A path that no part of a unit touches: what stands there changes by script calls alone, at each moment.
use Rattle.std.proofs.Common.{◌≡◌, ◌≢◌, ℕ, zero, suc, false, List, [], ◌∷◌, ◌++◌, length, nat_le, sym, ap, subst, ◌∙◌, arith}
use Rattle.std.proofs.lemmas.List.{append_cancel_left}
use Rattle.std.proofs.lemmas.List.Sorted.{IsPermutation-refl}
use Rattle.host_core.specs.Paths.{Path}
use Rattle.host_core.specs.World.{World, Avoids, Change, changed, is_kept}
use Rattle.host_core.specs.Events.{Event, changes_of, scripts_of}
use Rattle.host_core.specs.Host.{State}
use Rattle.host_core.proofs.Scripts.{changed_at, changes_of-append, no_change}
use Rattle.administration.specs.Places.{list_path, temporary, tmp_path, is_within}
use Rattle.undo_rows.specs.Place.{Place, Forward}
use Rattle.control_members.specs.LaidOut.{IsLaying}
use Rattle.undo_rows.specs.Transcripts.{Ended, Committed, Unwound}
use Rattle.file_lists.specs.Taking.{IsNoList}
use Rattle.file_lists.specs.declared.paths.PackageList.{PackageList}
use Rattle.file_removal.specs.Clearing.{is_among}
use Rattle.file_check.specs.Rearranged.{IsRearranged}
use Rattle.package_files.specs.declared.work.Work.{Work}
use Rattle.package_files.specs.Files.{Each, Misses}
use Rattle.package_files.specs.Names.{IsNamed}
use Rattle.status_db.specs.Held.{is_record_place}
use Rattle.status_records.specs.Records.{record_in}
use Rattle.status_records.specs.declared.record.Record.{Record}
use Rattle.unpack_commit.specs.Areas.{IsNoMember, IsUntouched}
use Rattle.unpack_commit.specs.Takeover.{put_records}
use Rattle.unpack_commit.proofs.Left.{committed_keeps, committing_keeps}
use Rattle.listed_files.specs.Areas.{is_leaving_place}
use Rattle.unpack_plan.specs.Planned.{Planned}
use Rattle.unpack_rows.specs.Kinds.{kinds_of}
use Rattle.unpack_rows.specs.Stages.{Stage, Unwritten, Wrote, Restored, stage_of}
use Rattle.unpack_steps.specs.Task.{Task, lists_at, state_on}
use Rattle.unpack_steps.specs.At.{AreWorksAt, Stops}
use Rattle.unpack_steps.specs.Clearing.{IsBesideOwn}
use Rattle.unpack_engine.specs.Units.{Begins, BeginsAt, Ground, HasFollowed, IsRunning, IsStage, MayFollow, MayLeave, MayLeaveBy, changes, commit_records, last_place, package_name, table_after, task_from, unit_losers}
use Rattle.unpack_engine.proofs.Begun.{dropped_same, may_drop_same}
use Rattle.unpack_engine.proofs.Cleared.{begun_beside as base_beside}
use Rattle.unpack_laws.proofs.Scripted.{IsSpared, amid_avoids, amid_there, come_avoids, come_there}

-- the works of rows that all succeeded, in some order
pub works_moved : (t : Task) (n : ℕ) (stage : Stage) (works : List Work) → AreWorksAt t (Forward n) stage works → IsRearranged t.works works
works_moved t n Unwritten works are = subst (λ (l : List Work). IsRearranged t.works l) (sym are) (IsPermutation-refl _)
works_moved t n Wrote works are = are.same
works_moved t n Restored works are = are.same

-- the calls since the rows began are those of the unit
pub calls_since : (begun so_far before more since : List Event) → so_far ≡ before ++ more → scripts_of before ≡ [] → begun ++ more ≡ begun ++ since → changes_of since ≡ changes_of so_far
calls_since begun so_far before more since is none same =
    ap changes_of (sym (append_cancel_left begun more since same))
    ∙ sym (ap changes_of is ∙ changes_of-append before more ∙ ap (λ (c : Change). c ++ changes_of more) (no_change before none))

module _ (g : Ground) (p : Planned) where
  -- no record, list or control file of the unit is written at a path, and it is neither an old path that goes nor cleared
  pub record IsAside (q : Path) : Type 0 where
    pub unnoted : is_record_place q ≡ false
    pub tmp : is_within tmp_path q ≡ false
    pub list : (q ≢ list_path (package_name g p)) × (q ≢ temporary (list_path (package_name g p)))
    pub no_member : IsNoMember (package_name g p) q
    pub stays : is_leaving_place p.leaving q ≡ false
    pub uncleared : is_among p.names q ≡ false
    pub unlost : (works : List Work) (begun : State) (stage : Stage) → IsRearranged p.works works → IsNoList (unit_losers g p works (lists_at (task_from g p begun) stage)) q

  -- and none of its files is
  pub record IsAlone (q : Path) : Type 0 where
    pub aside : IsAside q
    pub missed : Each (λ x. Misses x q) p.works

  -- it has begun, and what is left under the package's name stands as at some place of its rows
  abbrev pub Based : World → World → Type 0
  Based old new = (place : Place) × BeginsAt g p place old new

  pub based_amid : (old : World) (begun : State) (es : List Event) (now : World) → Begins g p old begun.world → (stops : Stops (task_from g p begun) es now) → Based old stops.base
  based_amid old begun es now begins stops = (stops.place, record { begun = begun.world; begins = begins; clears = stops.cleared })

  -- what scripts leave alone they leave alone at each moment
  pub stage_avoids : (old : World) (so_far : List Event) (now : World) → IsStage g p old so_far now → Avoids (is_kept g.places) (changes_of so_far)
  stage_avoids old so_far now (IsStage.running (IsRunning.beginning none may)) = subst (Avoids (is_kept g.places)) (sym (no_change so_far none)) tt
  stage_avoids old so_far now (IsStage.running (IsRunning.running begun before more is none begins stops)) =
      subst (Avoids (is_kept g.places)) (calls_since begun.events so_far before more stops.since is none stops.events) (amid_avoids (task_from g p (state_on begun stops.base)) _ (changes_of stops.since) now stops.files)
  stage_avoids old so_far now (IsStage.leaving ended works begun last begins are come may) = come_avoids (task_from g p begun) _ works (changes_of so_far) last come

  -- where all rows succeeded the works of the commit are those of the plan, in some order
  abbrev pub AreMoved : Ended → List Work → Type 0
  AreMoved Committed works = IsRearranged p.works works
  AreMoved (Unwound fall failed) works = Unit {0}

  pub are_moved : (begun : State) (ended : Ended) (stage : Stage) (works : List Work) → AreWorksAt (task_from g p begun) (last_place g p ended) stage works → AreMoved ended works
  are_moved begun Committed stage works are = works_moved (task_from g p begun) (length p.rows) stage works are
  are_moved begun (Unwound fall failed) stage works are = tt

  -- where a unit begins
  module _ (q : Path) (beside_own : IsBesideOwn (package_name g p) q) (tmp : is_within tmp_path q ≡ false) where
    pub beginning_beside : (old now : World) → IsLaying old now → now q ≡ old q
    beginning_beside old now laying = laying.rest q tmp

    pub begun_beside : (old new : World) → Based old new → new q ≡ old q
    begun_beside old new begins = base_beside g p begins.0 old new begins.1 q tmp beside_own

  module _ (q : Path) (aside : IsAside q) where
    beside_own : IsBesideOwn (package_name g p) q
    beside_own = record { list = aside.list.0; members = λ member is. (aside.no_member member is).0 }

    pub beginning_same : (old now : World) → IsLaying old now → now q ≡ old q
    beginning_same old now may = beginning_beside q beside_own aside.tmp old now may

    pub begun_same : (old new : World) → Based old new → new q ≡ old q
    begun_same old new begins = begun_beside q beside_own aside.tmp old new begins

    -- what follows the rows
    module _ (works : List Work) (begun : State) (stage : Stage) where
      abbrev lists : List PackageList
      lists = lists_at (task_from g p begun) stage

      untouched : IsRearranged p.works works → IsUntouched (changes g p works lists) q
      untouched moved = record {
        stays = aside.stays;
        uncleared = aside.uncleared;
        unlisted = each_list moved;
        no_member = aside.no_member;
        unnoted = aside.unnoted;
      }
        where
          each_list : IsRearranged p.works works → IsNoList (package_name g p ∷ unit_losers g p works lists) q
          each_list moved n (zero, lt, is) = subst (λ (m : List ℕ). (q ≢ list_path m) × (q ≢ temporary (list_path m))) is aside.list
          each_list moved n (suc k, lt, is) = aside.unlost works begun stage moved n (k, omega (arith, lt), is)

      module _ (table : List Record) where
        may_follow_same : (e : Ended) → AreMoved e works → (v w : World) → MayFollow (changes g p works lists) (commit_records g p works lists table) g.ways lists table (length p.others) e v w → w q ≡ v q
        may_follow_same Committed moved v w may = committing_keeps (changes g p works lists) g.ways lists v (commit_records g p works lists table) table w q may (untouched moved)
        may_follow_same (Unwound fall failed) moved v w may = may_drop_same (nat_le (length p.others) fall.row) (record_in table (package_name g p)) (package_name g p) v w q may aside.list.0

        followed_same : (e : Ended) → AreMoved e works → (v w : World) → HasFollowed (changes g p works lists) (commit_records g p works lists table) g.ways lists table (length p.others) e v w → w q ≡ v q
        followed_same Committed moved v w has = committed_keeps (changes g p works lists) g.ways lists v (put_records (commit_records g p works lists table) table) w q has (untouched moved)
        followed_same (Unwound fall failed) moved v w has = dropped_same (nat_le (length p.others) fall.row) (record_in table (package_name g p)) (package_name g p) v w q has aside.list.0

        pub leave_same : (e : Ended) → AreMoved e works → (v w : World) → MayLeave (changes g p works lists) (commit_records g p works lists table) g.ways lists table (length p.others) e v w → w q ≡ v q
        leave_same e moved v w (MayLeaveBy.following may) = may_follow_same e moved v w may
        leave_same e moved v w (MayLeaveBy.clearing_away followed has opens laying) = laying.rest q aside.tmp ∙ followed_same e moved v followed has

  module _ (named : Each IsNamed p.works) (q : Path) (alone : IsAlone q) where
    spared : IsSpared (list_path (package_name g p)) p.works q
    spared = record { unnoted = alone.aside.unnoted; unlisted = alone.aside.list.0; unspared = alone.aside.list.1; missed = alone.missed }

    pub stage_there : (old : World) (so_far : List Event) (now : World) → IsStage g p old so_far now → now q ≡ changed (changes_of so_far) old q
    stage_there old so_far now (IsStage.running (IsRunning.beginning none may)) = beginning_same q alone.aside old now may ∙ ap (λ c. changed c old q) (sym (no_change so_far none))
    stage_there old so_far now (IsStage.running (IsRunning.running begun before more is none begins stops)) =
        amid_there (task_from g p (state_on begun stops.base)) q spared named _ (changes_of stops.since) now stops.files
        ∙ changed_at (changes_of stops.since) stops.base old q (begun_same q alone.aside old stops.base (based_amid old begun _ now begins stops))
        ∙ ap (λ c. changed c old q) (calls_since begun.events so_far before more stops.since is none stops.events)
    stage_there old so_far now (IsStage.leaving ended works begun last begins are come may) =
        leave_same q alone.aside works begun (stage_of (kinds_of p.found p.others) (last_place g p ended)) (table_after g p (last_place g p ended)) ended (are_moved begun ended _ works are) last now may
        ∙ come_there (task_from g p begun) q spared named (last_place g p ended) _ works are (changes_of so_far) last come
        ∙ changed_at (changes_of so_far) begun.world old q (begun_same q alone.aside old begun.world (last_place g p ended, begins))
