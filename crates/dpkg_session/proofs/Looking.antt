-- What was only looked at before an unpack, to see which rows other packages have, is no part of what it does.
use Rattle.std.specs.Prelude.{Result, Ok, Err, IfOk}
use Rattle.std.proofs.Common.{◌≡◌, ◌⊎◌, inl, inr, Bool, IsTrue, true, ℕ, List, [], ◌∷◌, ◌++◌, Option, refl, ap, subst, sym, ◌∙◌}
use Rattle.undo_rows.specs.Transcripts.{Ended}
use Rattle.file_lists.specs.declared.paths.PackageList.{PackageList}
use Rattle.host_core.specs.Paths.{Path}
use Rattle.host_core.specs.World.{World}
use Rattle.host_core.specs.Events.{Event, Did, Finished, Cut, Failed, Denied, scripts_of}
use Rattle.host_core.specs.Host.{State, AllFailed, Reads, Silent, Since}
use Rattle.host_core.proofs.Moments.{scripts_of-append, since_reads, since_then, since_weaker_if, silent_then}
use Rattle.host_core.proofs.Scripts.{silent_added}
use Rattle.package_tree.specs.declared.package.Package.{Package}
use Rattle.undo_rows.specs.Ended.{ended_as}
use Rattle.undo_rows.specs.declared.unwinding.Unwinding.{Unwinding}
use Rattle.status_db.specs.Recorded.{Recorded}
use Rattle.unpack_engine.specs.Units.{as_begun, Begins, Given, GoesByTable, HasCalled, HasCarriedOut, HasFailedFor, HasUnpacked, IsAmidEither, IsAmidUnit, IsPlanFor, IsReadAgain, IsTableIn, IsUnderWay, ground_of}
use Rattle.unpack_engine.proofs.Planning.{under_way_behind}
use Rattle.unpack_engine.proofs.Sequel.{called_behind}
use Rattle.unpack_plan.specs.Planned.{Planned}
use Rattle.unpack_relations.specs.declared.beside.Beside.{Beside}
use Rattle.unpack_rows.specs.declared.rows.OtherPackage.{OtherPackage}
use Rattle.undo_rows.specs.declared.rows.Called.{Called}
use Rattle.unit_reports.specs.Held.{Held}
use Rattle.diversions.specs.Ways.{Ways}
use Rattle.host_core.proofs.Scripts.{calls_of-scripts}
use Rattle.host_core.specs.Events.{calls_of as calls_in}
use Rattle.host_core.specs.Host.{calls}
use Rattle.dpkg_session.proofs.TableRead.{table_kept}
use Rattle.dpkg_session.specs.Run.{IsAmidBeside}
use Rattle.dpkg_session.specs.Units.{HasCalledBeside, HasUnpackedBeside, HaveRows, all_yielding, given_by}

-- no call has ended
pub silent_calls : (s t : State) → Silent s t → calls t ≡ calls s
silent_calls s t silent = sym (calls_of-scripts t.events) ∙ ap calls_in silent.scripts ∙ calls_of-scripts s.events

none_before : (es fs : List Event) → scripts_of es ≡ [] → scripts_of fs ≡ [] → scripts_of (es ++ fs) ≡ []
none_before es fs first second = scripts_of-append es fs ∙ ap (λ (l : List Event). l ++ scripts_of fs) first ∙ second

pub none_failed : (es : List Event) → AllFailed es → scripts_of es ≡ []
none_failed [] all = refl
none_failed (Did step ∷ es) all = elim all [ ]
none_failed (Finished ran ∷ es) all = elim all [ ]
none_failed (Cut call change ∷ es) all = elim all [ ]
none_failed (Failed ∷ es) all = none_failed es all
none_failed (Denied path ∷ es) all = elim all [ ]

module _ (g : Given) (places : List Path) (s m : State) (reads : Reads s m) (silent : Silent s m) where
  plan_from : (honest : Bool) (plan : Planned) → IsPlanFor g m.world honest plan → IsPlanFor g s.world honest plan
  plan_from honest plan is = subst (λ w. IsPlanFor g w honest plan) reads.world is

  plan_begun : (honest : Bool) (plan : Planned) → IsPlanFor (as_begun g) m.world honest plan → IsPlanFor (as_begun g) s.world honest plan
  plan_begun honest plan is = subst (λ w. IsPlanFor (as_begun g) w honest plan) reads.world is

  amid_from : (early so_far : List Event) (now : World) → scripts_of early ≡ [] → IsAmidUnit g places m.world so_far now → IsAmidUnit g places s.world (early ++ so_far) now
  amid_from early so_far now none (inl here) = inl (here.0 ∙ reads.world, none_before early so_far none here.1)
  amid_from early so_far now none (inr amid) = inr (record {
    plan = amid.plan;
    plan_for = plan_from true amid.plan amid.plan_for;
    under_way = under_way_behind (ground_of g places) amid.plan s.world early none so_far now (subst (λ w. IsUnderWay (ground_of g places) amid.plan w so_far now) reads.world amid.under_way);
  })

  again_from : (plan : Planned) (late : Ways) (t : State) → IsReadAgain g.lists plan g.begun late m t → IsReadAgain g.lists plan g.begun late s t
  again_from plan late t is = record {
    before = is.before;
    files = is.files;
    parted = is.parted;
    m = is.m;
    since = since_then (λ so_far w. Unit {0}) s m is.m (since_reads (λ so_far w. Unit {0}) s m reads (λ es all. tt)) is.since;
    until = is.until;
    ran = is.ran;
    calls_are = is.calls_are ∙ ap (λ l. l ++ is.ran) (silent_calls s m silent);
    all = is.all;
    table = is.table;
    aliases = is.aliases;
  }

  pub goes_from : (t : State) (u : Option Unwinding) → GoesByTable g u m t → GoesByTable g u s t
  goes_from t u goes = record {
    either = elim goes.either [ inl same ↦ inl same | inr (plan, is, again) ↦ inr (plan, plan_begun t.honest plan is, again_from plan g.ways t again) ];
    again = λ none has. (let (plan, is, again) = goes.again none has in (plan, plan_begun t.honest plan is, again_from plan g.ways t again));
  }

  pub failed_from : (t : State) (u : Option Unwinding) → HasFailedFor g m t u → HasFailedFor g s t u
  failed_from t u failed = record { plan = failed.plan; plan_for = plan_from t.honest failed.plan failed.plan_for; cause = failed.cause }

  module _ (t : State) (told now : List Called) where
    pub called_from : HasCalled g m t told now → HasCalled g s t told now
    called_from (HasCalled.unplanned quiet same) = HasCalled.unplanned (silent_then s m t silent quiet) same
    called_from (HasCalled.planned plan is rows) = HasCalled.planned plan (plan_from t.honest plan is) (called_behind plan.rows s m t told now silent rows)

    module _ (ended : Ended) (after : Recorded) (lists : List PackageList) where
      carried_from : (plan : Planned) → HasCarriedOut (ground_of g places) plan ended after lists m t told now → HasCarriedOut (ground_of g places) plan ended after lists s t told now
      carried_from plan carried = record {
        mid = carried.mid;
        last = carried.last;
        ran = record {
          begun = carried.ran.begun;
          quiet = silent_then s m carried.ran.begun silent carried.ran.quiet;
          until = since_then (λ so_far w. Unit {0}) s m carried.ran.begun (since_reads (λ so_far w. Unit {0}) s m reads (λ es all. tt)) carried.ran.until;
          begins_so = λ h. subst (λ w. Begins (ground_of g places) plan w carried.ran.begun.world) reads.world (carried.ran.begins_so h);
          run = carried.ran.run;
          between = carried.ran.between;
          rows_end = carried.ran.rows_end;
        };
        since = carried.since;
        later = carried.later;
        leaves = carried.leaves;
        stays = carried.stays;
        records = carried.records;
        lists_are = carried.lists_are;
      }

      pub unpacked_from : HasUnpacked g places ended after lists m t told now → HasUnpacked g places ended after lists s t told now
      unpacked_from is = record { plan = is.plan; plan_for = plan_from t.honest is.plan is.plan_for; carried_out = carried_from is.plan is.carried_out }

module _ (p : Package) (beside : Beside) (h : Held) (places : List Path) (s m : State) (reads : Reads s m) (silent : Silent s m) where
  pub looking : Since (IsAmidBeside p beside h places s.world) s m
  looking = since_reads (IsAmidBeside p beside h places s.world) s m reads (λ es all. inl (refl, none_failed es all))

  pub nothing_called : (told : List Called) → HasCalledBeside p beside h s m told told
  nothing_called told = HasCalledBeside.looking silent refl

  -- with the rows that were seen
  module _ (others : List OtherPackage) (yields : List (List ℕ)) (are : yields ≡ all_yielding p beside h) (have : HaveRows p beside h.records.records s.world m.honest others) (t : State) (falls : IsTrue t.honest → IsTrue m.honest) where
    rows_then : HaveRows p beside h.records.records s.world t.honest others
    rows_then = record { rows = λ honest. have.rows (falls honest); shaped = have.shaped; apart = have.apart }

    rows_true : IsTrue t.honest → HaveRows p beside h.records.records s.world true others
    rows_true honest = record { rows = λ is. have.rows (falls honest); shaped = have.shaped; apart = have.apart }

    none_added : scripts_of looking.added ≡ []
    none_added = silent_added s m looking.added silent looking.events

    by_table : (late : Ways) → IsTrue t.honest → (so_far : List Event) (now : World) → IsAmidUnit (given_by p h late others yields) places m.world so_far now → IsAmidBeside p beside h places s.world (looking.added ++ so_far) now
    by_table late honest so_far now amid = inr (
      others,
      late,
      rows_true honest,
      subst (λ ys. IsAmidUnit (given_by p h late others ys) places s.world (looking.added ++ so_far) now) are
          (amid_from (given_by p h late others yields) places s m reads silent looking.added so_far now none_added amid),
    )

    pub under_way : (late : Ways) → Since (IsAmidEither (given_by p h h.ways others yields) (given_by p h late others yields) places m.world) m t → Since (IsAmidBeside p beside h places s.world) s t
    under_way late since = since_then (IsAmidBeside p beside h places s.world) s m t looking
        (since_weaker_if (IsAmidEither (given_by p h h.ways others yields) (given_by p h late others yields) places m.world) (λ so_far. IsAmidBeside p beside h places s.world (looking.added ++ so_far)) m t
        (λ honest so_far now either. elim either [ inl amid ↦ by_table h.ways honest so_far now amid | inr amid ↦ by_table late honest so_far now amid ]) since)

    module _ (told now : List Called) where
      pub called_beside : HasCalled (given_by p h h.ways others yields) m t told now → HasCalledBeside p beside h s t told now
      called_beside called = HasCalledBeside.calling others rows_then
          (subst (λ ys. HasCalled (given_by p h h.ways others ys) s t told now) are (called_from (given_by p h h.ways others yields) places s m reads silent t told now called))

      pub unpacked_beside : (late : Ways) → Since (IsAmidEither (given_by p h h.ways others yields) (given_by p h late others yields) places m.world) m t → (u : Option Unwinding) (after : Recorded) (lists : List PackageList) → HasUnpacked (given_by p h late others yields) places (ended_as u) after lists m t told now
          → HasFailedFor (given_by p h late others yields) m t u → GoesByTable (given_by p h late others yields) u m t → HasUnpackedBeside p beside h late places u after lists s t told now
      unpacked_beside late since u after lists is failed goes = record {
        others = others;
        have_rows = rows_then;
        unpacked = subst (λ ys. HasUnpacked (given_by p h late others ys) places (ended_as u) after lists s t told now) are
            (unpacked_from (given_by p h late others yields) places s m reads silent t told now (ended_as u) after lists is);
        cause = subst (λ ys. HasFailedFor (given_by p h late others ys) s t u) are (failed_from (given_by p h late others yields) places s m reads silent t u failed);
        table = subst (λ ys. GoesByTable (given_by p h late others ys) u s t) are (goes_from (given_by p h late others yields) places s m reads silent t u goes);
        file = λ honest. subst (λ w. (late ≡ h.ways) ⊎ IsTableIn w h.ways late) reads.world (table_kept (given_by p h h.ways others yields) (given_by p h late others yields) places u m t goes since honest);
      }

-- of an answer three things hold
pub if_ok_all : {T E : Type 0} (result : Result T E) (P Q R S : T → Type 0) → ((x : T) → P x → Q x → R x → S x) → IfOk result P → IfOk result Q → IfOk result R → IfOk result S
if_ok_all (Ok x) P Q R S so p q r = so x p q r
if_ok_all (Err e) P Q R S so p q r = tt
