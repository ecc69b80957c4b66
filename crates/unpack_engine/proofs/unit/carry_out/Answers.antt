use Rattle.std.proofs.Common.{◌≡◌, ◌↔◌, ◌++◌, true, false, List, None, length, refl, sym, ap, subst, ◌∙◌}
use Rattle.std.specs.Prelude.{IfSome, is_some}
use Rattle.std.specs.List.{AllByRecursion}
use Rattle.std.specs.Str.{IsUtf8}
use Rattle.host_core.specs.Host.{AtEachMoment, WasDenied}
use Rattle.host_core.proofs.Counted.{counts_behind}
use Rattle.undo_rows.specs.Ended.{IsCauseOf, ended_as}
use Rattle.undo_rows.specs.Faults.{OnlyIfDeclined}
use Rattle.file_lists.specs.Beside.{AreSameBeside}
use Rattle.status_records.specs.Records.{AreStanding}
use Rattle.status_db.proofs.Ordered.{order_apart, same_standing}
use Rattle.package_files.specs.declared.work.Work.{Work}
use Rattle.held_administration.specs.declared.held.Administration.{Administration}
use Rattle.unpack_rows.specs.EndStates.{end_of, own_name}
use Rattle.unpack_rows.specs.Stages.{stage_of}
use Rattle.unpack_steps.specs.At.{holding_by}
use Rattle.unpack_steps.specs.Task.{kinds, task_by}
use Rattle.unpack_plan.specs.Planned.{Job, planned, planned_from}
use Rattle.unpack_engine.specs.Endings.{changes_from, ended_lists, ended_records, ended_table, records_from}
use Rattle.unpack_engine.specs.Touched.{AreTold, deconfigured}
use Rattle.unpack_engine.specs.Tables.{HasCarriedOutPlan, IsJobOf}
use Rattle.unpack_engine.specs.Units.{HasLeft, HasLeftUnless, IsReadAgain, IsTouched, MayLeave, ground_by}
use Rattle.unpack_engine.proofs.Again.{either_longer, if_ok_any, read_longer}
use Rattle.unpack_engine.proofs.Alone.{alone_then, places_begin, rows_beside}
use Rattle.unpack_engine.proofs.Carrying.{carried_out}
use Rattle.unpack_engine.proofs.Sequel.{called_then, denied_then, if_ok_counted, if_ok_one, later}
use Rattle.unpack_engine.proofs.UnitMoments.{plan_begins, plan_moments}
use Rattle.unpack_engine.proofs.Whole.{can_write_still, if_ok_both, if_ok_with, parts_info, parts_kept, parts_laid, parts_loose, parts_stand, parts_touched}
use Rattle.scattered_losses.proofs.GoingApart.{gone_by, later_of, works_behind}
use Rattle.status_db.specs.Held.{is_record_place}
use Rattle.unpack_engine.proofs.unit.carry_out.Goals as goal

pub begin_and_run-requires-clause-standing : goal.begin_and_run-requires-clause-standing
begin_and_run-requires-clause-standing g c = same_standing c.args.administration.now.database.records c.law.ensures.standing

pub finish-requires-clause-noting : goal.finish-requires-clause-noting
finish-requires-clause-noting g c = c.in-Ok.ensures.ran.rows_end.opened

pub finish-requires-clause-opened : goal.finish-requires-clause-opened
finish-requires-clause-opened g c = c.in-Ok.ensures.ran.rows_end.lists_open

pub finish-requires-clause-named : goal.finish-requires-clause-named
finish-requires-clause-named g c = c.in-Ok.ensures.ran.rows_end.sound.named

pub finish-requires-clause-spared : goal.finish-requires-clause-spared
finish-requires-clause-spared g c = c.in-Ok.ensures.plan.planned.lists_are.spares

pub finish-requires-clause-paths : goal.finish-requires-clause-paths
finish-requires-clause-paths g c = c.in-Ok.ensures.plan.planned.lists_are.new_is.paths_are

pub finish-requires-clause-elsewhere : goal.finish-requires-clause-elsewhere
finish-requires-clause-elsewhere g c = c.in-Ok.ensures.plan.planned.names_are.elsewhere

pub finish-requires-clause-stands : goal.finish-requires-clause-stands
finish-requires-clause-stands g c =
    subst (λ (x : List Work). AreStanding (records_from (own_name c.args.plan.rows.found c.args.plan.rows.incoming) c.args.plan.rows.yields c.begin_and_run.new.diversions.ways c.begin_and_run.new.administration.lists.lists x c.begin_and_run.new.commit c.begin_and_run.new.administration.database.records)) (sym c.as_slice-shipped.ensures.value)
    (parts_stand c.args.administration.now c.begin_and_run.new.diversions.ways c.args.plan.rows c.in-Ok.ran.shipped.value.items c.args.plan.calls.items c.begin_and_run.new.commit c.in-Ok.ensures.plan (ended_as c.in-Ok.ran.unwinding) (holding_by c.begin_and_run.new.administration c.begin_and_run.new.works.items) (g.H.Host.state c.args.host.now) (g.H.Host.state c.begin_and_run.new.host) c.requires.order (g.H.Host.tree c.args.host.now) c.args.told.now.items c.begin_and_run.new.told.items c.in-Ok.ensures.ran (same_standing c.begin_and_run.new.administration.database.records c.law-in-Ok.ensures.standing))

pub finish-requires-clause-info : goal.finish-requires-clause-info
finish-requires-clause-info g c = parts_info c.args.administration.now c.begin_and_run.new.diversions.ways c.args.plan.rows c.in-Ok.ran.shipped.value.items c.args.plan.calls.items c.begin_and_run.new.commit c.in-Ok.ensures.plan (ended_as c.in-Ok.ran.unwinding) (holding_by c.begin_and_run.new.administration c.begin_and_run.new.works.items) (g.H.Host.state c.args.host.now) (g.H.Host.state c.begin_and_run.new.host) c.requires.order (g.H.Host.tree c.args.host.now) c.args.told.now.items c.begin_and_run.new.told.items c.in-Ok.ensures.ran

pub finish-requires-clause-loose : goal.finish-requires-clause-loose
finish-requires-clause-loose g c = parts_loose c.args.administration.now c.begin_and_run.new.diversions.ways c.args.plan.rows c.in-Ok.ran.shipped.value.items c.args.plan.calls.items c.begin_and_run.new.commit c.in-Ok.ensures.plan (ended_as c.in-Ok.ran.unwinding) (holding_by c.begin_and_run.new.administration c.begin_and_run.new.works.items) (g.H.Host.state c.args.host.now) (g.H.Host.state c.begin_and_run.new.host) c.requires.order (g.H.Host.tree c.args.host.now) c.args.told.now.items c.begin_and_run.new.told.items c.in-Ok.ensures.ran

pub finish-requires-clause-kept : goal.finish-requires-clause-kept
finish-requires-clause-kept g c = parts_kept c.args.administration.now c.begin_and_run.new.diversions.ways c.args.plan.rows c.in-Ok.ran.shipped.value.items c.args.plan.calls.items c.begin_and_run.new.commit c.in-Ok.ensures.plan (ended_as c.in-Ok.ran.unwinding) (holding_by c.begin_and_run.new.administration c.begin_and_run.new.works.items) (g.H.Host.state c.args.host.now) (g.H.Host.state c.begin_and_run.new.host) c.requires.order (g.H.Host.tree c.args.host.now) c.args.told.now.items c.begin_and_run.new.told.items c.in-Ok.ensures.ran

pub finish-requires-clause-laid : goal.finish-requires-clause-laid
finish-requires-clause-laid g c = parts_laid c.args.administration.now c.begin_and_run.new.diversions.ways c.args.plan.rows c.in-Ok.ran.shipped.value.items c.args.plan.calls.items c.begin_and_run.new.commit c.in-Ok.ensures.plan (ended_as c.in-Ok.ran.unwinding) (holding_by c.begin_and_run.new.administration c.begin_and_run.new.works.items) (g.H.Host.state c.args.host.now) (g.H.Host.state c.begin_and_run.new.host) c.requires.order (g.H.Host.tree c.args.host.now) c.args.told.now.items c.begin_and_run.new.told.items c.in-Ok.ensures.ran

pub returns-in-Ok-clause-unit : goal.returns-in-Ok-clause-unit
returns-in-Ok-clause-unit g c =
    if_ok_both c.finish.result (λ u. u.unwinding ≡ c.in-Ok.ran.unwinding) (λ u. (j : Job) → IsJobOf j (planned c.args.plan) c.args.administration.now.lists.lists c.args.diversions.now.ways c.args.spare.now → HasCarriedOutPlan (record j { ways = c.begin_and_run.new.diversions.ways }) (ground_by c.args.administration.now c.begin_and_run.new.diversions.ways c.args.plan.rows.yields) c.args.plan.calls.items (ended_as u.unwinding) c.finish.new.database c.finish.new.lists.lists (g.H.Host.state c.args.host.now) (g.H.Host.state c.finish.new.host) c.args.told.now.items c.begin_and_run.new.told.items)
    _ _ _ _ _ (λ u same table lists_are left stays j is. record {
      plan = planned_from c.args.plan.rows c.in-Ok.ran.shipped.value.items c.args.plan.calls.items c.begin_and_run.new.commit;
      planned = c.in-Ok.ensures.planned j is;
      rows_are = refl;
      texts = subst (AllByRecursion IsUtf8) c.as_slice.ensures c.are_texts.ensures;
      carried_out =
          carried_out c.args.administration.now c.begin_and_run.new.diversions.ways c.args.plan.rows c.in-Ok.ran.shipped.value.items c.args.plan.calls.items c.begin_and_run.new.commit (ended_as c.in-Ok.ran.unwinding) (ended_as u.unwinding) (holding_by c.begin_and_run.new.administration c.begin_and_run.new.works.items) c.finish.new.database c.finish.new.lists (g.H.Host.state c.args.host.now) (g.H.Host.state c.begin_and_run.new.host) (g.H.Host.state c.finish.new.host) c.args.told.now.items c.begin_and_run.new.told.items
          (ap ended_as (sym same)) c.in-Ok.ensures.ran c.finish.ensures.silent (subst (λ (x : List Work). AtEachMoment (MayLeave (changes_from (own_name c.args.plan.rows.found c.args.plan.rows.incoming) c.args.plan.rows.yields c.begin_and_run.new.diversions.ways c.begin_and_run.new.administration.lists.lists x c.begin_and_run.new.commit) (records_from (own_name c.args.plan.rows.found c.args.plan.rows.incoming) c.args.plan.rows.yields c.begin_and_run.new.diversions.ways c.begin_and_run.new.administration.lists.lists x c.begin_and_run.new.commit c.begin_and_run.new.administration.database.records) c.begin_and_run.new.diversions.ways c.begin_and_run.new.administration.lists.lists c.begin_and_run.new.administration.database.records (length c.args.plan.rows.others.items) (ended_as c.in-Ok.ran.unwinding)) (g.H.Host.state c.begin_and_run.new.host) (g.H.Host.state c.finish.new.host)) c.as_slice-shipped.ensures.value c.finish.ensures.any_moment)
          (λ h. subst (λ (x : List Work). HasLeft (changes_from (own_name c.args.plan.rows.found c.args.plan.rows.incoming) c.args.plan.rows.yields c.begin_and_run.new.diversions.ways c.begin_and_run.new.administration.lists.lists x c.begin_and_run.new.commit) (records_from (own_name c.args.plan.rows.found c.args.plan.rows.incoming) c.args.plan.rows.yields c.begin_and_run.new.diversions.ways c.begin_and_run.new.administration.lists.lists x c.begin_and_run.new.commit c.begin_and_run.new.administration.database.records) c.begin_and_run.new.diversions.ways c.begin_and_run.new.administration.lists.lists c.begin_and_run.new.administration.database.records (length c.args.plan.rows.others.items) (ended_as c.in-Ok.ran.unwinding) (g.H.Host.state c.begin_and_run.new.host).world (g.H.Host.state c.finish.new.host).world) c.as_slice-shipped.ensures.value (left h))
          (λ h. subst (λ (x : List Work). HasLeftUnless (changes_from (own_name c.args.plan.rows.found c.args.plan.rows.incoming) c.args.plan.rows.yields c.begin_and_run.new.diversions.ways c.begin_and_run.new.administration.lists.lists x c.begin_and_run.new.commit) (records_from (own_name c.args.plan.rows.found c.args.plan.rows.incoming) c.args.plan.rows.yields c.begin_and_run.new.diversions.ways c.begin_and_run.new.administration.lists.lists x c.begin_and_run.new.commit c.begin_and_run.new.administration.database.records) c.begin_and_run.new.diversions.ways c.begin_and_run.new.administration.lists.lists c.begin_and_run.new.administration.database.records (length c.args.plan.rows.others.items) (WasDenied (g.H.Host.state c.begin_and_run.new.host) (g.H.Host.state c.finish.new.host)) (ended_as c.in-Ok.ran.unwinding) (g.H.Host.state c.begin_and_run.new.host).world (g.H.Host.state c.finish.new.host).world) c.as_slice-shipped.ensures.value (stays h))
          (table ∙ ap (λ (x : List Work). ended_table (ended_as c.in-Ok.ran.unwinding) (records_from (own_name c.args.plan.rows.found c.args.plan.rows.incoming) c.args.plan.rows.yields c.begin_and_run.new.diversions.ways c.begin_and_run.new.administration.lists.lists x c.begin_and_run.new.commit c.begin_and_run.new.administration.database.records) c.begin_and_run.new.administration.database.records) c.as_slice-shipped.ensures.value)
          (ap (λ l. l.lists) lists_are ∙ ap (λ (x : List Work). ended_lists (ended_as c.in-Ok.ran.unwinding) (changes_from (own_name c.args.plan.rows.found c.args.plan.rows.incoming) c.args.plan.rows.yields c.begin_and_run.new.diversions.ways c.begin_and_run.new.administration.lists.lists x c.begin_and_run.new.commit) c.begin_and_run.new.diversions.ways c.begin_and_run.new.administration.lists.lists) c.as_slice-shipped.ensures.value);
    })
    c.finish.ensures.unwinding c.finish.ensures.records c.finish.ensures.lists c.finish.ensures.left c.finish.ensures.stays

pub returns-in-Ok-clause-cause : goal.returns-in-Ok-clause-cause
returns-in-Ok-clause-cause g c = if_ok_one c.finish.result (λ u. u.unwinding ≡ c.in-Ok.ran.unwinding) (λ u. IsCauseOf c.args.plan.calls.items u.unwinding) (λ u same. subst (IsCauseOf c.args.plan.calls.items) (sym same) c.in-Ok.ensures.cause) c.finish.ensures.unwinding

pub returns-in-Ok-clause-denied : goal.returns-in-Ok-clause-denied
returns-in-Ok-clause-denied g c =
    let old = g.H.Host.state c.args.host.now in
    let mid = g.H.Host.state c.begin_and_run.new.host in
    let new = g.H.Host.state c.finish.new.host in
    if_ok_counted c.finish.result mid new (λ u. u.unwinding ≡ c.in-Ok.ran.unwinding) (λ u. IfSome u.unwinding (λ one. OnlyIfDeclined one.fall.fault old new))
    (λ u counts same. denied_then u.unwinding old mid new (subst (λ v. IfSome v (λ one. OnlyIfDeclined one.fall.fault old mid)) (sym same) c.in-Ok.ensures.denied) counts)
    c.finish.ensures.counts c.finish.ensures.unwinding

pub returns-in-Ok-clause-touched : goal.returns-in-Ok-clause-touched
returns-in-Ok-clause-touched g c =
    if_ok_with c.finish.result (λ u. AreTold (own_name c.args.plan.rows.found c.args.plan.rows.incoming) (ended_records (ended_as c.in-Ok.ran.unwinding) (records_from (own_name c.args.plan.rows.found c.args.plan.rows.incoming) c.args.plan.rows.yields c.begin_and_run.new.diversions.ways c.begin_and_run.new.administration.lists.lists c.as_slice-shipped.result.now c.begin_and_run.new.commit c.begin_and_run.new.administration.database.records) ++ deconfigured c.finish.new.database.records c.args.plan.rows.others.items) u.touched) (λ u. IsTouched (own_name c.args.plan.rows.found c.args.plan.rows.incoming) c.args.administration.now.database.records c.finish.new.database.records u.touched) _
    (λ u told table. parts_touched c.args.administration.now c.begin_and_run.new.diversions.ways c.args.plan.rows c.in-Ok.ran.shipped.value.items c.args.plan.calls.items c.begin_and_run.new.commit c.in-Ok.ensures.plan (ended_as c.in-Ok.ran.unwinding) (holding_by c.begin_and_run.new.administration c.begin_and_run.new.works.items) (g.H.Host.state c.args.host.now) (g.H.Host.state c.begin_and_run.new.host) c.requires.order (g.H.Host.tree c.args.host.now) c.args.told.now.items c.begin_and_run.new.told.items c.in-Ok.ensures.ran (order_apart c.begin_and_run.new.administration.database.records c.law-in-Ok.ensures.order) c.finish.new.database.records u.touched
    (table ∙ ap (λ (x : List Work). ended_table (ended_as c.in-Ok.ran.unwinding) (records_from (own_name c.args.plan.rows.found c.args.plan.rows.incoming) c.args.plan.rows.yields c.begin_and_run.new.diversions.ways c.begin_and_run.new.administration.lists.lists x c.begin_and_run.new.commit c.begin_and_run.new.administration.database.records) c.begin_and_run.new.administration.database.records) c.as_slice-shipped.ensures.value)
    (subst (λ (x : List Work). AreTold (own_name c.args.plan.rows.found c.args.plan.rows.incoming) (ended_records (ended_as c.in-Ok.ran.unwinding) (records_from (own_name c.args.plan.rows.found c.args.plan.rows.incoming) c.args.plan.rows.yields c.begin_and_run.new.diversions.ways c.begin_and_run.new.administration.lists.lists x c.begin_and_run.new.commit c.begin_and_run.new.administration.database.records) ++ deconfigured c.finish.new.database.records c.args.plan.rows.others.items) u.touched) c.as_slice-shipped.ensures.value told))
    c.finish.ensures.told c.finish.ensures.records

pub returns-in-Ok-clause-alone : goal.returns-in-Ok-clause-alone
returns-in-Ok-clause-alone g c =
    let own = own_name c.args.plan.rows.found c.args.plan.rows.incoming in
    let old = c.args.administration.now.lists.lists in
    let mid = c.begin_and_run.new.administration.lists.lists in
    let new = c.finish.new.lists.lists in
    let t = task_by c.in-Ok.ensures.ran.begun c.args.administration.now c.begin_and_run.new.diversions.ways c.in-Ok.ran.shipped.value.items c.args.plan.rows in
    let stage = stage_of (kinds t) (end_of (length c.args.plan.calls.items) (ended_as c.in-Ok.ran.unwinding)) in
    let first = subst (AreSameBeside own old) (sym c.in-Ok.ensures.ran.rows_end.lists) (rows_beside t stage) in
    if_ok_one c.finish.result (λ u. (u.alone ≡ true) ↔ AreSameBeside own mid new) (λ u. (u.alone ≡ true) ↔ AreSameBeside own old new) (λ u is. alone_then own old mid new u.alone first is) c.finish.ensures.alone

pub returns-in-Ok-clause-places : goal.returns-in-Ok-clause-places
returns-in-Ok-clause-places g c =
    let t = task_by c.in-Ok.ensures.ran.begun c.args.administration.now c.begin_and_run.new.diversions.ways c.in-Ok.ran.shipped.value.items c.args.plan.rows in
    places_begin c.finish.result t (stage_of (kinds t) (end_of (length c.args.plan.calls.items) (ended_as c.in-Ok.ran.unwinding))) c.begin_and_run.new.administration.places c.in-Ok.ensures.ran.rows_end.places

pub returns-in-Ok-clause-open : goal.returns-in-Ok-clause-open
returns-in-Ok-clause-open g c =
    let behind : Administration = record c.begin_and_run.new.administration { database = c.finish.new.database; lists = c.finish.new.lists } in
    can_write_still c.finish.result behind c.begin_and_run.new.administration.lists _ c.in-Ok.ensures.ran.rows_end.lists_open c.finish.ensures.opened c.finish.ensures.lists

pub returns-in-Ok-clause-told : goal.returns-in-Ok-clause-told
returns-in-Ok-clause-told g c = called_then c.args.plan.calls.items (g.H.Host.state c.args.host.now) (g.H.Host.state c.begin_and_run.new.host) (g.H.Host.state c.finish.new.host) c.args.told.now.items c.begin_and_run.new.told.items c.begin_and_run.ensures.told c.finish.ensures.silent

pub returns-in-Ok-clause-any_moment : goal.returns-in-Ok-clause-any_moment
returns-in-Ok-clause-any_moment g c = λ j is.
    plan_moments c.args.administration.now c.args.plan.rows c.args.plan.calls.items (g.H.Host.state c.args.host.now) (g.H.Host.state c.begin_and_run.new.host) c.requires.order (g.H.Host.tree c.args.host.now) j c.args.diversions.now.ways c.begin_and_run.new.diversions.ways c.args.plan.works.items c.args.plan.commit is.planned
    (g.H.Host.state c.finish.new.host) (ended_as c.in-Ok.ran.unwinding) (holding_by c.begin_and_run.new.administration c.begin_and_run.new.works.items) c.args.told.now.items c.begin_and_run.new.told.items c.in-Ok.ran.shipped.value.items c.begin_and_run.new.commit (c.in-Ok.ensures.planned j is)
    c.in-Ok.ensures.ran c.finish.ensures.silent
    (subst (λ (x : List Work). AtEachMoment (MayLeave (changes_from (own_name c.args.plan.rows.found c.args.plan.rows.incoming) c.args.plan.rows.yields c.begin_and_run.new.diversions.ways c.begin_and_run.new.administration.lists.lists x c.begin_and_run.new.commit) (records_from (own_name c.args.plan.rows.found c.args.plan.rows.incoming) c.args.plan.rows.yields c.begin_and_run.new.diversions.ways c.begin_and_run.new.administration.lists.lists x c.begin_and_run.new.commit c.begin_and_run.new.administration.database.records) c.begin_and_run.new.diversions.ways c.begin_and_run.new.administration.lists.lists c.begin_and_run.new.administration.database.records (length c.args.plan.rows.others.items) (ended_as c.in-Ok.ran.unwinding)) (g.H.Host.state c.begin_and_run.new.host) (g.H.Host.state c.finish.new.host)) c.as_slice-shipped.ensures.value c.finish.ensures.any_moment)
    (c.begin_and_run.ensures.any_moment j is)

pub returns-clause-any_moment : goal.returns-clause-any_moment
returns-clause-any_moment g c = λ j is.
    plan_begins c.args.administration.now c.args.plan.rows c.args.plan.calls.items (g.H.Host.state c.args.host.now) (g.H.Host.state c.begin_and_run.new.host) c.requires.order (g.H.Host.tree c.args.host.now) j c.args.diversions.now.ways c.begin_and_run.new.diversions.ways c.args.plan.works.items c.args.plan.commit is.planned
    (c.begin_and_run.ensures.any_moment j is)

pub returns-in-Ok-clause-either : goal.returns-in-Ok-clause-either
returns-in-Ok-clause-either g c =
    let lists = c.args.administration.now.lists.lists in
    let plan = planned c.args.plan in
    let first = c.args.diversions.now.ways in
    let late = c.begin_and_run.new.diversions.ways in
    let a = g.H.Host.state c.args.host.now in
    let b = g.H.Host.state c.begin_and_run.new.host in
    let d = g.H.Host.state c.finish.new.host in
    if_ok_any c.finish.result _ (either_longer lists plan first late a b d c.in-Ok.ensures.either (later _ b d c.finish.ensures.any_moment))

pub returns-in-Ok-clause-again : goal.returns-in-Ok-clause-again
returns-in-Ok-clause-again g c =
    let lists = c.args.administration.now.lists.lists in
    let plan = planned c.args.plan in
    let first = c.args.diversions.now.ways in
    let late = c.begin_and_run.new.diversions.ways in
    let a = g.H.Host.state c.args.host.now in
    let b = g.H.Host.state c.begin_and_run.new.host in
    let d = g.H.Host.state c.finish.new.host in
    if_ok_one c.finish.result (λ u. u.unwinding ≡ c.in-Ok.ran.unwinding) (λ u. u.unwinding ≡ None → is_some c.args.spare.now ≡ true → IsReadAgain lists plan first late a d)
    (λ u same none there. read_longer lists plan first late a b d (c.in-Ok.ensures.again (sym same ∙ none) there) (later _ b d c.finish.ensures.any_moment)) c.finish.ensures.unwinding

pub returns-in-Ok-clause-apart : goal.returns-in-Ok-clause-apart
returns-in-Ok-clause-apart g c =
    let old = g.H.Host.state c.args.host.now in
    let mid = g.H.Host.state c.begin_and_run.new.host in
    let new = g.H.Host.state c.finish.new.host in
    works_behind is_record_place c.finish.result old mid new (gone_by is_record_place _ old mid (c.begin_and_run.ensures.any_moment c.requires.plan.of.job c.requires.plan.of.is) c.in-Ok.ensures.apart) (later_of _ mid new c.finish.ensures.any_moment) c.finish.ensures.apart

pub returns-in-Ok-clause-anew : goal.returns-in-Ok-clause-anew
returns-in-Ok-clause-anew g c = if_ok_one c.finish.result (λ u. u.anew ≡ c.in-Ok.ran.anew) (λ u. u.anew ≡ false → c.begin_and_run.new.diversions ≡ c.args.diversions.now) (λ u same no. c.in-Ok.ensures.anew (sym same ∙ no)) c.finish.ensures.anew

pub returns-clause-apart : goal.returns-clause-apart
returns-clause-apart g c = λ h. ((c.begin_and_run.ensures.apart h).0, tt)

pub returns-in-Ok-clause-counts : goal.returns-in-Ok-clause-counts
returns-in-Ok-clause-counts g c = counts_behind (g.H.Host.state c.args.host.now) (g.H.Host.state c.begin_and_run.new.host) (g.H.Host.state c.finish.new.host) c.finish.result c.in-Ok.ensures.counts c.finish.ensures.counts
