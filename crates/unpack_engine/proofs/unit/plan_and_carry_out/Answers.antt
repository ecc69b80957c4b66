use Rattle.std.proofs.Common.{◌≡◌, ◌↔◌, ◌⊎◌, true, inl, inr, List, None, refl, sym, ap, subst}
use Rattle.std.specs.Prelude.{IfOk, IfSome, is_some}
use Rattle.host_core.specs.Host.{AtEachMomentOf, Needs}
use Rattle.host_core.specs.Paths.{Path}
use Rattle.file_lists.specs.Beside.{AreSameBeside}
use Rattle.held_administration.specs.Order.{IsInOrder}
use Rattle.undo_rows.specs.Ended.{IsCauseOf, ended_as}
use Rattle.undo_rows.specs.Faults.{OnlyIfDeclined}
use Rattle.unpack_plan.specs.Planned.{planned}
use Rattle.unpack_rows.specs.EndStates.{own_name}
use Rattle.unpack_engine.specs.Tables.{HasCarriedOutPlan, IsJobOf, IsUnderWayByEither}
use Rattle.unpack_engine.specs.Units.{GoesByTable, HasFailedFor, HasReadAgain, HasUnpacked, IsReadAgain, IsTouched, given_from, ground_by, ground_of, job_of}
use Rattle.unpack_engine.proofs.Again.{read_earlier}
use Rattle.unpack_engine.proofs.Late.{by_job, order_late, reads_late}
use Rattle.unpack_engine.proofs.Planning.{called_of, either_amid, failed_late, if_ok_kept, looked_moments, planned_for, unpacked_late}
use Rattle.unpack_engine.proofs.Sequel.{denied_behind, if_ok_both, if_ok_one}
use Rattle.scattered_losses.proofs.GoingApart.{later_of, reads_gone, works_behind}
use Rattle.status_db.specs.Held.{is_record_place}
use Rattle.unpack_engine.proofs.unit.plan_and_carry_out.Goals as goal

pub carry_out-result-requires-clause-plan : goal.carry_out-result-requires-clause-plan
carry_out-result-requires-clause-plan g c =
    let held = c.args.administration.now in
    let first = c.args.diversions.now.ways in
    let given = given_from c.args.incoming held first first c.args.others.packages.items c.args.others.yields in
    let places = held.places in
    let old = g.H.Host.state c.args.host.now in
    let mid = g.H.Host.state c.plan_unit.new.host in
    let plan = planned c.in-Ok.unit.plan in
    let plan_for = c.in-Ok.ensures.planned in
    let of : IsJobOf (job_of given plan_for.stored) plan held.lists.lists first c.in-Ok.unit.spare = record { planned = plan_for.planned; lists_are = refl; ways_are = refl; tree = c.in-Ok.ensures.equal } in
    record { of = record { job = job_of given plan_for.stored; is = of }; records_are = refl; others = c.requires.others }

pub returns-in-Ok-clause-unit : goal.returns-in-Ok-clause-unit
returns-in-Ok-clause-unit g c =
    let held = c.args.administration.now in
    let first = c.args.diversions.now.ways in
    let given = given_from c.args.incoming held first first c.args.others.packages.items c.args.others.yields in
    let places = held.places in
    let old = g.H.Host.state c.args.host.now in
    let mid = g.H.Host.state c.plan_unit.new.host in
    let plan = planned c.in-Ok.unit.plan in
    let plan_for = c.in-Ok.ensures.planned in
    let of : IsJobOf (job_of given plan_for.stored) plan held.lists.lists first c.in-Ok.unit.spare = record { planned = plan_for.planned; lists_are = refl; ways_are = refl; tree = c.in-Ok.ensures.equal } in
    let new = g.H.Host.state c.carry_out-result.new.host in
    let late = c.carry_out-result.new.diversions.ways in
    let falls = (c.carry_out-result.ensures.any_moment (job_of given plan_for.stored) of).honest in
    let told = c.args.told.now.items in
    let now = c.carry_out-result.new.told.items in
    let done = c.carry_out-result.new.administration in
    if_ok_one c.carry_out-result.result _ _ (λ u has. unpacked_late given late places old mid c.plan_unit.ensures.reads c.plan_unit.ensures.silent plan plan_for new falls told now (ended_as u.unwinding) done.database done.lists.lists plan.rows has)
    (by_job c.carry_out-result.result given late places plan_for.stored plan c.in-Ok.unit.spare mid new told now done.database done.lists.lists (λ u. ended_as u.unwinding) c.in-Ok.unit.plan.rows.yields c.in-Ok.ensures.yields of c.carry_out-result.ensures.unit)

pub returns-in-Ok-clause-cause : goal.returns-in-Ok-clause-cause
returns-in-Ok-clause-cause g c =
    let held = c.args.administration.now in
    let first = c.args.diversions.now.ways in
    let given = given_from c.args.incoming held first first c.args.others.packages.items c.args.others.yields in
    let places = held.places in
    let old = g.H.Host.state c.args.host.now in
    let mid = g.H.Host.state c.plan_unit.new.host in
    let plan = planned c.in-Ok.unit.plan in
    let plan_for = c.in-Ok.ensures.planned in
    let of : IsJobOf (job_of given plan_for.stored) plan held.lists.lists first c.in-Ok.unit.spare = record { planned = plan_for.planned; lists_are = refl; ways_are = refl; tree = c.in-Ok.ensures.equal } in
    let new = g.H.Host.state c.carry_out-result.new.host in
    let late = c.carry_out-result.new.diversions.ways in
    let falls = (c.carry_out-result.ensures.any_moment (job_of given plan_for.stored) of).honest in
    let told = c.args.told.now.items in
    let now = c.carry_out-result.new.told.items in
    let done = c.carry_out-result.new.administration in
    if_ok_both c.carry_out-result.result _ _ _ (λ u has cause. failed_late given late places old mid c.plan_unit.ensures.reads c.plan_unit.ensures.silent plan plan_for new falls told now (ended_as u.unwinding) done.database done.lists.lists plan.rows has u.unwinding cause)
    (by_job c.carry_out-result.result given late places plan_for.stored plan c.in-Ok.unit.spare mid new told now done.database done.lists.lists (λ u. ended_as u.unwinding) c.in-Ok.unit.plan.rows.yields c.in-Ok.ensures.yields of c.carry_out-result.ensures.unit) c.carry_out-result.ensures.cause

pub returns-in-Ok-clause-table : goal.returns-in-Ok-clause-table
returns-in-Ok-clause-table g c =
    let held = c.args.administration.now in
    let first = c.args.diversions.now.ways in
    let given = given_from c.args.incoming held first first c.args.others.packages.items c.args.others.yields in
    let places = held.places in
    let old = g.H.Host.state c.args.host.now in
    let mid = g.H.Host.state c.plan_unit.new.host in
    let plan = planned c.in-Ok.unit.plan in
    let plan_for = c.in-Ok.ensures.planned in
    let of : IsJobOf (job_of given plan_for.stored) plan held.lists.lists first c.in-Ok.unit.spare = record { planned = plan_for.planned; lists_are = refl; ways_are = refl; tree = c.in-Ok.ensures.equal } in
    let new = g.H.Host.state c.carry_out-result.new.host in
    let late = c.carry_out-result.new.diversions.ways in
    let falls = (c.carry_out-result.ensures.any_moment (job_of given plan_for.stored) of).honest in
    let told = c.args.told.now.items in
    let now = c.carry_out-result.new.told.items in
    let done = c.carry_out-result.new.administration in
    let reads = λ (r : IsReadAgain held.lists.lists plan first late mid new). reads_late given late places old mid c.plan_unit.ensures.reads c.plan_unit.ensures.silent plan plan_for new falls r in
    if_ok_both c.carry_out-result.result _ _ _ (λ u either again. record { either = elim either [ inl same ↦ inl same | inr r ↦ inr (reads r) ]; again = λ whole there. reads (again whole (c.in-Ok.ensures.there there)) })
    c.carry_out-result.ensures.either c.carry_out-result.ensures.again

pub returns-in-Ok-clause-denied : goal.returns-in-Ok-clause-denied
returns-in-Ok-clause-denied g c =
    let old = g.H.Host.state c.args.host.now in
    let mid = g.H.Host.state c.plan_unit.new.host in
    let new = g.H.Host.state c.carry_out-result.new.host in
    if_ok_one c.carry_out-result.result (λ u. IfSome u.unwinding (λ one. OnlyIfDeclined one.fall.fault mid new)) (λ u. IfSome u.unwinding (λ one. OnlyIfDeclined one.fall.fault old new))
    (λ u. denied_behind u.unwinding old mid new c.in-Ok.ensures.counts) c.carry_out-result.ensures.denied

pub returns-in-Ok-clause-touched : goal.returns-in-Ok-clause-touched
returns-in-Ok-clause-touched g c =
    let before = c.args.administration.now.database.records in
    let after = c.carry_out-result.new.administration.database.records in
    let own = c.in-Ok.ensures.planned.planned.records_are.own in
    if_ok_one c.carry_out-result.result (λ u. IsTouched (own_name c.in-Ok.unit.plan.rows.found c.in-Ok.unit.plan.rows.incoming) before after u.touched) (λ u. IsTouched c.args.incoming.name before after u.touched)
    (λ u is. subst (λ name. IsTouched name before after u.touched) own is) c.carry_out-result.ensures.touched

pub returns-in-Ok-clause-alone : goal.returns-in-Ok-clause-alone
returns-in-Ok-clause-alone g c =
    let before = c.args.administration.now.lists.lists in
    let after = c.carry_out-result.new.administration.lists.lists in
    let own = c.in-Ok.ensures.planned.planned.records_are.own in
    if_ok_one c.carry_out-result.result (λ u. (u.alone ≡ true) ↔ AreSameBeside (own_name c.in-Ok.unit.plan.rows.found c.in-Ok.unit.plan.rows.incoming) before after) (λ u. (u.alone ≡ true) ↔ AreSameBeside c.args.incoming.name before after)
    (λ u is. subst (λ name. (u.alone ≡ true) ↔ AreSameBeside name before after) own is) c.carry_out-result.ensures.alone

pub returns-in-Ok-clause-told : goal.returns-in-Ok-clause-told
returns-in-Ok-clause-told g c =
    let held = c.args.administration.now in
    let first = c.args.diversions.now.ways in
    let given = given_from c.args.incoming held first first c.args.others.packages.items c.args.others.yields in
    let places = held.places in
    let old = g.H.Host.state c.args.host.now in
    let mid = g.H.Host.state c.plan_unit.new.host in
    let plan = planned c.in-Ok.unit.plan in
    let plan_for = c.in-Ok.ensures.planned in
    let of : IsJobOf (job_of given plan_for.stored) plan held.lists.lists first c.in-Ok.unit.spare = record { planned = plan_for.planned; lists_are = refl; ways_are = refl; tree = c.in-Ok.ensures.equal } in
    let new = g.H.Host.state c.carry_out-result.new.host in
    let late = c.carry_out-result.new.diversions.ways in
    let falls = (c.carry_out-result.ensures.any_moment (job_of given plan_for.stored) of).honest in
    let told = c.args.told.now.items in
    let now = c.carry_out-result.new.told.items in
    let done = c.carry_out-result.new.administration in
    called_of given places old mid c.plan_unit.ensures.reads c.plan_unit.ensures.silent plan plan_for new falls told now c.carry_out-result.ensures.told

pub returns-in-Ok-clause-any_moment : goal.returns-in-Ok-clause-any_moment
returns-in-Ok-clause-any_moment g c =
    let held = c.args.administration.now in
    let first = c.args.diversions.now.ways in
    let given = given_from c.args.incoming held first first c.args.others.packages.items c.args.others.yields in
    let places = held.places in
    let old = g.H.Host.state c.args.host.now in
    let mid = g.H.Host.state c.plan_unit.new.host in
    let plan = planned c.in-Ok.unit.plan in
    let plan_for = c.in-Ok.ensures.planned in
    let of : IsJobOf (job_of given plan_for.stored) plan held.lists.lists first c.in-Ok.unit.spare = record { planned = plan_for.planned; lists_are = refl; ways_are = refl; tree = c.in-Ok.ensures.equal } in
    let new = g.H.Host.state c.carry_out-result.new.host in
    let late = c.carry_out-result.new.diversions.ways in
    let falls = (c.carry_out-result.ensures.any_moment (job_of given plan_for.stored) of).honest in
    let told = c.args.told.now.items in
    let now = c.carry_out-result.new.told.items in
    let done = c.carry_out-result.new.administration in
    either_amid given late places old mid c.plan_unit.ensures.reads c.plan_unit.ensures.silent plan plan_for new falls
    (subst (λ (ys : List Path). AtEachMomentOf (IsUnderWayByEither (job_of given plan_for.stored) plan late (ground_by held first ys)) mid new) c.in-Ok.ensures.yields (c.carry_out-result.ensures.any_moment (job_of given plan_for.stored) of))

pub returns-in-Err-clause-any_moment : goal.returns-in-Err-clause-any_moment
returns-in-Err-clause-any_moment g c =
    looked_moments (given_from c.args.incoming c.args.administration.now c.args.diversions.now.ways c.args.diversions.now.ways c.args.others.packages.items c.args.others.yields) c.args.diversions.now.ways c.args.administration.now.places (g.H.Host.state c.args.host.now) (g.H.Host.state c.plan_unit.new.host) c.plan_unit.ensures.reads

pub returns-in-Ok-clause-order : goal.returns-in-Ok-clause-order
returns-in-Ok-clause-order g c =
    let held = c.args.administration.now in
    let first = c.args.diversions.now.ways in
    let given = given_from c.args.incoming held first first c.args.others.packages.items c.args.others.yields in
    let places = held.places in
    let old = g.H.Host.state c.args.host.now in
    let mid = g.H.Host.state c.plan_unit.new.host in
    let plan = planned c.in-Ok.unit.plan in
    let plan_for = c.in-Ok.ensures.planned in
    let of : IsJobOf (job_of given plan_for.stored) plan held.lists.lists first c.in-Ok.unit.spare = record { planned = plan_for.planned; lists_are = refl; ways_are = refl; tree = c.in-Ok.ensures.equal } in
    let new = g.H.Host.state c.carry_out-result.new.host in
    let late = c.carry_out-result.new.diversions.ways in
    let falls = (c.carry_out-result.ensures.any_moment (job_of given plan_for.stored) of).honest in
    let told = c.args.told.now.items in
    let now = c.carry_out-result.new.told.items in
    let done = c.carry_out-result.new.administration in
    if_ok_kept c.carry_out-result.result _ _ _ (λ u has kept. order_late given late places old mid c.plan_unit.ensures.reads c.plan_unit.ensures.silent plan plan_for new falls told now (ended_as u.unwinding) held.database done.database done.lists.lists plan.rows refl has kept c.requires.order)
    (by_job c.carry_out-result.result given late places plan_for.stored plan c.in-Ok.unit.spare mid new told now done.database done.lists.lists (λ u. ended_as u.unwinding) c.in-Ok.unit.plan.rows.yields c.in-Ok.ensures.yields of c.carry_out-result.ensures.unit) c.carry_out-result.ensures.kept

pub returns-in-Ok-clause-apart : goal.returns-in-Ok-clause-apart
returns-in-Ok-clause-apart g c =
    let old = g.H.Host.state c.args.host.now in
    let mid = g.H.Host.state c.plan_unit.new.host in
    let new = g.H.Host.state c.carry_out-result.new.host in
    λ h. let job = job_of (given_from c.args.incoming c.args.administration.now c.args.diversions.now.ways c.args.diversions.now.ways c.args.others.packages.items c.args.others.yields) c.in-Ok.ensures.planned.stored in
    let of : IsJobOf job (planned c.in-Ok.unit.plan) c.args.administration.now.lists.lists c.args.diversions.now.ways c.in-Ok.unit.spare = record { planned = c.in-Ok.ensures.planned.planned; lists_are = refl; ways_are = refl; tree = c.in-Ok.ensures.equal } in
    works_behind is_record_place c.carry_out-result.result old mid new (reads_gone is_record_place old mid c.plan_unit.ensures.reads) (later_of _ mid new (c.carry_out-result.ensures.any_moment job of)) c.carry_out-result.ensures.apart h

pub returns-in-Err-clause-apart : goal.returns-in-Err-clause-apart
returns-in-Err-clause-apart g c = λ h. (((reads_gone is_record_place (g.H.Host.state c.args.host.now) (g.H.Host.state c.plan_unit.new.host) c.plan_unit.ensures.reads).1 h).0, tt)
