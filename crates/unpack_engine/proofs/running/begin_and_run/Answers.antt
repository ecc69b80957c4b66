use Rattle.std.proofs.Common.{◌≡◌, ◌++◌, ◌⊎◌, List, None, Option, Some, false, true, length, take, refl, sym, ap, subst, ◌∙◌}
use Rattle.std.specs.Prelude.{IfNone, IfOk, is_some}
use Rattle.package_files.specs.declared.work.Work.{Work}
use Rattle.scattered_losses.proofs.GoingApart.{gone_by, gone_here, works_behind}
use Rattle.status_db.specs.Held.{is_record_place}
use Rattle.undo_rows.proofs.Listed.{fit_front}
use Rattle.undo_rows.specs.Ended.{IsCauseOf, ended_as}
use Rattle.undo_rows.specs.Place.{Fit}
use Rattle.undo_rows.specs.declared.rows.Row.{Row}
use Rattle.undo_rows.specs.declared.unwinding.Unwinding.{Unwinding}
use Rattle.unpack_plan.specs.Planned.{IsPlanned, planned_from}
use Rattle.unpack_rows.specs.EndStates.{own_name}
use Rattle.unpack_rows.specs.ForwardRows.{Fits}
use Rattle.unpack_rows.specs.Kinds.{kinds_of}
use Rattle.unpack_rows.specs.Stages.{has_files}
use Rattle.unpack_steps.specs.At.{holding_by}
use Rattle.unpack_steps.specs.Task.{task_by}
use Rattle.unpack_engine.specs.Units.{HasBegun, HasRunRows, IsPlanBy, IsReadAgain}
use Rattle.unpack_engine.proofs.Again.{planned_by}
use Rattle.unpack_engine.proofs.Parts.{all_then, called_first, called_then_all, cause_first, job_then, joined, moments_then, none_then, planned_then, read_or_same, read_then, running_first, running_here, succeeded_then, there_then, unwound_first}
use Rattle.unpack_engine.proofs.Sequel.{if_ok_both, if_ok_one, later}
use Rattle.unpack_engine.proofs.Whole.{parts_kinds, parts_rows, parts_sound}
use Rattle.unpack_engine.proofs.running.begin_and_run.Goals as goal

pub returns-in_default-clause-any_moment : goal.returns-in_default-clause-any_moment
returns-in_default-clause-any_moment g c = λ j is.
    running_here j c.args.rows.now c.args.calls.items c.args.commit.now c.args.works.now.items c.args.diversions.now.ways c.args.diversions.now.ways c.args.administration.now (g.H.Host.state c.args.host.now) (λ h. ((c.requires.order h).tmp, g.H.Host.tree c.args.host.now h))

pub returns-in_default-clause-apart : goal.returns-in_default-clause-apart
returns-in_default-clause-apart g c = λ h. (((gone_here is_record_place (g.H.Host.state c.args.host.now)).1 h).0, tt)

pub begin_rows-requires-clause-sound : goal.begin_rows-requires-clause-sound
begin_rows-requires-clause-sound g c =
    let held = c.args.administration.now in
    let rows = c.args.rows.now in
    let works = c.args.works.now.items in
    let first = c.args.diversions.now.ways in
    let commit = c.args.commit.now in
    let calls = c.args.calls.items in
    let plan : IsPlanBy held.database.records (planned_from rows works calls commit) = record { job = c.requires.plan.of.job; records_are = c.requires.plan.records_are; others = c.requires.plan.others; planned = c.requires.plan.of.is.planned } in
    let before = c.in-Ok.halves.before.items in
    let files = c.in-Ok.halves.files.items in
    let old = g.H.Host.state c.args.host.now in
    parts_sound held first rows works calls commit plan c.requires.standing old

pub begin_rows-requires-clause-kinds : goal.begin_rows-requires-clause-kinds
begin_rows-requires-clause-kinds g c =
    let held = c.args.administration.now in
    let rows = c.args.rows.now in
    let works = c.args.works.now.items in
    let first = c.args.diversions.now.ways in
    let commit = c.args.commit.now in
    let calls = c.args.calls.items in
    let plan : IsPlanBy held.database.records (planned_from rows works calls commit) = record { job = c.requires.plan.of.job; records_are = c.requires.plan.records_are; others = c.requires.plan.others; planned = c.requires.plan.of.is.planned } in
    let before = c.in-Ok.halves.before.items in
    let files = c.in-Ok.halves.files.items in
    let old = g.H.Host.state c.args.host.now in
    parts_kinds held first rows works calls commit plan

pub begin_rows-requires-clause-rows : goal.begin_rows-requires-clause-rows
begin_rows-requires-clause-rows g c =
    let held = c.args.administration.now in
    let rows = c.args.rows.now in
    let works = c.args.works.now.items in
    let first = c.args.diversions.now.ways in
    let commit = c.args.commit.now in
    let calls = c.args.calls.items in
    let plan : IsPlanBy held.database.records (planned_from rows works calls commit) = record { job = c.requires.plan.of.job; records_are = c.requires.plan.records_are; others = c.requires.plan.others; planned = c.requires.plan.of.is.planned } in
    let before = c.in-Ok.halves.before.items in
    let files = c.in-Ok.halves.files.items in
    let old = g.H.Host.state c.args.host.now in
    fit_front (Fits (own_name rows.found rows.incoming) (kinds_of rows.found rows.others.items)) calls before files (sym c.in-Ok.ensures.all) (parts_rows held first rows works calls commit plan)

pub run_files-requires-clause-there : goal.run_files-requires-clause-there
run_files-requires-clause-there g c =
    let held = c.args.administration.now in
    let rows = c.args.rows.now in
    let works = c.args.works.now.items in
    let first = c.args.diversions.now.ways in
    let commit = c.args.commit.now in
    let calls = c.args.calls.items in
    let plan : IsPlanBy held.database.records (planned_from rows works calls commit) = record { job = c.requires.plan.of.job; records_are = c.requires.plan.records_are; others = c.requires.plan.others; planned = c.requires.plan.of.is.planned } in
    let before = c.in-Ok.halves.before.items in
    let files = c.in-Ok.halves.files.items in
    let old = g.H.Host.state c.args.host.now in
    let mid = g.H.Host.state c.begin_rows.new.host in
    let told = c.args.told.now.items in
    let behind = c.begin_rows.new.told.items in
    let here = holding_by c.begin_rows.new.administration c.begin_rows.new.works.items in
    let up = c.in-Ok-begin_rows.first.underway in
    let began = subst (λ (u : Option Unwinding). (ran : HasRunRows (HasBegun commit.members) (λ s. task_by s held first works rows) before (ended_as u) here old mid told behind) × (g.H.Host.state up.start.host.value ≡ ran.begun)) c.in-None.is c.in-Ok-begin_rows.ensures.ran in
    let stack = subst (λ (u : Option Unwinding). IfNone u (up.stack ≡ before)) c.in-None.is c.in-Ok-begin_rows.ensures.stack in
    let none = subst (λ ks. has_files (take (length before) ks) ≡ false) (parts_kinds held first rows works calls commit plan) c.in-Ok.ensures.before in
    there_then held rows works first commit before files calls c.in-Ok.ensures.all none old mid told behind here (g.H.Host.state up.start.host.value) up.start.administration.value up.stack stack began.0 began.1 c.in-Ok-begin_rows.ensures.start

pub run_files-requires-clause-before : goal.run_files-requires-clause-before
run_files-requires-clause-before g c =
    let held = c.args.administration.now in
    let rows = c.args.rows.now in
    let works = c.args.works.now.items in
    let first = c.args.diversions.now.ways in
    let commit = c.args.commit.now in
    let calls = c.args.calls.items in
    let plan : IsPlanBy held.database.records (planned_from rows works calls commit) = record { job = c.requires.plan.of.job; records_are = c.requires.plan.records_are; others = c.requires.plan.others; planned = c.requires.plan.of.is.planned } in
    let before = c.in-Ok.halves.before.items in
    let files = c.in-Ok.halves.files.items in
    let old = g.H.Host.state c.args.host.now in
    let mid = g.H.Host.state c.begin_rows.new.host in
    let told = c.args.told.now.items in
    let behind = c.begin_rows.new.told.items in
    let here = holding_by c.begin_rows.new.administration c.begin_rows.new.works.items in
    let up = c.in-Ok-begin_rows.first.underway in
    let began = subst (λ (u : Option Unwinding). (ran : HasRunRows (HasBegun commit.members) (λ s. task_by s held first works rows) before (ended_as u) here old mid told behind) × (g.H.Host.state up.start.host.value ≡ ran.begun)) c.in-None.is c.in-Ok-begin_rows.ensures.ran in
    let stack = subst (λ (u : Option Unwinding). IfNone u (up.stack ≡ before)) c.in-None.is c.in-Ok-begin_rows.ensures.stack in
    let none = subst (λ ks. has_files (take (length before) ks) ≡ false) (parts_kinds held first rows works calls commit plan) c.in-Ok.ensures.before in
    none_then held rows works first commit before files calls c.in-Ok.ensures.all none old mid told behind here (g.H.Host.state up.start.host.value) up.start.administration.value up.stack stack began.0 began.1 c.in-Ok-begin_rows.ensures.start

pub run_files-requires-clause-kinds : goal.run_files-requires-clause-kinds
run_files-requires-clause-kinds g c =
    let held = c.args.administration.now in
    let rows = c.args.rows.now in
    let works = c.args.works.now.items in
    let first = c.args.diversions.now.ways in
    let commit = c.args.commit.now in
    let calls = c.args.calls.items in
    let plan : IsPlanBy held.database.records (planned_from rows works calls commit) = record { job = c.requires.plan.of.job; records_are = c.requires.plan.records_are; others = c.requires.plan.others; planned = c.requires.plan.of.is.planned } in
    let before = c.in-Ok.halves.before.items in
    let files = c.in-Ok.halves.files.items in
    let old = g.H.Host.state c.args.host.now in
    parts_kinds held first rows works calls commit plan

pub run_files-requires-clause-rows : goal.run_files-requires-clause-rows
run_files-requires-clause-rows g c =
    let held = c.args.administration.now in
    let rows = c.args.rows.now in
    let works = c.args.works.now.items in
    let first = c.args.diversions.now.ways in
    let commit = c.args.commit.now in
    let calls = c.args.calls.items in
    let plan : IsPlanBy held.database.records (planned_from rows works calls commit) = record { job = c.requires.plan.of.job; records_are = c.requires.plan.records_are; others = c.requires.plan.others; planned = c.requires.plan.of.is.planned } in
    let before = c.in-Ok.halves.before.items in
    let files = c.in-Ok.halves.files.items in
    let old = g.H.Host.state c.args.host.now in
    let mid = g.H.Host.state c.begin_rows.new.host in
    let told = c.args.told.now.items in
    let behind = c.begin_rows.new.told.items in
    let here = holding_by c.begin_rows.new.administration c.begin_rows.new.works.items in
    let up = c.in-Ok-begin_rows.first.underway in
    let began = subst (λ (u : Option Unwinding). (ran : HasRunRows (HasBegun commit.members) (λ s. task_by s held first works rows) before (ended_as u) here old mid told behind) × (g.H.Host.state up.start.host.value ≡ ran.begun)) c.in-None.is c.in-Ok-begin_rows.ensures.ran in
    let stack = subst (λ (u : Option Unwinding). IfNone u (up.stack ≡ before)) c.in-None.is c.in-Ok-begin_rows.ensures.stack in
    let none = subst (λ ks. has_files (take (length before) ks) ≡ false) (parts_kinds held first rows works calls commit plan) c.in-Ok.ensures.before in
    subst (λ (l : List Row). Fit (Fits (own_name rows.found rows.incoming) (kinds_of rows.found rows.others.items)) l) (sym (all_then held rows works first commit before files calls c.in-Ok.ensures.all none old mid told behind here (g.H.Host.state up.start.host.value) up.start.administration.value up.stack stack began.0 began.1 c.in-Ok-begin_rows.ensures.start)) (parts_rows held first rows works calls commit plan)

pub run_files-requires-clause-plan : goal.run_files-requires-clause-plan
run_files-requires-clause-plan g c =
    let held = c.args.administration.now in
    let rows = c.args.rows.now in
    let works = c.args.works.now.items in
    let first = c.args.diversions.now.ways in
    let commit = c.args.commit.now in
    let calls = c.args.calls.items in
    let plan : IsPlanBy held.database.records (planned_from rows works calls commit) = record { job = c.requires.plan.of.job; records_are = c.requires.plan.records_are; others = c.requires.plan.others; planned = c.requires.plan.of.is.planned } in
    let before = c.in-Ok.halves.before.items in
    let files = c.in-Ok.halves.files.items in
    let old = g.H.Host.state c.args.host.now in
    let mid = g.H.Host.state c.begin_rows.new.host in
    let told = c.args.told.now.items in
    let behind = c.begin_rows.new.told.items in
    let here = holding_by c.begin_rows.new.administration c.begin_rows.new.works.items in
    let up = c.in-Ok-begin_rows.first.underway in
    let began = subst (λ (u : Option Unwinding). (ran : HasRunRows (HasBegun commit.members) (λ s. task_by s held first works rows) before (ended_as u) here old mid told behind) × (g.H.Host.state up.start.host.value ≡ ran.begun)) c.in-None.is c.in-Ok-begin_rows.ensures.ran in
    let stack = subst (λ (u : Option Unwinding). IfNone u (up.stack ≡ before)) c.in-None.is c.in-Ok-begin_rows.ensures.stack in
    let none = subst (λ ks. has_files (take (length before) ks) ≡ false) (parts_kinds held first rows works calls commit plan) c.in-Ok.ensures.before in
    record { job = c.requires.plan.of.job; is = job_then held rows works first commit before files calls c.in-Ok.ensures.all none old mid told behind here (g.H.Host.state up.start.host.value) up.start.administration.value up.stack stack began.0 began.1 c.in-Ok-begin_rows.ensures.start c.requires.plan.of.job c.args.spare.now c.requires.plan.of.is }

pub returns-in-Some-clause-ran : goal.returns-in-Some-clause-ran
returns-in-Some-clause-ran g c =
    let held = c.args.administration.now in
    let rows = c.args.rows.now in
    let works = c.args.works.now.items in
    let first = c.args.diversions.now.ways in
    let commit = c.args.commit.now in
    let calls = c.args.calls.items in
    let plan : IsPlanBy held.database.records (planned_from rows works calls commit) = record { job = c.requires.plan.of.job; records_are = c.requires.plan.records_are; others = c.requires.plan.others; planned = c.requires.plan.of.is.planned } in
    let before = c.in-Ok.halves.before.items in
    let files = c.in-Ok.halves.files.items in
    let old = g.H.Host.state c.args.host.now in
    let mid = g.H.Host.state c.begin_rows.new.host in
    let told = c.args.told.now.items in
    let behind = c.begin_rows.new.told.items in
    let here = holding_by c.begin_rows.new.administration c.begin_rows.new.works.items in
    let up = c.in-Ok-begin_rows.first.underway in
    let shipped = sym (ap (λ v. v.items) c.of-shipped.ensures) in
    let began = subst (λ (u : Option Unwinding). (ran : HasRunRows (HasBegun commit.members) (λ s. task_by s held first works rows) before (ended_as u) here old mid told behind) × (g.H.Host.state up.start.host.value ≡ ran.begun)) c.in-Some.is c.in-Ok-begin_rows.ensures.ran in
    subst (λ (x : List Work). HasRunRows (HasBegun commit.members) (λ s. task_by s held first x rows) calls (ended_as (Some c.in-Some.unwinding)) here old mid told behind) shipped
    (unwound_first before files calls c.in-Ok.ensures.all (HasBegun commit.members) (λ s. task_by s held first works rows) c.in-Some.unwinding here old mid told behind began.0)

pub returns-in-Some-clause-plan : goal.returns-in-Some-clause-plan
returns-in-Some-clause-plan g c =
    let held = c.args.administration.now in
    let rows = c.args.rows.now in
    let works = c.args.works.now.items in
    let first = c.args.diversions.now.ways in
    let commit = c.args.commit.now in
    let calls = c.args.calls.items in
    let plan : IsPlanBy held.database.records (planned_from rows works calls commit) = record { job = c.requires.plan.of.job; records_are = c.requires.plan.records_are; others = c.requires.plan.others; planned = c.requires.plan.of.is.planned } in
    let before = c.in-Ok.halves.before.items in
    let files = c.in-Ok.halves.files.items in
    let old = g.H.Host.state c.args.host.now in
    let mid = g.H.Host.state c.begin_rows.new.host in
    let told = c.args.told.now.items in
    let behind = c.begin_rows.new.told.items in
    let here = holding_by c.begin_rows.new.administration c.begin_rows.new.works.items in
    let up = c.in-Ok-begin_rows.first.underway in
    let shipped = sym (ap (λ v. v.items) c.of-shipped.ensures) in
    subst (λ (x : List Work). IsPlanBy held.database.records (planned_from rows x calls commit)) shipped plan

pub returns-in-Some-clause-planned : goal.returns-in-Some-clause-planned
returns-in-Some-clause-planned g c = λ j is.
    let held = c.args.administration.now in
    let rows = c.args.rows.now in
    let works = c.args.works.now.items in
    let first = c.args.diversions.now.ways in
    let commit = c.args.commit.now in
    let calls = c.args.calls.items in
    let plan : IsPlanBy held.database.records (planned_from rows works calls commit) = record { job = c.requires.plan.of.job; records_are = c.requires.plan.records_are; others = c.requires.plan.others; planned = c.requires.plan.of.is.planned } in
    let before = c.in-Ok.halves.before.items in
    let files = c.in-Ok.halves.files.items in
    let old = g.H.Host.state c.args.host.now in
    let mid = g.H.Host.state c.begin_rows.new.host in
    let told = c.args.told.now.items in
    let behind = c.begin_rows.new.told.items in
    let here = holding_by c.begin_rows.new.administration c.begin_rows.new.works.items in
    let up = c.in-Ok-begin_rows.first.underway in
    let shipped = sym (ap (λ v. v.items) c.of-shipped.ensures) in
    subst (λ (x : List Work). IsPlanned (record j { ways = first }) (planned_from rows x calls commit)) shipped (subst (λ ways. IsPlanned (record j { ways = ways }) (planned_from rows works calls commit)) is.ways_are is.planned)

pub returns-in-Some-clause-cause : goal.returns-in-Some-clause-cause
returns-in-Some-clause-cause g c =
    let held = c.args.administration.now in
    let rows = c.args.rows.now in
    let works = c.args.works.now.items in
    let first = c.args.diversions.now.ways in
    let commit = c.args.commit.now in
    let calls = c.args.calls.items in
    let plan : IsPlanBy held.database.records (planned_from rows works calls commit) = record { job = c.requires.plan.of.job; records_are = c.requires.plan.records_are; others = c.requires.plan.others; planned = c.requires.plan.of.is.planned } in
    let before = c.in-Ok.halves.before.items in
    let files = c.in-Ok.halves.files.items in
    let old = g.H.Host.state c.args.host.now in
    cause_first before files calls c.in-Ok.ensures.all c.in-Some.unwinding (subst (IsCauseOf before) c.in-Some.is c.in-Ok-begin_rows.ensures.cause)

pub returns-in-Some-clause-told : goal.returns-in-Some-clause-told
returns-in-Some-clause-told g c =
    let held = c.args.administration.now in
    let rows = c.args.rows.now in
    let works = c.args.works.now.items in
    let first = c.args.diversions.now.ways in
    let commit = c.args.commit.now in
    let calls = c.args.calls.items in
    let plan : IsPlanBy held.database.records (planned_from rows works calls commit) = record { job = c.requires.plan.of.job; records_are = c.requires.plan.records_are; others = c.requires.plan.others; planned = c.requires.plan.of.is.planned } in
    let before = c.in-Ok.halves.before.items in
    let files = c.in-Ok.halves.files.items in
    let old = g.H.Host.state c.args.host.now in
    called_first before files calls c.in-Ok.ensures.all old (g.H.Host.state c.begin_rows.new.host) c.args.told.now.items c.begin_rows.new.told.items c.begin_rows.ensures.told

pub returns-in-Some-clause-any_moment : goal.returns-in-Some-clause-any_moment
returns-in-Some-clause-any_moment g c = λ j is.
    running_first j c.args.rows.now c.args.calls.items c.args.commit.now c.args.works.now.items c.args.diversions.now.ways c.args.diversions.now.ways c.args.administration.now (g.H.Host.state c.args.host.now) (g.H.Host.state c.begin_rows.new.host) c.begin_rows.ensures.any_moment

pub returns-in-Err-clause-any_moment : goal.returns-in-Err-clause-any_moment
returns-in-Err-clause-any_moment g c = λ j is.
    running_first j c.args.rows.now c.args.calls.items c.args.commit.now c.args.works.now.items c.args.diversions.now.ways c.args.diversions.now.ways c.args.administration.now (g.H.Host.state c.args.host.now) (g.H.Host.state c.begin_rows.new.host) c.begin_rows.ensures.any_moment

pub returns-in-Err-clause-told : goal.returns-in-Err-clause-told
returns-in-Err-clause-told g c =
    let held = c.args.administration.now in
    let rows = c.args.rows.now in
    let works = c.args.works.now.items in
    let first = c.args.diversions.now.ways in
    let commit = c.args.commit.now in
    let calls = c.args.calls.items in
    let plan : IsPlanBy held.database.records (planned_from rows works calls commit) = record { job = c.requires.plan.of.job; records_are = c.requires.plan.records_are; others = c.requires.plan.others; planned = c.requires.plan.of.is.planned } in
    let before = c.in-Ok.halves.before.items in
    let files = c.in-Ok.halves.files.items in
    let old = g.H.Host.state c.args.host.now in
    called_first before files calls c.in-Ok.ensures.all old (g.H.Host.state c.begin_rows.new.host) c.args.told.now.items c.begin_rows.new.told.items c.begin_rows.ensures.told

pub returns-in-None-clause-ran : goal.returns-in-None-clause-ran
returns-in-None-clause-ran g c =
    let held = c.args.administration.now in
    let rows = c.args.rows.now in
    let works = c.args.works.now.items in
    let first = c.args.diversions.now.ways in
    let commit = c.args.commit.now in
    let calls = c.args.calls.items in
    let plan : IsPlanBy held.database.records (planned_from rows works calls commit) = record { job = c.requires.plan.of.job; records_are = c.requires.plan.records_are; others = c.requires.plan.others; planned = c.requires.plan.of.is.planned } in
    let before = c.in-Ok.halves.before.items in
    let files = c.in-Ok.halves.files.items in
    let old = g.H.Host.state c.args.host.now in
    let mid = g.H.Host.state c.begin_rows.new.host in
    let told = c.args.told.now.items in
    let behind = c.begin_rows.new.told.items in
    let here = holding_by c.begin_rows.new.administration c.begin_rows.new.works.items in
    let up = c.in-Ok-begin_rows.first.underway in
    let began = subst (λ (u : Option Unwinding). (ran : HasRunRows (HasBegun commit.members) (λ s. task_by s held first works rows) before (ended_as u) here old mid told behind) × (g.H.Host.state up.start.host.value ≡ ran.begun)) c.in-None.is c.in-Ok-begin_rows.ensures.ran in
    let stack = subst (λ (u : Option Unwinding). IfNone u (up.stack ≡ before)) c.in-None.is c.in-Ok-begin_rows.ensures.stack in
    let none = subst (λ ks. has_files (take (length before) ks) ≡ false) (parts_kinds held first rows works calls commit plan) c.in-Ok.ensures.before in
    let end = g.H.Host.state c.run_files.new.host in
    let now = c.run_files.new.told.items in
    let late = c.run_files.new.diversions.ways in
    let job = c.requires.plan.of.job in
    let is = job_then held rows works first commit before files calls c.in-Ok.ensures.all none old mid told behind here (g.H.Host.state up.start.host.value) up.start.administration.value up.stack stack began.0 began.1 c.in-Ok-begin_rows.ensures.start job c.args.spare.now c.requires.plan.of.is in
    let later_on = later _ mid end (c.run_files.ensures.any_moment job is) in
    if_ok_both c.run_files.result _ _ _ (λ r run there. joined held rows works first commit before files calls c.in-Ok.ensures.all none old mid told behind here (g.H.Host.state up.start.host.value) up.start.administration.value up.stack stack began.0 began.1 c.in-Ok-begin_rows.ensures.start end now later_on late r.shipped.value.items c.run_files.new.commit c.run_files.ensures.members r.unwinding (holding_by c.run_files.new.administration c.run_files.new.works.items) (run began.0.begun told (succeeded_then held rows works first commit before files calls c.in-Ok.ensures.all none old mid told behind here (g.H.Host.state up.start.host.value) up.start.administration.value up.stack stack began.0 began.1 c.in-Ok-begin_rows.ensures.start)) there)
    c.run_files.ensures.ran c.run_files.ensures.there

pub returns-in-None-clause-plan : goal.returns-in-None-clause-plan
returns-in-None-clause-plan g c =
    let held = c.args.administration.now in
    let rows = c.args.rows.now in
    let works = c.args.works.now.items in
    let first = c.args.diversions.now.ways in
    let commit = c.args.commit.now in
    let calls = c.args.calls.items in
    let plan : IsPlanBy held.database.records (planned_from rows works calls commit) = record { job = c.requires.plan.of.job; records_are = c.requires.plan.records_are; others = c.requires.plan.others; planned = c.requires.plan.of.is.planned } in
    let before = c.in-Ok.halves.before.items in
    let files = c.in-Ok.halves.files.items in
    let old = g.H.Host.state c.args.host.now in
    let mid = g.H.Host.state c.begin_rows.new.host in
    let told = c.args.told.now.items in
    let behind = c.begin_rows.new.told.items in
    let here = holding_by c.begin_rows.new.administration c.begin_rows.new.works.items in
    let up = c.in-Ok-begin_rows.first.underway in
    let began = subst (λ (u : Option Unwinding). (ran : HasRunRows (HasBegun commit.members) (λ s. task_by s held first works rows) before (ended_as u) here old mid told behind) × (g.H.Host.state up.start.host.value ≡ ran.begun)) c.in-None.is c.in-Ok-begin_rows.ensures.ran in
    let stack = subst (λ (u : Option Unwinding). IfNone u (up.stack ≡ before)) c.in-None.is c.in-Ok-begin_rows.ensures.stack in
    let none = subst (λ ks. has_files (take (length before) ks) ≡ false) (parts_kinds held first rows works calls commit plan) c.in-Ok.ensures.before in
    let end = g.H.Host.state c.run_files.new.host in
    let now = c.run_files.new.told.items in
    let late = c.run_files.new.diversions.ways in
    let job = c.requires.plan.of.job in
    let is = job_then held rows works first commit before files calls c.in-Ok.ensures.all none old mid told behind here (g.H.Host.state up.start.host.value) up.start.administration.value up.stack stack began.0 began.1 c.in-Ok-begin_rows.ensures.start job c.args.spare.now c.requires.plan.of.is in
    let later_on = later _ mid end (c.run_files.ensures.any_moment job is) in
    if_ok_one c.run_files.result _ _ (λ r by. planned_by held.database.records held.lists.lists first late c.args.spare.now (planned_from rows works calls commit) (planned_from rows r.shipped.value.items calls c.run_files.new.commit) c.requires.plan (planned_then held rows works first commit before files calls c.in-Ok.ensures.all none old mid told behind here (g.H.Host.state up.start.host.value) up.start.administration.value up.stack stack began.0 began.1 c.in-Ok-begin_rows.ensures.start job late r.shipped.value.items c.run_files.new.commit (by job is))) c.run_files.ensures.planned

pub returns-in-None-clause-planned : goal.returns-in-None-clause-planned
returns-in-None-clause-planned g c =
    let held = c.args.administration.now in
    let rows = c.args.rows.now in
    let works = c.args.works.now.items in
    let first = c.args.diversions.now.ways in
    let commit = c.args.commit.now in
    let calls = c.args.calls.items in
    let plan : IsPlanBy held.database.records (planned_from rows works calls commit) = record { job = c.requires.plan.of.job; records_are = c.requires.plan.records_are; others = c.requires.plan.others; planned = c.requires.plan.of.is.planned } in
    let before = c.in-Ok.halves.before.items in
    let files = c.in-Ok.halves.files.items in
    let old = g.H.Host.state c.args.host.now in
    let mid = g.H.Host.state c.begin_rows.new.host in
    let told = c.args.told.now.items in
    let behind = c.begin_rows.new.told.items in
    let here = holding_by c.begin_rows.new.administration c.begin_rows.new.works.items in
    let up = c.in-Ok-begin_rows.first.underway in
    let began = subst (λ (u : Option Unwinding). (ran : HasRunRows (HasBegun commit.members) (λ s. task_by s held first works rows) before (ended_as u) here old mid told behind) × (g.H.Host.state up.start.host.value ≡ ran.begun)) c.in-None.is c.in-Ok-begin_rows.ensures.ran in
    let stack = subst (λ (u : Option Unwinding). IfNone u (up.stack ≡ before)) c.in-None.is c.in-Ok-begin_rows.ensures.stack in
    let none = subst (λ ks. has_files (take (length before) ks) ≡ false) (parts_kinds held first rows works calls commit plan) c.in-Ok.ensures.before in
    let late = c.run_files.new.diversions.ways in
    if_ok_one c.run_files.result _ _ (λ r by j is. planned_then held rows works first commit before files calls c.in-Ok.ensures.all none old mid told behind here (g.H.Host.state up.start.host.value) up.start.administration.value up.stack stack began.0 began.1 c.in-Ok-begin_rows.ensures.start j late r.shipped.value.items c.run_files.new.commit (by j (job_then held rows works first commit before files calls c.in-Ok.ensures.all none old mid told behind here (g.H.Host.state up.start.host.value) up.start.administration.value up.stack stack began.0 began.1 c.in-Ok-begin_rows.ensures.start j c.args.spare.now is))) c.run_files.ensures.planned

pub returns-in-None-clause-either : goal.returns-in-None-clause-either
returns-in-None-clause-either g c =
    let held = c.args.administration.now in
    let rows = c.args.rows.now in
    let works = c.args.works.now.items in
    let first = c.args.diversions.now.ways in
    let commit = c.args.commit.now in
    let calls = c.args.calls.items in
    let plan : IsPlanBy held.database.records (planned_from rows works calls commit) = record { job = c.requires.plan.of.job; records_are = c.requires.plan.records_are; others = c.requires.plan.others; planned = c.requires.plan.of.is.planned } in
    let before = c.in-Ok.halves.before.items in
    let files = c.in-Ok.halves.files.items in
    let old = g.H.Host.state c.args.host.now in
    let mid = g.H.Host.state c.begin_rows.new.host in
    let told = c.args.told.now.items in
    let behind = c.begin_rows.new.told.items in
    let here = holding_by c.begin_rows.new.administration c.begin_rows.new.works.items in
    let up = c.in-Ok-begin_rows.first.underway in
    let began = subst (λ (u : Option Unwinding). (ran : HasRunRows (HasBegun commit.members) (λ s. task_by s held first works rows) before (ended_as u) here old mid told behind) × (g.H.Host.state up.start.host.value ≡ ran.begun)) c.in-None.is c.in-Ok-begin_rows.ensures.ran in
    let stack = subst (λ (u : Option Unwinding). IfNone u (up.stack ≡ before)) c.in-None.is c.in-Ok-begin_rows.ensures.stack in
    let none = subst (λ ks. has_files (take (length before) ks) ≡ false) (parts_kinds held first rows works calls commit plan) c.in-Ok.ensures.before in
    let end = g.H.Host.state c.run_files.new.host in
    let now = c.run_files.new.told.items in
    let late = c.run_files.new.diversions.ways in
    let job = c.requires.plan.of.job in
    let is = job_then held rows works first commit before files calls c.in-Ok.ensures.all none old mid told behind here (g.H.Host.state up.start.host.value) up.start.administration.value up.stack stack began.0 began.1 c.in-Ok-begin_rows.ensures.start job c.args.spare.now c.requires.plan.of.is in
    let later_on = later _ mid end (c.run_files.ensures.any_moment job is) in
    read_or_same c.run_files.result c.args.spare.now (late ≡ first) (IsReadAgain held.lists.lists (planned_from rows works calls commit) first late old end)
    (if_ok_one c.run_files.result _ _ (λ r read there. read_then held rows works first commit before files calls c.in-Ok.ensures.all none old mid told behind here (g.H.Host.state up.start.host.value) up.start.administration.value up.stack stack began.0 began.1 c.in-Ok-begin_rows.ensures.start end now later_on c.in-Ok.ensures.before c.in-Ok.ensures.next late (read there)) c.run_files.ensures.table)
    (if_ok_one c.run_files.result _ _ (λ r same there. ap (λ d. d.ways) (same there)) c.run_files.ensures.same)

pub returns-in-None-clause-again : goal.returns-in-None-clause-again
returns-in-None-clause-again g c =
    let held = c.args.administration.now in
    let rows = c.args.rows.now in
    let works = c.args.works.now.items in
    let first = c.args.diversions.now.ways in
    let commit = c.args.commit.now in
    let calls = c.args.calls.items in
    let plan : IsPlanBy held.database.records (planned_from rows works calls commit) = record { job = c.requires.plan.of.job; records_are = c.requires.plan.records_are; others = c.requires.plan.others; planned = c.requires.plan.of.is.planned } in
    let before = c.in-Ok.halves.before.items in
    let files = c.in-Ok.halves.files.items in
    let old = g.H.Host.state c.args.host.now in
    let mid = g.H.Host.state c.begin_rows.new.host in
    let told = c.args.told.now.items in
    let behind = c.begin_rows.new.told.items in
    let here = holding_by c.begin_rows.new.administration c.begin_rows.new.works.items in
    let up = c.in-Ok-begin_rows.first.underway in
    let began = subst (λ (u : Option Unwinding). (ran : HasRunRows (HasBegun commit.members) (λ s. task_by s held first works rows) before (ended_as u) here old mid told behind) × (g.H.Host.state up.start.host.value ≡ ran.begun)) c.in-None.is c.in-Ok-begin_rows.ensures.ran in
    let stack = subst (λ (u : Option Unwinding). IfNone u (up.stack ≡ before)) c.in-None.is c.in-Ok-begin_rows.ensures.stack in
    let none = subst (λ ks. has_files (take (length before) ks) ≡ false) (parts_kinds held first rows works calls commit plan) c.in-Ok.ensures.before in
    let end = g.H.Host.state c.run_files.new.host in
    let now = c.run_files.new.told.items in
    let late = c.run_files.new.diversions.ways in
    let job = c.requires.plan.of.job in
    let is = job_then held rows works first commit before files calls c.in-Ok.ensures.all none old mid told behind here (g.H.Host.state up.start.host.value) up.start.administration.value up.stack stack began.0 began.1 c.in-Ok-begin_rows.ensures.start job c.args.spare.now c.requires.plan.of.is in
    let later_on = later _ mid end (c.run_files.ensures.any_moment job is) in
    if_ok_one c.run_files.result _ _ (λ r read whole there. read_then held rows works first commit before files calls c.in-Ok.ensures.all none old mid told behind here (g.H.Host.state up.start.host.value) up.start.administration.value up.stack stack began.0 began.1 c.in-Ok-begin_rows.ensures.start end now later_on c.in-Ok.ensures.before c.in-Ok.ensures.next late (read there)) c.run_files.ensures.table

pub returns-in-None-clause-told : goal.returns-in-None-clause-told
returns-in-None-clause-told g c =
    let held = c.args.administration.now in
    let rows = c.args.rows.now in
    let works = c.args.works.now.items in
    let first = c.args.diversions.now.ways in
    let commit = c.args.commit.now in
    let calls = c.args.calls.items in
    let plan : IsPlanBy held.database.records (planned_from rows works calls commit) = record { job = c.requires.plan.of.job; records_are = c.requires.plan.records_are; others = c.requires.plan.others; planned = c.requires.plan.of.is.planned } in
    let before = c.in-Ok.halves.before.items in
    let files = c.in-Ok.halves.files.items in
    let old = g.H.Host.state c.args.host.now in
    let mid = g.H.Host.state c.begin_rows.new.host in
    let told = c.args.told.now.items in
    let behind = c.begin_rows.new.told.items in
    let here = holding_by c.begin_rows.new.administration c.begin_rows.new.works.items in
    let up = c.in-Ok-begin_rows.first.underway in
    let began = subst (λ (u : Option Unwinding). (ran : HasRunRows (HasBegun commit.members) (λ s. task_by s held first works rows) before (ended_as u) here old mid told behind) × (g.H.Host.state up.start.host.value ≡ ran.begun)) c.in-None.is c.in-Ok-begin_rows.ensures.ran in
    let stack = subst (λ (u : Option Unwinding). IfNone u (up.stack ≡ before)) c.in-None.is c.in-Ok-begin_rows.ensures.stack in
    let none = subst (λ ks. has_files (take (length before) ks) ≡ false) (parts_kinds held first rows works calls commit plan) c.in-Ok.ensures.before in
    let end = g.H.Host.state c.run_files.new.host in
    let now = c.run_files.new.told.items in
    let late = c.run_files.new.diversions.ways in
    let job = c.requires.plan.of.job in
    let is = job_then held rows works first commit before files calls c.in-Ok.ensures.all none old mid told behind here (g.H.Host.state up.start.host.value) up.start.administration.value up.stack stack began.0 began.1 c.in-Ok-begin_rows.ensures.start job c.args.spare.now c.requires.plan.of.is in
    let later_on = later _ mid end (c.run_files.ensures.any_moment job is) in
    called_then_all held rows works first commit before files calls c.in-Ok.ensures.all none old mid told behind here (g.H.Host.state up.start.host.value) up.start.administration.value up.stack stack began.0 began.1 c.in-Ok-begin_rows.ensures.start end now later_on (c.run_files.ensures.told began.0.begun told (succeeded_then held rows works first commit before files calls c.in-Ok.ensures.all none old mid told behind here (g.H.Host.state up.start.host.value) up.start.administration.value up.stack stack began.0 began.1 c.in-Ok-begin_rows.ensures.start))

pub returns-in-None-clause-any_moment : goal.returns-in-None-clause-any_moment
returns-in-None-clause-any_moment g c = λ j of.
    let held = c.args.administration.now in
    let rows = c.args.rows.now in
    let works = c.args.works.now.items in
    let first = c.args.diversions.now.ways in
    let commit = c.args.commit.now in
    let calls = c.args.calls.items in
    let plan : IsPlanBy held.database.records (planned_from rows works calls commit) = record { job = c.requires.plan.of.job; records_are = c.requires.plan.records_are; others = c.requires.plan.others; planned = c.requires.plan.of.is.planned } in
    let before = c.in-Ok.halves.before.items in
    let files = c.in-Ok.halves.files.items in
    let old = g.H.Host.state c.args.host.now in
    let mid = g.H.Host.state c.begin_rows.new.host in
    let told = c.args.told.now.items in
    let behind = c.begin_rows.new.told.items in
    let here = holding_by c.begin_rows.new.administration c.begin_rows.new.works.items in
    let up = c.in-Ok-begin_rows.first.underway in
    let began = subst (λ (u : Option Unwinding). (ran : HasRunRows (HasBegun commit.members) (λ s. task_by s held first works rows) before (ended_as u) here old mid told behind) × (g.H.Host.state up.start.host.value ≡ ran.begun)) c.in-None.is c.in-Ok-begin_rows.ensures.ran in
    let stack = subst (λ (u : Option Unwinding). IfNone u (up.stack ≡ before)) c.in-None.is c.in-Ok-begin_rows.ensures.stack in
    let none = subst (λ ks. has_files (take (length before) ks) ≡ false) (parts_kinds held first rows works calls commit plan) c.in-Ok.ensures.before in
    let late = c.run_files.new.diversions.ways in
    moments_then held rows works first commit before files calls c.in-Ok.ensures.all none old mid told behind here (g.H.Host.state up.start.host.value) up.start.administration.value up.stack stack began.0 began.1 c.in-Ok-begin_rows.ensures.start j late (g.H.Host.state c.run_files.new.host)
    (running_first j rows calls commit works first late held old mid c.begin_rows.ensures.any_moment) (c.run_files.ensures.any_moment j (job_then held rows works first commit before files calls c.in-Ok.ensures.all none old mid told behind here (g.H.Host.state up.start.host.value) up.start.administration.value up.stack stack began.0 began.1 c.in-Ok-begin_rows.ensures.start j c.args.spare.now of))

pub returns-in-None-clause-apart : goal.returns-in-None-clause-apart
returns-in-None-clause-apart g c =
    let held = c.args.administration.now in
    let rows = c.args.rows.now in
    let works = c.args.works.now.items in
    let first = c.args.diversions.now.ways in
    let commit = c.args.commit.now in
    let calls = c.args.calls.items in
    let plan : IsPlanBy held.database.records (planned_from rows works calls commit) = record { job = c.requires.plan.of.job; records_are = c.requires.plan.records_are; others = c.requires.plan.others; planned = c.requires.plan.of.is.planned } in
    let before = c.in-Ok.halves.before.items in
    let files = c.in-Ok.halves.files.items in
    let old = g.H.Host.state c.args.host.now in
    let mid = g.H.Host.state c.begin_rows.new.host in
    let told = c.args.told.now.items in
    let behind = c.begin_rows.new.told.items in
    let here = holding_by c.begin_rows.new.administration c.begin_rows.new.works.items in
    let up = c.in-Ok-begin_rows.first.underway in
    let began = subst (λ (u : Option Unwinding). (ran : HasRunRows (HasBegun commit.members) (λ s. task_by s held first works rows) before (ended_as u) here old mid told behind) × (g.H.Host.state up.start.host.value ≡ ran.begun)) c.in-None.is c.in-Ok-begin_rows.ensures.ran in
    let stack = subst (λ (u : Option Unwinding). IfNone u (up.stack ≡ before)) c.in-None.is c.in-Ok-begin_rows.ensures.stack in
    let none = subst (λ ks. has_files (take (length before) ks) ≡ false) (parts_kinds held first rows works calls commit plan) c.in-Ok.ensures.before in
    let end = g.H.Host.state c.run_files.new.host in
    let now = c.run_files.new.told.items in
    let late = c.run_files.new.diversions.ways in
    let job = c.requires.plan.of.job in
    let is = job_then held rows works first commit before files calls c.in-Ok.ensures.all none old mid told behind here (g.H.Host.state up.start.host.value) up.start.administration.value up.stack stack began.0 began.1 c.in-Ok-begin_rows.ensures.start job c.args.spare.now c.requires.plan.of.is in
    let later_on = later _ mid end (c.run_files.ensures.any_moment job is) in
    works_behind is_record_place c.run_files.result old mid end (gone_by is_record_place _ old mid c.begin_rows.ensures.any_moment c.in-Ok-begin_rows.ensures.apart) later_on c.run_files.ensures.apart

pub returns-in-Err-clause-apart : goal.returns-in-Err-clause-apart
returns-in-Err-clause-apart g c = λ h. ((c.begin_rows.ensures.apart h).0, tt)
