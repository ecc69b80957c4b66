use Rattle.std.proofs.Common.{◌≡◌, ◌++◌, List, length, refl, sym, ap, subst, ◌∙◌}
use Rattle.std.specs.Prelude.{Err, Ok, Option}
use Rattle.diversions.specs.Ways.{Ways}
use Rattle.host_core.specs.declared.fault.HostFault.{HostFault}
use Rattle.package_files.specs.declared.work.Work.{Work}
use Rattle.scattered_losses.proofs.GoingApart.{later_of, reads_gone, works_behind}
use Rattle.status_db.specs.Held.{is_record_place}
use Rattle.undo_rows.proofs.Listed.{fit_front}
use Rattle.undo_rows.proofs.Runs.{broken_beside, run_beside}
use Rattle.undo_rows.specs.Ended.{end_place, ended_as}
use Rattle.undo_rows.specs.Place.{Forward}
use Rattle.undo_rows.specs.Telling.{HasRun, HasSucceeded}
use Rattle.undo_rows.specs.Transcripts.{Committed}
use Rattle.undo_rows.specs.declared.rows.Called.{Called}
use Rattle.undo_rows.specs.declared.rows.Row.{Row}
use Rattle.undo_rows.specs.declared.unwinding.Unwinding.{Unwinding}
use Rattle.unpack_plan.specs.Planned.{IsPlanned, planned_from}
use Rattle.unpack_rows.specs.EndStates.{own_name}
use Rattle.unpack_rows.specs.ForwardRows.{Fits}
use Rattle.unpack_rows.specs.Kinds.{kinds_of}
use Rattle.unpack_steps.specs.At.{At, IsFileFault, Stops, holding_by}
use Rattle.unpack_steps.specs.Task.{task_by}
use Rattle.unpack_engine.specs.Followed.{AreFollowedAgain, paths_in_hand}
use Rattle.unpack_engine.specs.Units.{IsTableIn}
use Rattle.unpack_engine.proofs.Again.{later_reads}
use Rattle.unpack_engine.proofs.Parts.{stops_before, stops_then}
use Rattle.unpack_engine.proofs.Sequel.{later}
use Rattle.unpack_engine.proofs.running.run_files.Goals as goal

pub run-requires-clause-place : goal.run-requires-clause-place
run-requires-clause-place g c =
    let rows = c.args.rows.now in
    let works = c.args.works.now.items in
    let late = c.renew_files.new.diversions.ways in
    let other = c.renew_files.new.works.items in
    let held = c.args.administration.now in
    let t = task_by (g.H.Host.state c.args.begun.start.host.value) c.args.begun.start.administration.value c.args.diversions.now.ways works rows in
    let is = c.requires.plan.is in
    let again = c.in-Ok.ensures.again c.requires.plan.job (c.args.begun.stack ++ c.args.calls.items) is.tree is.lists_are is.ways_are is.planned in
    c.rows_before_the_files_go_by_any_table.ensures.there t late other (holding_by held works) (g.H.Host.state c.args.host.now) (g.H.Host.state c.renew_files.new.host) (length c.args.begun.stack) c.requires.before
    again.works_are.named again.works_are.fitting c.renew_files.ensures.reads c.renew_files.ensures.silent c.requires.there

pub returns-in-Ok-run-clause-ran : goal.returns-in-Ok-run-clause-ran
returns-in-Ok-run-clause-ran g c = λ start before has.
    let rows = c.args.rows.now in
    let late = c.renew_files.new.diversions.ways in
    let other = c.renew_files.new.works.items in
    let stack = c.args.begun.stack in
    let all = stack ++ c.args.calls.items in
    let old = g.H.Host.state c.args.host.now in
    let mid = g.H.Host.state c.renew_files.new.host in
    let end = g.H.Host.state c.run.new.host in
    let told = c.args.told.now.items in
    let by = λ (ways : Ways) (works : List Work). task_by (g.H.Host.state c.args.begun.start.host.value) c.args.begun.start.administration.value ways works rows in
    let fits = Fits (own_name rows.found rows.incoming) (kinds_of rows.found rows.others.items) in
    let same = c.rows_before_the_files_go_by_any_table.ensures.calls (by c.args.diversions.now.ways c.args.works.now.items) late other stack start old before told (fit_front fits all stack c.args.calls.items refl c.requires.rows) c.requires.before has in
    let here = run_beside (IsFileFault (by late other)) stack start old mid before told c.renew_files.ensures.silent Committed same in
    subst (λ (x : List Work). HasRun (IsFileFault (by late x)) (ended_as c.in-Ok-run.unwinding) all start end before c.run.new.told.items) (sym (ap (λ v. v.items) c.of-shipped.ensures)) (c.in-Ok-run.ensures.calls start before here)

pub returns-in-Ok-run-clause-there : goal.returns-in-Ok-run-clause-there
returns-in-Ok-run-clause-there g c =
    let by = λ (works : List Work). task_by (g.H.Host.state c.args.begun.start.host.value) c.args.begun.start.administration.value c.renew_files.new.diversions.ways works c.args.rows.now in
    subst (λ (x : List Work). At (by x) (holding_by c.run.new.administration c.run.new.works.items) (g.H.Host.state c.run.new.host) (end_place (length (c.args.begun.stack ++ c.args.calls.items)) c.in-Ok-run.unwinding))
    (sym (ap (λ v. v.items) c.of-shipped.ensures)) c.in-Ok-run.ensures.there

pub returns-in-Ok-run-clause-planned : goal.returns-in-Ok-run-clause-planned
returns-in-Ok-run-clause-planned g c = λ j is.
    let all = c.args.begun.stack ++ c.args.calls.items in
    subst (λ (x : List Work). IsPlanned (record j { ways = c.renew_files.new.diversions.ways }) (planned_from c.args.rows.now x all c.renew_files.new.commit)) (sym (ap (λ v. v.items) c.of-shipped.ensures))
    (c.in-Ok.ensures.again j all is.tree is.lists_are is.ways_are is.planned)

pub returns-in-Ok-run-clause-table : goal.returns-in-Ok-run-clause-table
returns-in-Ok-run-clause-table g c = λ there. record {
  m = g.H.Host.state c.renew_files.new.host;
  since = later_reads (g.H.Host.state c.args.host.now) (g.H.Host.state c.renew_files.new.host) c.renew_files.ensures.reads;
  until = later _ (g.H.Host.state c.renew_files.new.host) (g.H.Host.state c.run.new.host) c.run.ensures.any_moment;
  silent = c.renew_files.ensures.silent;
  table = λ h. subst (λ w. IsTableIn w c.args.diversions.now.ways c.renew_files.new.diversions.ways) (sym c.renew_files.ensures.reads.world) (c.in-Ok.ensures.table there h);
  aliases = λ h. subst (AreFollowedAgain c.args.administration.now.lists.lists (paths_in_hand c.args.diversions.now.ways.aliases c.args.rows.now.union c.renew_files.new.diversions.ways.entries) c.args.diversions.now.ways c.renew_files.new.diversions.ways) (sym c.renew_files.ensures.reads.world) (c.in-Ok.ensures.aliases there h);
}

pub returns-in-Ok-run-clause-told : goal.returns-in-Ok-run-clause-told
returns-in-Ok-run-clause-told g c = λ start before has.
    let rows = c.args.rows.now in
    let late = c.renew_files.new.diversions.ways in
    let other = c.renew_files.new.works.items in
    let stack = c.args.begun.stack in
    let old = g.H.Host.state c.args.host.now in
    let mid = g.H.Host.state c.renew_files.new.host in
    let told = c.args.told.now.items in
    let by = λ (ways : Ways) (works : List Work). task_by (g.H.Host.state c.args.begun.start.host.value) c.args.begun.start.administration.value ways works rows in
    let fits = Fits (own_name rows.found rows.incoming) (kinds_of rows.found rows.others.items) in
    let same = c.rows_before_the_files_go_by_any_table.ensures.calls (by c.args.diversions.now.ways c.args.works.now.items) late other stack start old before told (fit_front fits (stack ++ c.args.calls.items) stack c.args.calls.items refl c.requires.rows) c.requires.before has in
    c.run.ensures.told start before (run_beside (IsFileFault (by late other)) stack start old mid before told c.renew_files.ensures.silent Committed same)

pub returns-in-Ok-clause-told : goal.returns-in-Ok-clause-told
returns-in-Ok-clause-told g c = λ start before has.
    let rows = c.args.rows.now in
    let late = c.renew_files.new.diversions.ways in
    let other = c.renew_files.new.works.items in
    let stack = c.args.begun.stack in
    let old = g.H.Host.state c.args.host.now in
    let mid = g.H.Host.state c.renew_files.new.host in
    let told = c.args.told.now.items in
    let by = λ (ways : Ways) (works : List Work). task_by (g.H.Host.state c.args.begun.start.host.value) c.args.begun.start.administration.value ways works rows in
    let fits = Fits (own_name rows.found rows.incoming) (kinds_of rows.found rows.others.items) in
    let same = c.rows_before_the_files_go_by_any_table.ensures.calls (by c.args.diversions.now.ways c.args.works.now.items) late other stack start old before told (fit_front fits (stack ++ c.args.calls.items) stack c.args.calls.items refl c.requires.rows) c.requires.before has in
    c.run.ensures.told start before (run_beside (IsFileFault (by late other)) stack start old mid before told c.renew_files.ensures.silent Committed same)

pub returns-clause-told : goal.returns-clause-told
returns-clause-told g c = λ start before has.
    let t = task_by (g.H.Host.state c.args.begun.start.host.value) c.args.begun.start.administration.value c.args.diversions.now.ways c.args.works.now.items c.args.rows.now in
    broken_beside (IsFileFault t) c.args.begun.stack start (g.H.Host.state c.args.host.now) (g.H.Host.state c.renew_files.new.host) before c.args.told.now.items c.renew_files.ensures.silent c.args.calls.items has

pub returns-in-Ok-run-clause-any_moment : goal.returns-in-Ok-run-clause-any_moment
returns-in-Ok-run-clause-any_moment g c = λ j is.
    let all = c.args.begun.stack ++ c.args.calls.items in
    stops_then j c.args.rows.now all c.args.commit.now c.args.works.now.items c.args.diversions.now.ways c.renew_files.new.diversions.ways
    (λ (ways : Ways) (works : List Work). task_by (g.H.Host.state c.args.begun.start.host.value) c.args.begun.start.administration.value ways works c.args.rows.now)
    (g.H.Host.state c.args.host.now) (g.H.Host.state c.renew_files.new.host) (holding_by c.args.administration.now c.args.works.now.items) (Forward (length c.args.begun.stack)) c.requires.there c.renew_files.ensures.reads
    (g.H.Host.state c.run.new.host) c.renew_files.new.works.items (record { behind = c.renew_files.new.commit; planned = c.in-Ok.ensures.again j all is.tree is.lists_are is.ways_are is.planned; members = c.in-Ok.ensures.members }) c.run.ensures.any_moment

pub returns-in-Ok-clause-any_moment : goal.returns-in-Ok-clause-any_moment
returns-in-Ok-clause-any_moment g c = λ j is.
    let all = c.args.begun.stack ++ c.args.calls.items in
    stops_then j c.args.rows.now all c.args.commit.now c.args.works.now.items c.args.diversions.now.ways c.renew_files.new.diversions.ways
    (λ (ways : Ways) (works : List Work). task_by (g.H.Host.state c.args.begun.start.host.value) c.args.begun.start.administration.value ways works c.args.rows.now)
    (g.H.Host.state c.args.host.now) (g.H.Host.state c.renew_files.new.host) (holding_by c.args.administration.now c.args.works.now.items) (Forward (length c.args.begun.stack)) c.requires.there c.renew_files.ensures.reads
    (g.H.Host.state c.run.new.host) c.renew_files.new.works.items (record { behind = c.renew_files.new.commit; planned = c.in-Ok.ensures.again j all is.tree is.lists_are is.ways_are is.planned; members = c.in-Ok.ensures.members }) c.run.ensures.any_moment

pub returns-clause-any_moment : goal.returns-clause-any_moment
returns-clause-any_moment g c = λ j is.
    stops_before j c.args.rows.now (c.args.begun.stack ++ c.args.calls.items) c.args.commit.now c.args.works.now.items c.args.diversions.now.ways c.renew_files.new.diversions.ways
    (λ (ways : Ways) (works : List Work). task_by (g.H.Host.state c.args.begun.start.host.value) c.args.begun.start.administration.value ways works c.args.rows.now)
    (g.H.Host.state c.args.host.now) (g.H.Host.state c.renew_files.new.host) (holding_by c.args.administration.now c.args.works.now.items) (Forward (length c.args.begun.stack)) c.requires.there c.renew_files.ensures.reads

pub returns-in-Ok-run-clause-apart : goal.returns-in-Ok-run-clause-apart
returns-in-Ok-run-clause-apart g c =
    let old = g.H.Host.state c.args.host.now in
    let mid = g.H.Host.state c.renew_files.new.host in
    let new = g.H.Host.state c.run.new.host in
    works_behind {T = Option Unwinding} {E = HostFault} is_record_place (Ok c.in-Ok-run.unwinding) old mid new (reads_gone is_record_place old mid c.renew_files.ensures.reads) (later_of _ mid new c.run.ensures.any_moment) c.in-Ok-run.ensures.apart

pub returns-in-Ok-clause-apart : goal.returns-in-Ok-clause-apart
returns-in-Ok-clause-apart g c =
    let old = g.H.Host.state c.args.host.now in
    let mid = g.H.Host.state c.renew_files.new.host in
    let new = g.H.Host.state c.run.new.host in
    λ h. (((works_behind is_record_place c.run.result old mid new (reads_gone is_record_place old mid c.renew_files.ensures.reads) (later_of _ mid new c.run.ensures.any_moment) c.run.ensures.apart) h).0, tt)

pub returns-clause-apart : goal.returns-clause-apart
returns-clause-apart g c = λ h. (((reads_gone is_record_place (g.H.Host.state c.args.host.now) (g.H.Host.state c.renew_files.new.host) c.renew_files.ensures.reads).1 h).0, tt)
