use Rattle.std.proofs.Common.{◌≡◌, ◌++◌, List, length, sym, ap, subst, ◌∙◌}
use Rattle.host_core.proofs.Moments.{since_now}
use Rattle.std.specs.Prelude.{Ok, Option}
use Rattle.host_core.specs.Host.{Needs, State}
use Rattle.host_core.specs.declared.fault.HostFault.{HostFault}
use Rattle.undo_rows.specs.declared.unwinding.Unwinding.{Unwinding}
use Rattle.control_members.specs.LaidOut.{IsLaying}
use Rattle.held_administration.specs.declared.held.Administration.{Administration}
use Rattle.scattered_losses.proofs.GoingApart.{later_of, works_behind}
use Rattle.status_db.specs.Held.{is_record_place}
use Rattle.undo_rows.specs.Ended.{end_place, ended_as}
use Rattle.undo_rows.specs.Place.{Forward}
use Rattle.undo_rows.specs.Stops.{AtEachStop}
use Rattle.undo_rows.specs.Telling.{Begun, HasRun, HasSucceeded}
use Rattle.undo_rows.specs.Transcripts.{MayRun}
use Rattle.undo_rows.specs.declared.rows.Row.{Row}
use Rattle.unpack_rows.specs.EndStates.{own_name}
use Rattle.unpack_steps.specs.At.{At, IsBegun, IsFileFault, Stops, holding_by}
use Rattle.unpack_steps.specs.Task.{Task, task_by}
use Rattle.unpack_engine.specs.Units.{HasBegun, HasCalledRows, HasRunRows}
use Rattle.unpack_engine.proofs.Carrying.{same_end}
use Rattle.unpack_engine.proofs.Order.{home_there, list_begun, members_begun, records_begun}
use Rattle.unpack_engine.proofs.Parts.{none_succeeded, sound_from}
use Rattle.unpack_engine.proofs.RecordsApart.{laying_gone}
use Rattle.unpack_engine.proofs.Sequel.{begun_behind, later, since_beginning, since_running}
use Rattle.unpack_engine.proofs.running.begin_rows.Goals as goal

pub lay_out-requires-clause-home : goal.lay_out-requires-clause-home
lay_out-requires-clause-home g c = λ h.
    home_there c.args.administration.now.database c.args.administration.now.lists.lists (g.H.Host.state c.args.host.now).world (c.requires.order h)

pub lay_out-requires-clause-absent : goal.lay_out-requires-clause-absent
lay_out-requires-clause-absent g c = λ h. (c.requires.order h).tmp

pub run-requires-clause-place : goal.run-requires-clause-place
run-requires-clause-place g c =
    let held = c.args.administration.now in
    let ways = c.args.diversions.now.ways in
    let works = c.args.works.now.items in
    let rows = c.args.rows.now in
    let old = g.H.Host.state c.args.host.now in
    let mid = g.H.Host.state c.lay_out.new.host in
    let name = own_name rows.found rows.incoming in
    let t = λ (x : State) (a : Administration). task_by x a ways works rows in
    let is : t (g.H.Host.state c.begin-underway.result.start.host.value) c.begin-underway.result.start.administration.value ≡ t mid held
    = (λ i. t (c.begin-underway.ensures.host i) (c.begin-underway.ensures.administration i)) in
    let ready : Needs mid (IsBegun (t mid held) held.database) = λ h.
    let order = c.requires.order (c.lay_out.ensures.silent.honest h) in
    let begun : HasBegun c.args.members.now old.world mid.world = record {
      lays = (since_now (λ so_far. IsLaying old.world) old mid c.lay_out.ensures.any_moment h).rest;
      laid = c.in-Ok.ensures.laid h;
    } in
    record {
      kept = records_begun held.database held.lists.lists old.world order name c.requires.sound.named c.args.members.now mid.world begun;
      ready = list_begun held.database held.lists.lists old.world order name c.requires.sound.named c.args.members.now mid.world begun;
      members = members_begun held.database held.lists.lists old.world order name c.requires.sound.named c.args.members.now mid.world begun;
    } in
    let here = c.rows_begin_before_the_first.ensures mid held.database held.lists ways held.places works rows (sound_from (t old held) mid c.requires.sound) c.requires.open.noting c.requires.open.listing ready in
    let there = subst (λ (x : Task). At x (holding_by held works) mid (Forward 0)) (sym is) here in
    subst (λ (l : List Row). At (t (g.H.Host.state c.begin-underway.result.start.host.value) c.begin-underway.result.start.administration.value) (holding_by held works) mid (Forward (length l))) (sym c.begin-underway.ensures.stack) there

pub returns-in-Ok-run-clause-ran : goal.returns-in-Ok-run-clause-ran
returns-in-Ok-run-clause-ran g c =
    let held = c.args.administration.now in
    let ways = c.args.diversions.now.ways in
    let works = c.args.works.now.items in
    let rows = c.args.rows.now in
    let old = g.H.Host.state c.args.host.now in
    let mid = g.H.Host.state c.lay_out.new.host in
    let end = g.H.Host.state c.run.new.host in
    let told = c.args.told.now.items in
    let now = c.run.new.told.items in
    let u = c.in-Ok-run.unwinding in
    let t = λ (x : State) (a : Administration). task_by x a ways works rows in
    let begins = t (g.H.Host.state c.begin-underway.result.start.host.value) c.begin-underway.result.start.administration.value in
    let is : begins ≡ t mid held = (λ i. t (c.begin-underway.ensures.host i) (c.begin-underway.ensures.administration i)) in
    let none = subst (λ (l : List Row). HasSucceeded (IsFileFault begins) l mid mid told told) (sym c.begin-underway.ensures.stack) (none_succeeded (IsFileFault begins) mid told) in
    let made = subst (λ (l : List Row). HasRun (IsFileFault begins) (ended_as u) (l ++ c.args.calls.items) mid end told now) c.begin-underway.ensures.stack (c.in-Ok-run.ensures.calls mid told none) in
    let there = subst (λ (l : List Row). At begins (holding_by c.run.new.administration c.run.new.works.items) end (end_place (length (l ++ c.args.calls.items)) u)) c.begin-underway.ensures.stack c.in-Ok-run.ensures.there in (
      record {
        begun = mid;
        quiet = c.lay_out.ensures.silent;
        until = later _ old mid c.lay_out.ensures.any_moment;
        begins_so = λ h.
            let at_mid = c.run.ensures.any_moment.honest h in
            record { lays = (since_now (λ so_far. IsLaying old.world) old mid c.lay_out.ensures.any_moment at_mid).rest; laid = c.in-Ok.ensures.laid at_mid };
        run = subst (λ (x : Task). HasRun (IsFileFault x) (ended_as u) c.args.calls.items mid end told now) is made;
        between = later _ mid end c.run.ensures.any_moment;
        rows_end = subst (λ place. At (t mid held) (holding_by c.run.new.administration c.run.new.works.items) end place) (same_end (length c.args.calls.items) u)
            (subst (λ (x : Task). At x (holding_by c.run.new.administration c.run.new.works.items) end (end_place (length c.args.calls.items) u)) is there);
      },
      ap (λ s. g.H.Host.state s.host.value) c.run.ensures.start ∙ c.begin-underway.ensures.host,
    )

pub returns-in-Ok-run-clause-told : goal.returns-in-Ok-run-clause-told
returns-in-Ok-run-clause-told g c =
    let held = c.args.administration.now in
    let mid = g.H.Host.state c.lay_out.new.host in
    let end = g.H.Host.state c.run.new.host in
    let told = c.args.told.now.items in
    let begins = task_by (g.H.Host.state c.begin-underway.result.start.host.value) c.begin-underway.result.start.administration.value c.args.diversions.now.ways c.args.works.now.items c.args.rows.now in
    let none = subst (λ (l : List Row). HasSucceeded (IsFileFault begins) l mid mid told told) (sym c.begin-underway.ensures.stack) (none_succeeded (IsFileFault begins) mid told) in
    HasCalledRows.some (begun_behind (MayRun c.args.calls.items) (g.H.Host.state c.args.host.now) mid end told c.run.new.told.items c.lay_out.ensures.silent
    (subst (λ (l : List Row). Begun (MayRun (l ++ c.args.calls.items)) mid end told c.run.new.told.items) c.begin-underway.ensures.stack (c.run.ensures.told mid told none)))

pub returns-in-Err-run-clause-told : goal.returns-in-Err-run-clause-told
returns-in-Err-run-clause-told g c =
    let mid = g.H.Host.state c.lay_out.new.host in
    let end = g.H.Host.state c.run.new.host in
    let told = c.args.told.now.items in
    let begins = task_by (g.H.Host.state c.begin-underway.result.start.host.value) c.begin-underway.result.start.administration.value c.args.diversions.now.ways c.args.works.now.items c.args.rows.now in
    let none = subst (λ (l : List Row). HasSucceeded (IsFileFault begins) l mid mid told told) (sym c.begin-underway.ensures.stack) (none_succeeded (IsFileFault begins) mid told) in
    HasCalledRows.some (begun_behind (MayRun c.args.calls.items) (g.H.Host.state c.args.host.now) mid end told c.run.new.told.items c.lay_out.ensures.silent
    (subst (λ (l : List Row). Begun (MayRun (l ++ c.args.calls.items)) mid end told c.run.new.told.items) c.begin-underway.ensures.stack (c.run.ensures.told mid told none)))

pub returns-in-Ok-run-clause-any_moment : goal.returns-in-Ok-run-clause-any_moment
returns-in-Ok-run-clause-any_moment g c =
    let held = c.args.administration.now in
    let t = λ (x : State) (a : Administration). task_by x a c.args.diversions.now.ways c.args.works.now.items c.args.rows.now in
    let old = g.H.Host.state c.args.host.now in
    let mid = g.H.Host.state c.lay_out.new.host in
    let end = g.H.Host.state c.run.new.host in
    let is : t (g.H.Host.state c.begin-underway.result.start.host.value) c.begin-underway.result.start.administration.value ≡ t mid held = (λ i. t (c.begin-underway.ensures.host i) (c.begin-underway.ensures.administration i)) in
    since_running (HasBegun c.args.members.now) IsLaying (λ s. t s held) old mid c.lay_out.ensures.silent c.lay_out.ensures.any_moment end
    (λ h. record { lays = (since_now (λ so_far. IsLaying old.world) old mid c.lay_out.ensures.any_moment h).rest; laid = c.in-Ok.ensures.laid h })
    (subst (λ (x : Task). AtEachStop (Stops x) mid end) is c.run.ensures.any_moment)

pub returns-in-Err-run-clause-any_moment : goal.returns-in-Err-run-clause-any_moment
returns-in-Err-run-clause-any_moment g c =
    let held = c.args.administration.now in
    let t = λ (x : State) (a : Administration). task_by x a c.args.diversions.now.ways c.args.works.now.items c.args.rows.now in
    let old = g.H.Host.state c.args.host.now in
    let mid = g.H.Host.state c.lay_out.new.host in
    let end = g.H.Host.state c.run.new.host in
    let is : t (g.H.Host.state c.begin-underway.result.start.host.value) c.begin-underway.result.start.administration.value ≡ t mid held = (λ i. t (c.begin-underway.ensures.host i) (c.begin-underway.ensures.administration i)) in
    since_running (HasBegun c.args.members.now) IsLaying (λ s. t s held) old mid c.lay_out.ensures.silent c.lay_out.ensures.any_moment end
    (λ h. record { lays = (since_now (λ so_far. IsLaying old.world) old mid c.lay_out.ensures.any_moment h).rest; laid = c.in-Ok.ensures.laid h })
    (subst (λ (x : Task). AtEachStop (Stops x) mid end) is c.run.ensures.any_moment)

pub returns-in-Err-clause-any_moment : goal.returns-in-Err-clause-any_moment
returns-in-Err-clause-any_moment g c =
    since_beginning (HasBegun c.args.members.now) IsLaying
    (λ s. task_by s c.args.administration.now c.args.diversions.now.ways c.args.works.now.items c.args.rows.now) (g.H.Host.state c.args.host.now) (g.H.Host.state c.lay_out.new.host) c.lay_out.ensures.silent c.lay_out.ensures.any_moment

pub returns-in-Ok-run-clause-apart : goal.returns-in-Ok-run-clause-apart
returns-in-Ok-run-clause-apart g c =
    let old = g.H.Host.state c.args.host.now in
    let mid = g.H.Host.state c.lay_out.new.host in
    let new = g.H.Host.state c.run.new.host in
    works_behind {T = Option Unwinding} {E = HostFault} is_record_place (Ok c.in-Ok-run.unwinding) old mid new (laying_gone old mid c.lay_out.ensures.any_moment) (later_of _ mid new c.run.ensures.any_moment) c.in-Ok-run.ensures.apart

pub returns-in-Err-run-clause-apart : goal.returns-in-Err-run-clause-apart
returns-in-Err-run-clause-apart g c =
    let old = g.H.Host.state c.args.host.now in
    let mid = g.H.Host.state c.lay_out.new.host in
    let new = g.H.Host.state c.run.new.host in
    λ h. (((works_behind is_record_place c.run.result old mid new (laying_gone old mid c.lay_out.ensures.any_moment) (later_of _ mid new c.run.ensures.any_moment) c.run.ensures.apart) h).0, tt)

pub returns-in-Err-clause-apart : goal.returns-in-Err-clause-apart
returns-in-Err-clause-apart g c = λ h. (((laying_gone (g.H.Host.state c.args.host.now) (g.H.Host.state c.lay_out.new.host) c.lay_out.ensures.any_moment).1 h).0, tt)
