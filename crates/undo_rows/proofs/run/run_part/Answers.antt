use Rattle.std.proofs.Common.{◌++◌, Option, sym, subst}
use Rattle.undo_rows.specs.Place.{Fit}
use Rattle.undo_rows.specs.declared.stopped.Stopped.{Stopped}
use Rattle.undo_rows.specs.Stepping.{HasStopped}
use Rattle.undo_rows.proofs.Falls.{has_begun, has_run, is_called}
use Rattle.undo_rows.proofs.Listed.{failed_for, fit_stack, next_part}
use Rattle.scattered_losses.proofs.GoingApart.{faults_behind, gone_by, gone_on, later_of, passed_on}
use Rattle.undo_rows.proofs.run.run_part.Goals as goal

pub unwind_rows-requires-clause-rows : goal.unwind_rows-requires-clause-rows
unwind_rows-requires-clause-rows g c =
    let A = g.A.Around in
    let fault = A.file_step_fault (A.task c.args.around.now) in
    let fell = subst (λ (o : Option Stopped). HasStopped fault o c.args.stack.now c.args.rows.items c.step_rows.new.stack (g.H.Host.state c.args.host.now) (g.H.Host.state c.step_rows.new.host) c.args.told.now.items c.step_rows.new.told.items) c.in-Some.is c.in_ok-stopped.ensures.calls in
    subst (λ t. Fit (A.fits t) c.step_rows.new.stack) (sym c.step_rows.ensures.task) (fit_stack c.in-Some.stopped (c.args.stack.now ++ c.args.rows.items) fell.before fell.after fell.row fell.rows_are (A.fits (A.task c.args.around.now)) c.step_rows.new.stack fell.stack_is c.requires.rows)

pub unwind_rows-requires-clause-called : goal.unwind_rows-requires-clause-called
unwind_rows-requires-clause-called g c =
    let A = g.A.Around in
    let fault = A.file_step_fault (A.task c.args.around.now) in
    is_called fault c.args.stack.now c.args.rows.items c.step_rows.new.stack c.in-Some.stopped (g.H.Host.state c.args.host.now) (g.H.Host.state c.step_rows.new.host) (g.H.Host.state c.step_rows.new.host) c.args.told.now.items c.step_rows.new.told.items c.step_rows.new.told.items
    (subst (λ (o : Option Stopped). HasStopped fault o c.args.stack.now c.args.rows.items c.step_rows.new.stack (g.H.Host.state c.args.host.now) (g.H.Host.state c.step_rows.new.host) c.args.told.now.items c.step_rows.new.told.items) c.in-Some.is c.in_ok-stopped.ensures.calls)

pub returns-in_err-unwind_rows-clause-told : goal.returns-in_err-unwind_rows-clause-told
returns-in_err-unwind_rows-clause-told g c =
    let A = g.A.Around in
    let t = A.task c.args.around.now in
    let fault = A.file_step_fault t in
    has_begun fault c.args.stack.now c.args.rows.items c.step_rows.new.stack c.in-Some.stopped (g.H.Host.state c.args.host.now) (g.H.Host.state c.step_rows.new.host) (g.H.Host.state c.unwind_rows.new.host) c.args.told.now.items c.step_rows.new.told.items c.unwind_rows.new.told.items
    (subst (λ (o : Option Stopped). HasStopped fault o c.args.stack.now c.args.rows.items c.step_rows.new.stack (g.H.Host.state c.args.host.now) (g.H.Host.state c.step_rows.new.host) c.args.told.now.items c.step_rows.new.told.items) c.in-Some.is c.in_ok-stopped.ensures.calls)
    (c.what_is_broken_off_begins_a_run.ensures.unwind t) c.unwind_rows.ensures.told

pub returns-in_err-unwind_rows-clause-any_moment : goal.returns-in_err-unwind_rows-clause-any_moment
returns-in_err-unwind_rows-clause-any_moment g c = next_part _ g.A.Around.stops _ _ c.step_rows.ensures.task _ _ _ c.step_rows.ensures.any_moment c.unwind_rows.ensures.any_moment

pub returns-clause-calls : goal.returns-clause-calls
returns-clause-calls g c =
    let A = g.A.Around in
    let t = A.task c.args.around.now in
    let fault = A.file_step_fault t in
    has_run fault c.args.stack.now c.args.rows.items c.step_rows.new.stack c.in-Some.stopped (g.H.Host.state c.args.host.now) (g.H.Host.state c.step_rows.new.host) (g.H.Host.state c.unwind_rows.new.host) c.args.told.now.items c.step_rows.new.told.items c.unwind_rows.new.told.items
    (subst (λ (o : Option Stopped). HasStopped fault o c.args.stack.now c.args.rows.items c.step_rows.new.stack (g.H.Host.state c.args.host.now) (g.H.Host.state c.step_rows.new.host) c.args.told.now.items c.step_rows.new.told.items) c.in-Some.is c.in_ok-stopped.ensures.calls)
    (c.steps_and_an_unwind_are_a_run.ensures.unwound t) c.in_ok-unwind_rows.field-0 c.in_ok-unwind_rows.ensures.fall c.in_ok-unwind_rows.ensures.calls

pub returns-clause-cause : goal.returns-clause-cause
returns-clause-cause g c =
    let A = g.A.Around in
    let fault = A.file_step_fault (A.task c.args.around.now) in
    let fell = subst (λ (o : Option Stopped). HasStopped fault o c.args.stack.now c.args.rows.items c.step_rows.new.stack (g.H.Host.state c.args.host.now) (g.H.Host.state c.step_rows.new.host) c.args.told.now.items c.step_rows.new.told.items) c.in-Some.is c.in_ok-stopped.ensures.calls in
    failed_for c.in-Some.stopped (c.args.stack.now ++ c.args.rows.items) fell.before fell.after fell.row fell.rows_are c.in_ok-unwind_rows.field-0 fell.fell_at fell.forward_is c.in_ok-unwind_rows.ensures.fall c.in_ok-unwind_rows.ensures.cause

pub returns-clause-told : goal.returns-clause-told
returns-clause-told g c =
    let A = g.A.Around in
    let t = A.task c.args.around.now in
    let fault = A.file_step_fault t in
    has_begun fault c.args.stack.now c.args.rows.items c.step_rows.new.stack c.in-Some.stopped (g.H.Host.state c.args.host.now) (g.H.Host.state c.step_rows.new.host) (g.H.Host.state c.unwind_rows.new.host) c.args.told.now.items c.step_rows.new.told.items c.unwind_rows.new.told.items
    (subst (λ (o : Option Stopped). HasStopped fault o c.args.stack.now c.args.rows.items c.step_rows.new.stack (g.H.Host.state c.args.host.now) (g.H.Host.state c.step_rows.new.host) c.args.told.now.items c.step_rows.new.told.items) c.in-Some.is c.in_ok-stopped.ensures.calls)
    (c.what_is_broken_off_begins_a_run.ensures.unwind t) c.unwind_rows.ensures.told

pub returns-clause-any_moment : goal.returns-clause-any_moment
returns-clause-any_moment g c = next_part _ g.A.Around.stops _ _ c.step_rows.ensures.task _ _ _ c.step_rows.ensures.any_moment c.unwind_rows.ensures.any_moment

pub returns-in_err-unwind_rows-clause-apart : goal.returns-in_err-unwind_rows-clause-apart
returns-in_err-unwind_rows-clause-apart g c =
    let area = g.A.Around.area in
    let a = g.H.Host.state c.args.host.now in
    let b = g.H.Host.state c.step_rows.new.host in
    let d = g.H.Host.state c.unwind_rows.new.host in
    faults_behind area c.from_residual-in_err-unwind_rows.result a b d (gone_by area _ a b c.step_rows.ensures.any_moment c.in_ok-stopped.ensures.apart) (later_of _ b d c.unwind_rows.ensures.any_moment) (λ h. (c.unwind_rows.ensures.apart h).0)
    (passed_on _ _ c.from_residual-in_err-unwind_rows.result c.from_residual-in_err-unwind_rows.ensures.1)

pub returns-clause-apart : goal.returns-clause-apart
returns-clause-apart g c =
    let area = g.A.Around.area in
    let a = g.H.Host.state c.args.host.now in
    let b = g.H.Host.state c.step_rows.new.host in
    let d = g.H.Host.state c.unwind_rows.new.host in
    (gone_on area a b d (gone_by area _ a b c.step_rows.ensures.any_moment c.in_ok-stopped.ensures.apart) (gone_by area _ b d c.unwind_rows.ensures.any_moment c.in_ok-unwind_rows.ensures.apart)).1

pub returns-in_default-clause-calls : goal.returns-in_default-clause-calls
returns-in_default-clause-calls g c =
    let A = g.A.Around in
    let fault = A.file_step_fault (A.task c.args.around.now) in
    subst (λ (o : Option Stopped). HasStopped fault o c.args.stack.now c.args.rows.items c.step_rows.new.stack (g.H.Host.state c.args.host.now) (g.H.Host.state c.step_rows.new.host) c.args.told.now.items c.step_rows.new.told.items) c.in_default.is c.in_ok-stopped.ensures.calls
