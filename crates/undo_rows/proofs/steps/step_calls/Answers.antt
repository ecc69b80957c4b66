use Rattle.std.proofs.Common.{subst}
use Rattle.host_core.specs.World.{is_kept}
use Rattle.host_core.specs.Host.{Since, OnlyScripts}
use Rattle.undo_rows.specs.Transcript.{Tries, TriesRow}
use Rattle.undo_rows.proofs.Parts.{next_part, next_script, nothing_done}
use Rattle.undo_rows.proofs.Tellings.{begun_between, begun_none, made_between}
use Rattle.undo_rows.proofs.Rowwise.{may_try}
use Rattle.scattered_losses.proofs.GoingApart.{faults_behind, faults_so, fails_so, gone_by, gone_on, later_of, passed_on, scripts_gone}
use Rattle.undo_rows.proofs.steps.step_calls.Goals as goal

pub returns-in_err-prepare-clause-told : goal.returns-in_err-prepare-clause-told
returns-in_err-prepare-clause-told g c = let some = may_try c.args.row.now in begun_none (TriesRow c.args.row.now) _ _ _ some.0 some.1 c.prepare.ensures.silent

pub returns-in_err-succeeded-clause-told : goal.returns-in_err-succeeded-clause-told
returns-in_err-succeeded-clause-told g c = begun_between _ (TriesRow c.args.row.now) _ _ _ _ _ _ c.prepare.ensures.silent c.try_row.ensures.told (nothing_done _)

pub returns-in_err-succeeded-clause-any_moment : goal.returns-in_err-succeeded-clause-any_moment
returns-in_err-succeeded-clause-any_moment g c =
    let A = g.A.Around in
    let s1 = g.H.Host.state c.prepare.new.host in
    let s2 = g.H.Host.state c.try_row.new.host in
    let ran = subst (λ l. Since (OnlyScripts (is_kept l) s1.world) s1 s2) c.places.ensures c.try_row.ensures.any_moment in
    next_script _ A.stops (A.task c.args.around.now) (A.task c.prepare.new.self) c.prepare.ensures.task (is_kept (A.kept c.prepare.new.self)) _ s1 s2 (λ h more v is. g.met.A.Around.holds _ _ _ more v c.in_ok-prepare.ensures.place h is) c.prepare.ensures.any_moment ran

pub returns-in_err-conclude-clause-told : goal.returns-in_err-conclude-clause-told
returns-in_err-conclude-clause-told g c = begun_between _ (TriesRow c.args.row.now) _ _ _ _ _ _ c.prepare.ensures.silent c.try_row.ensures.told c.conclude.ensures.silent

pub returns-in_err-conclude-clause-any_moment : goal.returns-in_err-conclude-clause-any_moment
returns-in_err-conclude-clause-any_moment g c =
    let A = g.A.Around in
    let s1 = g.H.Host.state c.prepare.new.host in
    let s2 = g.H.Host.state c.try_row.new.host in
    let ran = subst (λ l. Since (OnlyScripts (is_kept l) s1.world) s1 s2) c.places.ensures c.try_row.ensures.any_moment in
    let so_far = next_script _ A.stops (A.task c.args.around.now) (A.task c.prepare.new.self) c.prepare.ensures.task (is_kept (A.kept c.prepare.new.self)) _ s1 s2 (λ h more v is. g.met.A.Around.holds _ _ _ more v c.in_ok-prepare.ensures.place h is) c.prepare.ensures.any_moment ran in
    next_part _ A.stops (A.task c.args.around.now) (A.task c.prepare.new.self) c.prepare.ensures.task _ s2 _ so_far c.conclude.ensures.any_moment

pub returns-clause-calls : goal.returns-clause-calls
returns-clause-calls g c = made_between (λ ts. Tries c.args.row.now ts c.in_ok-succeeded.succeeded) _ _ _ _ _ _ _ c.prepare.ensures.silent c.in_ok-succeeded.ensures.calls c.conclude.ensures.silent

pub returns-clause-told : goal.returns-clause-told
returns-clause-told g c = begun_between _ (TriesRow c.args.row.now) _ _ _ _ _ _ c.prepare.ensures.silent c.try_row.ensures.told c.conclude.ensures.silent

pub returns-clause-any_moment : goal.returns-clause-any_moment
returns-clause-any_moment g c =
    let A = g.A.Around in
    let s1 = g.H.Host.state c.prepare.new.host in
    let s2 = g.H.Host.state c.try_row.new.host in
    let ran = subst (λ l. Since (OnlyScripts (is_kept l) s1.world) s1 s2) c.places.ensures c.try_row.ensures.any_moment in
    let so_far = next_script _ A.stops (A.task c.args.around.now) (A.task c.prepare.new.self) c.prepare.ensures.task (is_kept (A.kept c.prepare.new.self)) _ s1 s2 (λ h more v is. g.met.A.Around.holds _ _ _ more v c.in_ok-prepare.ensures.place h is) c.prepare.ensures.any_moment ran in
    next_part _ A.stops (A.task c.args.around.now) (A.task c.prepare.new.self) c.prepare.ensures.task _ s2 _ so_far c.conclude.ensures.any_moment

pub returns-in_err-prepare-clause-apart : goal.returns-in_err-prepare-clause-apart
returns-in_err-prepare-clause-apart g c =
    let area = g.A.Around.area in
    let s0 = g.H.Host.state c.args.host.now in
    let s1 = g.H.Host.state c.prepare.new.host in
    faults_so area c.from_residual.result s0 s1 (λ h. (c.prepare.ensures.apart h).0) (passed_on _ _ c.from_residual.result c.from_residual.ensures.1)

pub returns-in_err-succeeded-clause-apart : goal.returns-in_err-succeeded-clause-apart
returns-in_err-succeeded-clause-apart g c =
    let area = g.A.Around.area in
    let s0 = g.H.Host.state c.args.host.now in
    let s1 = g.H.Host.state c.prepare.new.host in
    let s2 = g.H.Host.state c.try_row.new.host in
    let prepared = gone_by area _ s0 s1 c.prepare.ensures.any_moment c.in_ok-prepare.ensures.apart in
    let called = gone_on area s0 s1 s2 prepared (scripts_gone area g.met.A.Around.own c.places.result.now s1 s2 c.try_row.ensures.any_moment) in
    fails_so area c.from_residual-in_err-succeeded.result s0 s2 called (passed_on _ _ c.from_residual-in_err-succeeded.result c.from_residual-in_err-succeeded.ensures.1)

pub returns-in_err-conclude-clause-apart : goal.returns-in_err-conclude-clause-apart
returns-in_err-conclude-clause-apart g c =
    let area = g.A.Around.area in
    let s0 = g.H.Host.state c.args.host.now in
    let s1 = g.H.Host.state c.prepare.new.host in
    let s2 = g.H.Host.state c.try_row.new.host in
    let prepared = gone_by area _ s0 s1 c.prepare.ensures.any_moment c.in_ok-prepare.ensures.apart in
    let called = gone_on area s0 s1 s2 prepared (scripts_gone area g.met.A.Around.own c.places.result.now s1 s2 c.try_row.ensures.any_moment) in
    let s3 = g.H.Host.state c.conclude.new.host in
    faults_behind area c.from_residual-in_err-conclude.result s0 s2 s3 called (later_of _ s2 s3 c.conclude.ensures.any_moment) (λ h. (c.conclude.ensures.apart h).0)
    (passed_on _ _ c.from_residual-in_err-conclude.result c.from_residual-in_err-conclude.ensures.1)

pub returns-clause-apart : goal.returns-clause-apart
returns-clause-apart g c =
    let area = g.A.Around.area in
    let s0 = g.H.Host.state c.args.host.now in
    let s1 = g.H.Host.state c.prepare.new.host in
    let s2 = g.H.Host.state c.try_row.new.host in
    let prepared = gone_by area _ s0 s1 c.prepare.ensures.any_moment c.in_ok-prepare.ensures.apart in
    let called = gone_on area s0 s1 s2 prepared (scripts_gone area g.met.A.Around.own c.places.result.now s1 s2 c.try_row.ensures.any_moment) in
    let s3 = g.H.Host.state c.conclude.new.host in
    (gone_on area s0 s2 s3 called (gone_by area _ s2 s3 c.conclude.ensures.any_moment c.in_ok-conclude.ensures.apart)).1
