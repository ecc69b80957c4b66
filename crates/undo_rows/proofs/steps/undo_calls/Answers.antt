use Rattle.std.proofs.Common.{refl, subst}
use Rattle.host_core.specs.World.{is_kept}
use Rattle.host_core.specs.Host.{Since, OnlyScripts}
use Rattle.undo_rows.proofs.Stops.{stops_scripts}
use Rattle.undo_rows.specs.Undoing.{Undoes}
use Rattle.undo_rows.specs.Transcripts.{MayUndo}
use Rattle.undo_rows.proofs.Parts.{next_part, nothing_done}
use Rattle.undo_rows.proofs.Tellings.{begun_between, made_between}
use Rattle.scattered_losses.proofs.GoingApart.{faults_behind, fails_so, gone_by, gone_on, later_of, passed_on, scripts_gone}
use Rattle.undo_rows.proofs.steps.undo_calls.Goals as goal

pub returns-in_err-fails-clause-told : goal.returns-in_err-fails-clause-told
returns-in_err-fails-clause-told g c = begun_between _ (MayUndo c.args.row.now c.args.failed.now) _ _ _ _ _ _ (nothing_done _) c.undo_call.ensures.told (nothing_done _)

pub returns-in_err-fails-clause-any_moment : goal.returns-in_err-fails-clause-any_moment
returns-in_err-fails-clause-any_moment g c =
    let A = g.A.Around in
    let t = A.task c.args.around.now in
    let s0 = g.H.Host.state c.args.host.now in
    let s1 = g.H.Host.state c.undo_call.new.host in
    let ran = subst (λ l. Since (OnlyScripts (is_kept l) s0.world) s0 s1) c.places.ensures c.undo_call.ensures.any_moment in
    stops_scripts (A.stops t) (is_kept (A.kept c.args.around.now)) s0 s1 (λ h more v is. g.met.A.Around.holds _ _ _ more v c.requires.place h is) ran

pub returns-in_err-undone-clause-told : goal.returns-in_err-undone-clause-told
returns-in_err-undone-clause-told g c = begun_between _ (MayUndo c.args.row.now c.args.failed.now) _ _ _ _ _ _ (nothing_done _) c.undo_call.ensures.told c.undone.ensures.silent

pub returns-in_err-undone-clause-any_moment : goal.returns-in_err-undone-clause-any_moment
returns-in_err-undone-clause-any_moment g c =
    let A = g.A.Around in
    let t = A.task c.args.around.now in
    let s0 = g.H.Host.state c.args.host.now in
    let s1 = g.H.Host.state c.undo_call.new.host in
    let ran = subst (λ l. Since (OnlyScripts (is_kept l) s0.world) s0 s1) c.places.ensures c.undo_call.ensures.any_moment in
    next_part _ A.stops t t refl s0 s1 _ (stops_scripts (A.stops t) (is_kept (A.kept c.args.around.now)) s0 s1 (λ h more v is. g.met.A.Around.holds _ _ _ more v c.requires.place h is) ran) c.undone.ensures.any_moment

pub returns-clause-calls : goal.returns-clause-calls
returns-clause-calls g c = made_between (λ ts. Undoes c.args.row.now c.args.failed.now ts c.in_ok-fails.fails) _ _ _ _ _ _ _ (nothing_done _) c.in_ok-fails.ensures.calls c.undone.ensures.silent

pub returns-clause-told : goal.returns-clause-told
returns-clause-told g c = begun_between _ (MayUndo c.args.row.now c.args.failed.now) _ _ _ _ _ _ (nothing_done _) c.undo_call.ensures.told c.undone.ensures.silent

pub returns-clause-any_moment : goal.returns-clause-any_moment
returns-clause-any_moment g c =
    let A = g.A.Around in
    let t = A.task c.args.around.now in
    let s0 = g.H.Host.state c.args.host.now in
    let s1 = g.H.Host.state c.undo_call.new.host in
    let ran = subst (λ l. Since (OnlyScripts (is_kept l) s0.world) s0 s1) c.places.ensures c.undo_call.ensures.any_moment in
    next_part _ A.stops t t refl s0 s1 _ (stops_scripts (A.stops t) (is_kept (A.kept c.args.around.now)) s0 s1 (λ h more v is. g.met.A.Around.holds _ _ _ more v c.requires.place h is) ran) c.undone.ensures.any_moment

pub returns-in_err-fails-clause-apart : goal.returns-in_err-fails-clause-apart
returns-in_err-fails-clause-apart g c =
    let area = g.A.Around.area in
    let s0 = g.H.Host.state c.args.host.now in
    let s1 = g.H.Host.state c.undo_call.new.host in
    let called = scripts_gone area g.met.A.Around.own c.places.result.now s0 s1 c.undo_call.ensures.any_moment in
    fails_so area c.from_residual.result s0 s1 called (passed_on _ _ c.from_residual.result c.from_residual.ensures.1)

pub returns-in_err-undone-clause-apart : goal.returns-in_err-undone-clause-apart
returns-in_err-undone-clause-apart g c =
    let area = g.A.Around.area in
    let s0 = g.H.Host.state c.args.host.now in
    let s1 = g.H.Host.state c.undo_call.new.host in
    let called = scripts_gone area g.met.A.Around.own c.places.result.now s0 s1 c.undo_call.ensures.any_moment in
    let s2 = g.H.Host.state c.undone.new.host in
    faults_behind area c.from_residual-in_err-undone.result s0 s1 s2 called (later_of _ s1 s2 c.undone.ensures.any_moment) (λ h. (c.undone.ensures.apart h).0)
    (passed_on _ _ c.from_residual-in_err-undone.result c.from_residual-in_err-undone.ensures.1)

pub returns-clause-apart : goal.returns-clause-apart
returns-clause-apart g c =
    let area = g.A.Around.area in
    let s0 = g.H.Host.state c.args.host.now in
    let s1 = g.H.Host.state c.undo_call.new.host in
    let called = scripts_gone area g.met.A.Around.own c.places.result.now s0 s1 c.undo_call.ensures.any_moment in
    let s2 = g.H.Host.state c.undone.new.host in
    (gone_on area s0 s1 s2 called (gone_by area _ s1 s2 c.undone.ensures.any_moment c.in_ok-undone.ensures.apart)).1
