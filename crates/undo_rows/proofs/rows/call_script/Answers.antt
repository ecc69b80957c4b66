use Rattle.std.proofs.Common.{◌∷◌, [], ◌++◌, arith, ap, ◌∙◌}
use Rattle.std.proofs.lemmas.Slice.{pushed}
use Rattle.host_core.specs.World.{is_kept}
use Rattle.host_core.proofs.Scripts.{since_runs}
use Rattle.undo_rows.specs.Transcript.{IsCall}
use Rattle.undo_rows.proofs.Makes.{begins_call, begins_failed, begins_none, makes_one, moments_none, killed, some_call}
use Rattle.undo_rows.proofs.rows.call_script.Goals as goal

pub returns-in_err-copy-clause-told : goal.returns-in_err-copy-clause-told
returns-in_err-copy-clause-told g c = begins_none _ (IsCall c.args.call.now) (g.H.Host.state c.args.host.now) _ _ (killed c.args.call.now ∷ []) c.reserve.ensures.items (some_call c.args.call.now)

pub returns-in_err-copy-clause-any_moment : goal.returns-in_err-copy-clause-any_moment
returns-in_err-copy-clause-any_moment g c = moments_none _ _

pub returns-in_err-reserve-clause-told : goal.returns-in_err-reserve-clause-told
returns-in_err-reserve-clause-told g c = begins_none _ (IsCall c.args.call.now) (g.H.Host.state c.args.host.now) _ _ (killed c.args.call.now ∷ []) c.reserve.ensures.items (some_call c.args.call.now)

pub returns-in_err-reserve-clause-any_moment : goal.returns-in_err-reserve-clause-any_moment
returns-in_err-reserve-clause-any_moment g c = moments_none _ _

pub unwrap-requires : goal.unwrap-requires
unwrap-requires g c = c.push.ensures.succeeds (omega (arith, c.in_ok-reserve.ensures.ok))

pub returns-in_err-outcome-clause-any_moment : goal.returns-in_err-outcome-clause-any_moment
returns-in_err-outcome-clause-any_moment g c = since_runs _ _ _ _ c.run.result c.run.ensures.runs

pub returns-in_err-outcome-clause-told : goal.returns-in_err-outcome-clause-told
returns-in_err-outcome-clause-told g c =
    begins_failed (is_kept c.args.keep.now) c.args.call.now c.in_err-outcome.field-0.0 (g.H.Host.state c.args.host.now) (g.H.Host.state c.run.new.self) _ _ c.in_err-outcome.ensures.runs c.reserve.ensures.items

pub returns-clause-calls : goal.returns-clause-calls
returns-clause-calls g c =
    let told = pushed (record { call = c.in_ok-copy.copy; outcome = c.in_ok-outcome.outcome } ∷ []) c.reserve.ensures.items c.unwrap.ensures c.push.ensures.items ∙ ap (λ k. c.args.told.now.items ++ record { call = k; outcome = c.in_ok-outcome.outcome } ∷ []) c.in_ok-copy.ensures in
    makes_one (is_kept c.args.keep.now) c.args.call.now c.in_ok-outcome.outcome (g.H.Host.state c.args.host.now) (g.H.Host.state c.run.new.self) _ _ c.in_ok-outcome.ensures.runs told

pub returns-clause-told : goal.returns-clause-told
returns-clause-told g c =
    let told = pushed (record { call = c.in_ok-copy.copy; outcome = c.in_ok-outcome.outcome } ∷ []) c.reserve.ensures.items c.unwrap.ensures c.push.ensures.items ∙ ap (λ k. c.args.told.now.items ++ record { call = k; outcome = c.in_ok-outcome.outcome } ∷ []) c.in_ok-copy.ensures in
    begins_call (is_kept c.args.keep.now) c.args.call.now c.in_ok-outcome.outcome (g.H.Host.state c.args.host.now) (g.H.Host.state c.run.new.self) _ _ c.in_ok-outcome.ensures.runs told

pub returns-clause-any_moment : goal.returns-clause-any_moment
returns-clause-any_moment g c = since_runs _ _ _ _ c.run.result c.run.ensures.runs
