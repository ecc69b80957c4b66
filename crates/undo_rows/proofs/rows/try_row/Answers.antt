use Rattle.std.proofs.Common.{[], true, false, refl, sym, ◌∙◌}
use Rattle.host_core.proofs.Scripts.{since_scripts}
use Rattle.undo_rows.specs.Transcript.{IsCall, IsOne, Tries, TriesRow}
use Rattle.undo_rows.proofs.Makes.{begins_more, begins_none, begins_then, makes_none, makes_weaker, makes_then}
use Rattle.undo_rows.proofs.OneRow.{falls_back, tries_done, tries_failed, tries_fallback, tries_goes_on}
use Rattle.undo_rows.proofs.rows.try_row.Goals as goal

pub returns-in_default-clause-calls : goal.returns-in_default-clause-calls
returns-in_default-clause-calls g c = makes_none _ (λ ts. Tries c.args.row.now ts true) _ _ (Tries.absent c.in_default.is)

pub returns-then-is_success-clause-calls : goal.returns-then-is_success-clause-calls
returns-then-is_success-clause-calls g c =
    makes_weaker _ _ (λ ts. Tries c.args.row.now ts true) _ _ _ _
    (tries_done c.args.row.now c.in-Some.forward c.in_ok-outcome.outcome c.in-Some.is (sym c.is_success.ensures ∙ c.if-is_success.true)) c.in_ok-outcome.ensures.calls

pub returns-in_default-fallback-clause-calls : goal.returns-in_default-fallback-clause-calls
returns-in_default-fallback-clause-calls g c =
    makes_weaker _ _ (λ ts. Tries c.args.row.now ts false) _ _ _ _
    (tries_failed c.args.row.now c.in-Some.forward c.in_ok-outcome.outcome c.in-Some.is (sym c.is_success.ensures ∙ c.if-is_success.false) c.in_default-fallback.is) c.in_ok-outcome.ensures.calls

pub returns-in_err-outcome-2-clause-any_moment : goal.returns-in_err-outcome-2-clause-any_moment
returns-in_err-outcome-2-clause-any_moment g c = since_scripts _ _ _ _ c.call_script.ensures.any_moment c.call_script-2.ensures.any_moment

pub returns-clause-calls : goal.returns-clause-calls
returns-clause-calls g c =
    makes_then _ _ _ (λ ts. Tries c.args.row.now ts c.is_success-2.result) _ _ _ _ _ _
    (tries_fallback c.args.row.now c.in-Some.forward c.in_ok-outcome.outcome c.in-Some-fallback.fallback c.in_ok-outcome-2.outcome c.is_success-2.result c.in-Some.is (sym c.is_success.ensures ∙ c.if-is_success.false) c.in-Some-fallback.is c.is_success-2.ensures)
    c.in_ok-outcome.ensures.calls c.in_ok-outcome-2.ensures.calls

pub returns-clause-any_moment : goal.returns-clause-any_moment
returns-clause-any_moment g c = since_scripts _ _ _ _ c.call_script.ensures.any_moment c.call_script-2.ensures.any_moment

pub returns-in_default-clause-told : goal.returns-in_default-clause-told
returns-in_default-clause-told g c = begins_none _ (TriesRow c.args.row.now) (g.H.Host.state c.args.host.now) _ _ [] refl (true, Tries.absent c.in_default.is)

pub returns-in_err-outcome-clause-told : goal.returns-in_err-outcome-clause-told
returns-in_err-outcome-clause-told g c =
    begins_more _ (IsCall c.in-Some.forward) (TriesRow c.args.row.now) (g.H.Host.state c.args.host.now) (g.H.Host.state c.call_script.new.host) _ _ (tries_goes_on c.args.row.now c.in-Some.forward c.in-Some.is) c.call_script.ensures.told

pub returns-then-is_success-clause-told : goal.returns-then-is_success-clause-told
returns-then-is_success-clause-told g c =
    begins_more _ (IsCall c.in-Some.forward) (TriesRow c.args.row.now) (g.H.Host.state c.args.host.now) (g.H.Host.state c.call_script.new.host) _ _ (tries_goes_on c.args.row.now c.in-Some.forward c.in-Some.is) c.call_script.ensures.told

pub returns-in_default-fallback-clause-told : goal.returns-in_default-fallback-clause-told
returns-in_default-fallback-clause-told g c =
    begins_more _ (IsCall c.in-Some.forward) (TriesRow c.args.row.now) (g.H.Host.state c.args.host.now) (g.H.Host.state c.call_script.new.host) _ _ (tries_goes_on c.args.row.now c.in-Some.forward c.in-Some.is) c.call_script.ensures.told

pub returns-in_err-outcome-2-clause-told : goal.returns-in_err-outcome-2-clause-told
returns-in_err-outcome-2-clause-told g c =
    let row = c.args.row.now in
    begins_then _ (IsOne c.in-Some.forward c.in_ok-outcome.outcome) (IsCall c.in-Some-fallback.fallback) (TriesRow row) (g.H.Host.state c.args.host.now) (g.H.Host.state c.call_script.new.host) (g.H.Host.state c.call_script-2.new.host) _ _ _
    (falls_back row c.in-Some.forward c.in_ok-outcome.outcome c.in-Some-fallback.fallback c.in-Some.is (sym c.is_success.ensures ∙ c.if-is_success.false) c.in-Some-fallback.is)
    c.in_ok-outcome.ensures.calls c.call_script-2.ensures.told

pub returns-clause-told : goal.returns-clause-told
returns-clause-told g c =
    let row = c.args.row.now in
    begins_then _ (IsOne c.in-Some.forward c.in_ok-outcome.outcome) (IsCall c.in-Some-fallback.fallback) (TriesRow row) (g.H.Host.state c.args.host.now) (g.H.Host.state c.call_script.new.host) (g.H.Host.state c.call_script-2.new.host) _ _ _
    (falls_back row c.in-Some.forward c.in_ok-outcome.outcome c.in-Some-fallback.fallback c.in-Some.is (sym c.is_success.ensures ∙ c.if-is_success.false) c.in-Some-fallback.is)
    c.in_ok-outcome.ensures.calls c.call_script-2.ensures.told
