use Rattle.std.proofs.Common.{rules}
use Rattle.host_core.proofs.Moments.{since_then}
use Rattle.file_removal.proofs.Clears.{next_cleared, next_clearing}
use Rattle.file_removal.proofs.clearing.clear_names.Goals as goal

pub returns-in_err-clear_name-clause-any_moment : goal.returns-in_err-clear_name-clause-any_moment
returns-in_err-clear_name-clause-any_moment g c =
    let before = c.loop-name.invariant in
    since_then _ _ _ _ before.any_moment (next_clearing c.args.names.now c.loop-name.name-index c.name-item.result c.loop-name-test.true c.name-item.is _ _ _ (λ h. before.cleared (c.clear_name.ensures.silent.honest h)) c.clear_name.ensures.any_moment)

pub loop-name-preserved : goal.loop-name-preserved
loop-name-preserved g c =
    let before = c.loop-name.invariant in
    let names = c.args.names.now in
    let i = c.loop-name.name-index in
    record {
      silent = search rules;
      counts = search rules;
      cleared = λ h. next_cleared names i c.name-item.result c.loop-name-test.true c.name-item.is _ _ _ (before.cleared (c.clear_name.ensures.silent.honest h)) (c.in_ok-clear_name.ensures.cleared h);
      any_moment = since_then _ _ _ _ before.any_moment (next_clearing names i c.name-item.result c.loop-name-test.true c.name-item.is _ _ _ (λ h. before.cleared (c.clear_name.ensures.silent.honest h)) c.clear_name.ensures.any_moment);
    }
