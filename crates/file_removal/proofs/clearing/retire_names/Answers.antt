use Rattle.std.proofs.Common.{refl, rules}
use Rattle.host_core.proofs.Moments.{since_start, since_then}
use Rattle.file_removal.proofs.Clears.{next_cleared, next_retiring, retiring_start}
use Rattle.file_removal.proofs.Lowered.{took_start, took_then}
use Rattle.file_removal.proofs.clearing.retire_names.Goals as goal

pub returns-in_err-retire_name-clause-any_moment : goal.returns-in_err-retire_name-clause-any_moment
returns-in_err-retire_name-clause-any_moment g c =
    let before = c.loop-name.invariant in
    since_then _ _ _ _ before.any_moment (next_retiring c.args.names.now c.loop-name.name-index c.name-item.result c.loop-name-test.true c.name-item.is _ _ _ (λ h. before.cleared (c.retire_name.ensures.silent.honest h)) c.retire_name.ensures.any_moment)

pub returns-in_err-retire_name-clause-lowered : goal.returns-in_err-retire_name-clause-lowered
returns-in_err-retire_name-clause-lowered g c = took_then _ _ _ c.loop-name.invariant.lowered c.retire_name.ensures.lowered

pub loop-name-init : goal.loop-name-init
loop-name-init g c = record {
  silent = search rules;
  counts = search rules;
  cleared = λ h. record { each = λ p. refl };
  any_moment = since_start _ _ (retiring_start _ _);
  lowered = took_start _;
}

pub loop-name-preserved : goal.loop-name-preserved
loop-name-preserved g c =
    let before = c.loop-name.invariant in
    let names = c.args.names.now in
    let i = c.loop-name.name-index in
    record {
      silent = search rules;
      counts = search rules;
      cleared = λ h. next_cleared names i c.name-item.result c.loop-name-test.true c.name-item.is _ _ _ (before.cleared (c.retire_name.ensures.silent.honest h)) (c.in_ok-retire_name.ensures.cleared h);
      any_moment = since_then _ _ _ _ before.any_moment (next_retiring names i c.name-item.result c.loop-name-test.true c.name-item.is _ _ _ (λ h. before.cleared (c.retire_name.ensures.silent.honest h)) c.retire_name.ensures.any_moment);
      lowered = took_then _ _ _ before.lowered c.retire_name.ensures.lowered;
    }
