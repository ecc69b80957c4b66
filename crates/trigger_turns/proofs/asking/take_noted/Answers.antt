use Rattle.std.proofs.Common.{Bool}
use Rattle.trigger_turns.proofs.Turned.{counts_else}
use Rattle.trigger_turns.proofs.asking.take_noted.Goals as goal

pub returns-in-Err-clause-full : goal.returns-in-Err-clause-full
returns-in-Err-clause-full g c = record {
  fault = c.in-Err.fault;
  any_moment = c.renew.ensures.any_moment;
  silent = c.renew.ensures.silent;
  counts = counts_else Bool (Unit {0}) _ _ c.in-Err.fault c.in-Err.ensures.counts;
  unbegun = c.unbegun.ensures;
}
