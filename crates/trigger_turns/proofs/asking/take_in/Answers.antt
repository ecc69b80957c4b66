use Rattle.std.proofs.Common.{[], append-nil, refl, sym}
use Rattle.host_core.specs.declared.fault.HostFault.TheVariants.{NoMemory}
use Rattle.trigger_turns.specs.Turns.{IsBrokenBehind}
use Rattle.trigger_turns.proofs.Turned.{blind_here, told_same}
use Rattle.trigger_turns.proofs.Abandoned.{cut_off}
use Rattle.trigger_turns.proofs.asking.take_in.Goals as goal

pub returns-in-Err-clause-taken : goal.returns-in-Err-clause-taken
returns-in-Err-clause-taken g c = ([], IsBrokenBehind.blind refl (blind_here _ _ _ c.unbegun.ensures), sym (append-nil c.args.units.now.items))

pub returns-in-Err-clause-watched : goal.returns-in-Err-clause-watched
returns-in-Err-clause-watched g c = told_same _ _ _ _ refl

pub returns-in-Err-clause-abandoned : goal.returns-in-Err-clause-abandoned
returns-in-Err-clause-abandoned g c = cut_off _ NoMemory c.unbegun.result c.unbegun.ensures
