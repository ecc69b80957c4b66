use Rattle.host_core.proofs.Losses.{avoid_session, loss_is_like_a_stop, loses_behind_barrier, loses_in_part}
use Rattle.host_core.proofs.laws.a_loss_is_like_a_stop.Goals as goal

pub returns-clause-stop : goal.returns-clause-stop
returns-clause-stop c = loss_is_like_a_stop

pub returns-clause-barrier : goal.returns-clause-barrier
returns-clause-barrier c = loses_behind_barrier

pub returns-clause-part : goal.returns-clause-part
returns-clause-part c = loses_in_part

pub returns-clause-session : goal.returns-clause-session
returns-clause-session c = avoid_session
