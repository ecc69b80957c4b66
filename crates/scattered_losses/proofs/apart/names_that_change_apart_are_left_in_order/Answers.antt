use Rattle.scattered_losses.proofs.Parted.{alone_apart, apart_here, apart_then, left_first, quiet_too, same_apart, same_quiet}
use Rattle.scattered_losses.proofs.apart.names_that_change_apart_are_left_in_order.Goals as goal

pub returns-clause-first : goal.returns-clause-first
returns-clause-first c = left_first

pub returns-clause-here : goal.returns-clause-here
returns-clause-here c = apart_here

pub returns-clause-beside : goal.returns-clause-beside
returns-clause-beside c = λ area old new h since. (same_apart area old new h since, same_quiet area old new h since)

pub returns-clause-alone : goal.returns-clause-alone
returns-clause-alone c = alone_apart

pub returns-clause-behind : goal.returns-clause-behind
returns-clause-behind c = apart_then

pub returns-clause-quiet : goal.returns-clause-quiet
returns-clause-quiet c = quiet_too
