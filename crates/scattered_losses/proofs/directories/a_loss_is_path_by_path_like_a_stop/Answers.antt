use Rattle.scattered_losses.proofs.Answered.{scattered_in_part}
use Rattle.scattered_losses.proofs.ByDirectory.{any_fronts, left_in_order, scattered_by_one, stop_within}
use Rattle.scattered_losses.proofs.directories.a_loss_is_path_by_path_like_a_stop.Goals as goal

pub returns-clause-ordered : goal.returns-clause-ordered
returns-clause-ordered c = left_in_order

pub returns-clause-stop : goal.returns-clause-stop
returns-clause-stop c = stop_within

pub returns-clause-one : goal.returns-clause-one
returns-clause-one c = scattered_by_one

pub returns-clause-fronts : goal.returns-clause-fronts
returns-clause-fronts c = any_fronts

pub returns-clause-part : goal.returns-clause-part
returns-clause-part c = scattered_in_part
