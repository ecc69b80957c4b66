use Rattle.install_order.proofs.RoundLaws.{each_taken, each_once}
use Rattle.install_order.proofs.laws.each_tree_is_taken_once.Goals as goal

pub returns : goal.returns
returns c = record { taken = each_taken; once = each_once }
