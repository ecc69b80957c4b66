use Rattle.removal_losses.proofs.Reading.{files_left}
use Rattle.removal_losses.proofs.removals.what_a_loss_leaves_of_a_removal.Goals as goal

pub returns : goal.returns
returns c = record {
  files = λ kept g removable d begun old new left q. files_left c.what_each_step_of_a_removal_leaves.ensures kept g removable d begun old new left q;
}
