use Rattle.stop_laws.proofs.Steps.{removal_steps as at_each_step}
use Rattle.stop_laws.proofs.removal_steps.what_each_step_of_a_removal_leaves.Goals as goal

pub returns : goal.returns
returns c = λ given removable d old now so_far order same amid. at_each_step given removable d old now so_far order same amid
