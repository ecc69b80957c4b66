use Rattle.stop_laws.proofs.ConffileSteps.{configure_again, configure_steps as at_each_step}
use Rattle.stop_laws.proofs.configure_steps.what_each_step_of_configuring_leaves.Goals as goal

pub returns-clause-steps : goal.returns-clause-steps
returns-clause-steps c = λ given r d old now so_far found order same amid. at_each_step given r found old now so_far d order same amid

pub returns-clause-again : goal.returns-clause-again
returns-clause-again c = λ given r old now so_far x first again found none has ship decided then_decided amid.
    configure_again given r found old now so_far c.settling_again_ends_alike.ensures x first again none has ship decided then_decided amid
