use Rattle.unit_stages.proofs.Asides.{run_aside, running_aside}
use Rattle.unit_stages.proofs.laws.what_stages_leave.Goals as goal

pub returns-clause-run : goal.returns-clause-run
returns-clause-run c = λ name ways stages failed before after s t told now q aside own fit run honest.
    run_aside name q own aside ways stages failed before after s t told now run fit honest

pub returns-clause-running : goal.returns-clause-running
returns-clause-running c = λ name ways stages h old now so_far q aside own fit running.
    running_aside name q own aside ways stages h old so_far now running fit
