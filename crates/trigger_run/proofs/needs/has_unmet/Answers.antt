use Rattle.dependency_sets.specs.Sets.{has}
use Rattle.trigger_run.proofs.Lacking.{all_met}
use Rattle.trigger_run.proofs.needs.has_unmet.Goals as goal

pub returns-in-None : goal.returns-in-None
returns-in-None c = all_met c.args.packages.now (has c.args.set.now) c.args.of.now c.in_ok-first_unmet.field-0 c.in-None.is c.in_ok-first_unmet.ensures
