use Rattle.conffiles.proofs.ClearWays.{clear_answer}
use Rattle.conffiles.proofs.obstacles.find_obstacle.Goals as goal

pub returns-clause-clear : goal.returns-clause-clear
returns-clause-clear g c = λ h. clear_answer (g.H.Host.state c.args.host.now).world c.args.path.now c.look_at_all.result (c.look_at_all.ensures.looks.found h)
