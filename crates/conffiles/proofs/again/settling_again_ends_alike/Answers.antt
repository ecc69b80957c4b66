use Rattle.conffiles.proofs.Stopped.{ends_alike}
use Rattle.conffiles.proofs.again.settling_again_ends_alike.Goals as goal

pub returns : goal.returns
returns c = ends_alike
