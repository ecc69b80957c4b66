use Rattle.host_overlay.proofs.Sound.{was_looked_at, was_silent}
use Rattle.host_overlay.proofs.overlay.Overlay.into_below.Goals as goal

pub returns-clause-untouched : goal.returns-clause-untouched
returns-clause-untouched g c = was_looked_at (g.H.Host.state c.args.self.begun.value) (g.H.Host.state c.args.self.below) c.args.self.world c.args.self.failures c.args.self.honest

pub returns-clause-silent : goal.returns-clause-silent
returns-clause-silent g c = was_silent (g.H.Host.state c.args.self.begun.value) (g.H.Host.state c.args.self.below) c.args.self.world c.args.self.failures c.args.self.honest
