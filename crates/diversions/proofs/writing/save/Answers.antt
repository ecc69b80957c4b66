use Rattle.std.proofs.Common.{sym, subst}
use Rattle.host_core.specs.Host.{Since}
use Rattle.host_core.specs.World.{HasParent}
use Rattle.administration.specs.Files.{NoDirectory, IsReplacing}
use Rattle.administration.specs.Places.{temporary}
use Rattle.diversions.proofs.Moving.{table_parent}
use Rattle.diversions.proofs.writing.save.Goals as goal

pub replace-requires-clause-parent : goal.replace-requires-clause-parent
replace-requires-clause-parent g c = λ h.
    let w = (g.H.Host.state c.args.host.now).world in subst (HasParent w) (sym c.in_ok-path.ensures) (table_parent w (c.requires.ready h))

pub replace-requires-clause-target : goal.replace-requires-clause-target
replace-requires-clause-target g c = λ h.
    let w = (g.H.Host.state c.args.host.now).world in subst (λ p. NoDirectory (w p)) (sym c.in_ok-path.ensures) (c.requires.ready h).target

pub replace-requires-clause-spare : goal.replace-requires-clause-spare
replace-requires-clause-spare g c = λ h.
    let w = (g.H.Host.state c.args.host.now).world in subst (λ p. NoDirectory (w (temporary p))) (sym c.in_ok-path.ensures) (c.requires.ready h).spare

pub returns-clause-any_moment : goal.returns-clause-any_moment
returns-clause-any_moment g c =
    let old = g.H.Host.state c.args.host.now in
    subst (λ p. Since (λ so_far. IsReplacing p c.args.node.now old.world) old (g.H.Host.state c.replace.new.host)) c.in_ok-path.ensures c.replace.ensures.any_moment
