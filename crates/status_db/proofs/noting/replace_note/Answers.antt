use Rattle.std.proofs.Common.{sym, subst}
use Rattle.host_core.specs.World.{HasParent}
use Rattle.administration.specs.Files.{NoDirectory}
use Rattle.administration.specs.Places.{temporary}
use Rattle.status_db.specs.Notes.{below_limit}
use Rattle.status_db.proofs.NotedWorlds.{note_parent, replacing_not}
use Rattle.status_db.proofs.noting.replace_note.Goals as goal

pub returns-in_err-path-clause-any_moment : goal.returns-in_err-path-clause-any_moment
returns-in_err-path-clause-any_moment g c = replacing_not c.args.number (below_limit c.args.number c.requires.number) c.args.node.now _ c.requires.unblocked

pub replace-requires-clause-parent : goal.replace-requires-clause-parent
replace-requires-clause-parent g c = λ h. subst (HasParent (g.H.Host.state c.args.host.now).world) (sym c.in_ok-path.ensures) (note_parent _ c.args.number (below_limit c.args.number c.requires.number) (c.requires.unblocked h))

pub replace-requires-clause-spare : goal.replace-requires-clause-spare
replace-requires-clause-spare g c = λ h. subst (λ p. NoDirectory ((g.H.Host.state c.args.host.now).world (temporary p))) (sym c.in_ok-path.ensures) ((c.requires.unblocked h).spares c.args.number (below_limit c.args.number c.requires.number))
