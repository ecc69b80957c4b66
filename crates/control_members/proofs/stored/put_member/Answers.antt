use Rattle.std.proofs.Common.{◌≡◌, true, sym, subst}
use Rattle.host_core.specs.Paths.{is_path}
use Rattle.host_core.specs.World.{HasParent}
use Rattle.administration.specs.Places.{temporary}
use Rattle.administration.specs.Files.{NoDirectory}
use Rattle.control_members.proofs.MemberNames.{stored_spare_is_path}
use Rattle.control_members.proofs.Starting.{stored_parent, replacing_here}
use Rattle.control_members.proofs.stored.put_member.Goals as goal

pub returns-in_err-path-clause-any_moment : goal.returns-in_err-path-clause-any_moment
returns-in_err-path-clause-any_moment g c = replacing_here c.args.owner.now c.args.member.now _ c.requires.ready

pub replace-requires-clause-room : goal.replace-requires-clause-room
replace-requires-clause-room g c = subst (λ q. is_path (temporary q) ≡ true) (sym c.in_ok-path.ensures) (stored_spare_is_path c.args.owner.now c.args.member.now.name c.requires.named c.args.member.now.named)

pub replace-requires-clause-parent : goal.replace-requires-clause-parent
replace-requires-clause-parent g c = λ h. subst (HasParent (g.H.Host.state c.args.host.now).world) (sym c.in_ok-path.ensures)
    (stored_parent c.args.owner.now c.args.member.now.name _ c.requires.named c.args.member.now.named (c.requires.ready h))

pub replace-requires-clause-target : goal.replace-requires-clause-target
replace-requires-clause-target g c = λ h. subst (λ q. NoDirectory ((g.H.Host.state c.args.host.now).world q)) (sym c.in_ok-path.ensures) ((c.requires.ready h).own c.args.member.now.name c.args.member.now.named)

pub replace-requires-clause-spare : goal.replace-requires-clause-spare
replace-requires-clause-spare g c = λ h. subst (λ q. NoDirectory ((g.H.Host.state c.args.host.now).world (temporary q))) (sym c.in_ok-path.ensures) ((c.requires.ready h).spares c.args.member.now.name c.args.member.now.named)
