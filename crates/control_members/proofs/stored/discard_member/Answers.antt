use Rattle.std.proofs.Common.{sym, subst}
use Rattle.administration.specs.Files.{NoDirectory}
use Rattle.control_members.proofs.stored.discard_member.Goals as goal

pub discard-requires : goal.discard-requires
discard-requires g c = λ h. subst (λ q. NoDirectory ((g.H.Host.state c.args.host.now).world q)) (sym c.in_ok-path.ensures) ((c.requires.ready h).own c.args.name.now c.requires.member)
