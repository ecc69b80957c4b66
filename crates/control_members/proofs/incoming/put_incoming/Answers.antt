use Rattle.std.proofs.Common.{◌≡◌, sym, subst, true}
use Rattle.host_core.specs.Paths.{is_path}
use Rattle.host_core.specs.World.{HasParent}
use Rattle.host_core.specs.Host.{Since}
use Rattle.host_core.proofs.Moments.{since_weaker_if}
use Rattle.administration.specs.Places.{temporary}
use Rattle.administration.specs.Files.{NoDirectory, IsReplacing}
use Rattle.control_members.proofs.MemberNames.{laid_spare_is_path}
use Rattle.control_members.proofs.LaidOut.{laid_parent, incoming_flat, laying_replacing, laying_same}
use Rattle.control_members.proofs.incoming.put_incoming.Goals as goal

pub returns-in_err-path-clause-any_moment : goal.returns-in_err-path-clause-any_moment
returns-in_err-path-clause-any_moment g c = laying_same _ c.requires.incoming

pub replace-requires-clause-room : goal.replace-requires-clause-room
replace-requires-clause-room g c = subst (λ q. is_path (temporary q) ≡ true) (sym c.in_ok-path.ensures) (laid_spare_is_path c.args.member.now.name c.args.member.now.named)

pub replace-requires-clause-parent : goal.replace-requires-clause-parent
replace-requires-clause-parent g c = λ h. subst (HasParent (g.H.Host.state c.args.host.now).world) (sym c.in_ok-path.ensures) (laid_parent _ c.args.member.now.name c.args.member.now.named (c.requires.there h))

pub replace-requires-clause-target : goal.replace-requires-clause-target
replace-requires-clause-target g c = λ h. subst (λ q. NoDirectory ((g.H.Host.state c.args.host.now).world q)) (sym c.in_ok-path.ensures) (incoming_flat _ c.args.member.now.name c.args.member.now.named (c.requires.incoming h)).0

pub replace-requires-clause-spare : goal.replace-requires-clause-spare
replace-requires-clause-spare g c = λ h. subst (λ q. NoDirectory ((g.H.Host.state c.args.host.now).world (temporary q))) (sym c.in_ok-path.ensures) (incoming_flat _ c.args.member.now.name c.args.member.now.named (c.requires.incoming h)).1

pub returns-clause-any_moment : goal.returns-clause-any_moment
returns-clause-any_moment g c =
    let old = g.H.Host.state c.args.host.now in
    let new = g.H.Host.state c.replace.new.host in
    let replacing = subst (λ q. Since (λ so_far. IsReplacing q c.args.member.now.node old.world) old new) c.in_ok-path.ensures c.replace.ensures.any_moment in
    since_weaker_if _ _ _ _ (λ h so_far w is. laying_replacing c.args.member.now old.world w (c.requires.incoming (replacing.honest h)) is) replacing
