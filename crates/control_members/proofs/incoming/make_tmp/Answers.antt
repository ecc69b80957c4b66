use Rattle.std.proofs.Common.{sym, subst}
use Rattle.host_core.specs.World.{HasParent}
use Rattle.host_core.specs.Host.{Since}
use Rattle.host_core.proofs.Moments.{since_weaker_if}
use Rattle.administration.specs.Directories.{IsMaking}
use Rattle.control_members.proofs.LaidOut.{home_parent, incoming_absent, laying_making, laying_same, made_absent}
use Rattle.control_members.proofs.incoming.make_tmp.Goals as goal

pub make_directory-requires : goal.make_directory-requires
make_directory-requires g c = record { parent = λ h. subst (HasParent (g.H.Host.state c.args.host.now).world) (sym c.in_ok-path.ensures) (home_parent (g.H.Host.state c.args.host.now).world (c.requires.home h)) }

pub returns-in_err-_made-clause-any_moment : goal.returns-in_err-_made-clause-any_moment
returns-in_err-_made-clause-any_moment g c =
    let old = g.H.Host.state c.args.host.now in
    let making = subst (λ q. Since (λ so_far. IsMaking q old.world) old (g.H.Host.state c.make_directory.new.host)) c.in_ok-path.ensures c.make_directory.ensures.any_moment in
    since_weaker_if _ _ _ _ (λ h1 so_far w is. let h = making.honest h1 in laying_making old.world w (g.H.Host.tree c.args.host.now h) (c.requires.absent h) is) making

pub returns-clause-made : goal.returns-clause-made
returns-clause-made g c = λ h. made_absent _ _ _ _ c.in_ok-_made._made c.in_ok-path.ensures (c.requires.absent (c.make_directory.ensures.silent.honest h)) (c.in_ok-_made.ensures.made h)

pub returns-clause-any_moment : goal.returns-clause-any_moment
returns-clause-any_moment g c =
    let old = g.H.Host.state c.args.host.now in
    let making = subst (λ q. Since (λ so_far. IsMaking q old.world) old (g.H.Host.state c.make_directory.new.host)) c.in_ok-path.ensures c.make_directory.ensures.any_moment in
    since_weaker_if _ _ _ _ (λ h1 so_far w is. let h = making.honest h1 in laying_making old.world w (g.H.Host.tree c.args.host.now h) (c.requires.absent h) is) making

pub returns-in_err-path-clause-any_moment : goal.returns-in_err-path-clause-any_moment
returns-in_err-path-clause-any_moment g c = laying_same _ (λ h. incoming_absent _ (g.H.Host.tree c.args.host.now h) (c.requires.absent h))
