use Rattle.std.proofs.Common.{sym, subst}
use Rattle.package_files.proofs.WriteMoments.{on_ok}
use Rattle.control_members.specs.Stored.{AreMemberNames, AreStoredNames, IsMembersReady}
use Rattle.unit_stages.proofs.Discarding.{dropped_all, since_dropping, since_looked}
use Rattle.unit_stages.proofs.members.drop_members.Goals as goal

pub returns-in_err-names-clause-any_moment : goal.returns-in_err-names-clause-any_moment
returns-in_err-names-clause-any_moment g c = since_looked c.args.name.now c.args.keep_postrm _ _ c.stored_names.ensures.looks.reads

pub discard_members-requires-clause-members : goal.discard_members-requires-clause-members
discard_members-requires-clause-members g c = subst AreMemberNames (sym c.as_slice.ensures) c.in_ok-names.ensures.members

pub discard_members-requires-clause-ready : goal.discard_members-requires-clause-ready
discard_members-requires-clause-ready g c = λ h. subst (IsMembersReady c.args.name.now) (sym c.stored_names.ensures.looks.reads.world) (c.requires.ready (c.stored_names.ensures.looks.reads.honest h))

pub returns-clause-dropped : goal.returns-clause-dropped
returns-clause-dropped g c = λ h.
    on_ok c.discard_members.result _ _
    (λ taken. dropped_all c.args.name.now c.args.keep_postrm (g.H.Host.state c.args.host.now) (g.H.Host.state c.stored_names.new.host) c.stored_names.ensures.looks.reads c.as_slice.result.now (g.H.Host.state c.discard_members.new.host)
    (subst (AreStoredNames (g.H.Host.state c.args.host.now).world c.args.name.now) (sym c.as_slice.ensures) (c.in_ok-names.ensures.looks.found (c.discard_members.ensures.silent.honest h))) taken)
    (c.discard_members.ensures.taken h)

pub returns-clause-any_moment : goal.returns-clause-any_moment
returns-clause-any_moment g c =
    since_dropping c.args.name.now c.args.keep_postrm _ _ c.stored_names.ensures.looks.reads c.as_slice.result.now _
    (λ h. subst (AreStoredNames (g.H.Host.state c.args.host.now).world c.args.name.now) (sym c.as_slice.ensures) (c.in_ok-names.ensures.looks.found h)) c.discard_members.ensures.any_moment
