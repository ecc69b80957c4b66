use Rattle.std.proofs.Common.{sym, subst}
use Rattle.host_core.specs.Host.{AtEachMoment}
use Rattle.package_files.proofs.WriteMoments.{on_ok}
use Rattle.control_members.specs.Stored.{AreMemberNames, AreReplaced, AreReplacing, IsMembersReady}
use Rattle.unpack_commit.proofs.StoredOnes.{since_stored, since_told, stored_all}
use Rattle.unpack_commit.proofs.storing.store_members.Goals as goal

pub returns-in_err-stale-clause-any_moment : goal.returns-in_err-stale-clause-any_moment
returns-in_err-stale-clause-any_moment g c = since_told c.args.owner.now c.args.members.now _ _ c.requires.ready c.stored_names.ensures.looks.reads

pub replace_members-requires-clause-members : goal.replace_members-requires-clause-members
replace_members-requires-clause-members g c = subst AreMemberNames (sym c.as_slice.ensures) c.in_ok-stale.ensures.members

pub replace_members-requires-clause-ready : goal.replace_members-requires-clause-ready
replace_members-requires-clause-ready g c = λ h.
    subst (IsMembersReady c.args.owner.now) (sym c.stored_names.ensures.looks.reads.world) (c.requires.ready (c.stored_names.ensures.looks.reads.honest h))

pub returns-clause-stored : goal.returns-clause-stored
returns-clause-stored g c = λ h.
    let owner = c.args.owner.now in
    let members = c.args.members.now in
    let stale = c.in_ok-stale.stale in
    on_ok c.replace_members.result _ _
    (λ is. stored_all owner members stale (g.H.Host.state c.args.host.now).world (g.H.Host.state c.stored_names.new.host).world _ c.stored_names.ensures.looks.reads.world
    (c.in_ok-stale.ensures.looks.found (c.replace_members.ensures.silent.honest h))
    (subst (λ l. AreReplaced owner members l (g.H.Host.state c.stored_names.new.host).world (g.H.Host.state c.replace_members.new.host).world) c.as_slice.ensures is)) (c.replace_members.ensures.replaced h)

pub returns-clause-any_moment : goal.returns-clause-any_moment
returns-clause-any_moment g c =
    let owner = c.args.owner.now in
    let members = c.args.members.now in
    since_stored owner members c.in_ok-stale.stale _ _ _ c.requires.ready c.stored_names.ensures.looks.reads
    (subst (λ l. AtEachMoment (AreReplacing owner members l) (g.H.Host.state c.stored_names.new.host) (g.H.Host.state c.replace_members.new.host)) c.as_slice.ensures c.replace_members.ensures.any_moment)
