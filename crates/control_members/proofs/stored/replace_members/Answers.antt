use Rattle.std.proofs.Common.{sym, subst}
use Rattle.std.proofs.lemmas.Result.{on_ok_weaker}
use Rattle.host_core.specs.Host.{Since}
use Rattle.host_core.proofs.Moments.{since_now}
use Rattle.control_members.specs.Members.{AreInOrder, names_of}
use Rattle.control_members.specs.Written.{AreWritten, AreWriting}
use Rattle.control_members.proofs.Replacing.{replaced_both, since_first, since_both}
use Rattle.control_members.proofs.Writing.{writing_ready}
use Rattle.control_members.proofs.stored.replace_members.Goals as goal

pub put_members-requires-clause-order : goal.put_members-requires-clause-order
put_members-requires-clause-order g c = subst (λ l. AreInOrder (names_of l)) (sym c.as_slice.ensures) c.law.ensures

pub discard_lacking-requires-clause-ready : goal.discard_lacking-requires-clause-ready
discard_lacking-requires-clause-ready g c = λ h.
    writing_ready c.args.owner.now c.as_slice.result.now _ _ (c.requires.ready (c.put_members.ensures.any_moment.honest h)) (since_now _ _ _ c.put_members.ensures.any_moment h)

pub returns-in_err-put_members-clause-any_moment : goal.returns-in_err-put_members-clause-any_moment
returns-in_err-put_members-clause-any_moment g c =
    let old = g.H.Host.state c.args.host.now in
    since_first c.args.owner.now c.args.new.now c.args.old.now _ _
    (subst (λ l. Since (λ so_far. AreWriting c.args.owner.now l old.world) old (g.H.Host.state c.put_members.new.host)) c.as_slice.ensures c.put_members.ensures.any_moment)

pub returns-clause-replaced : goal.returns-clause-replaced
returns-clause-replaced g c = λ h.
    let old = (g.H.Host.state c.args.host.now).world in
    let mid = (g.H.Host.state c.put_members.new.host).world in
    let written = subst (λ l. AreWritten c.args.owner.now l old mid) c.as_slice.ensures (c.in_ok-put_members.ensures.put (c.discard_lacking.ensures.silent.honest h)) in
    on_ok_weaker c.discard_lacking.result (replaced_both c.args.owner.now c.args.new.now c.args.old.now _ _ _ written) (c.discard_lacking.ensures.taken h)

pub returns-clause-any_moment : goal.returns-clause-any_moment
returns-clause-any_moment g c =
    let old = g.H.Host.state c.args.host.now in
    let mid = (g.H.Host.state c.put_members.new.host).world in
    since_both c.args.owner.now c.args.new.now c.args.old.now _ _ _
    (subst (λ l. Since (λ so_far. AreWriting c.args.owner.now l old.world) old (g.H.Host.state c.put_members.new.host)) c.as_slice.ensures c.put_members.ensures.any_moment)
    (λ h. subst (λ l. AreWritten c.args.owner.now l old.world mid) c.as_slice.ensures (c.in_ok-put_members.ensures.put h))
    c.discard_lacking.ensures.any_moment
