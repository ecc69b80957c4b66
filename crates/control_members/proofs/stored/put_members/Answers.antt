use Rattle.std.proofs.Common.{◌+◌, drop, take, sym, subst, rules}
use Rattle.host_core.proofs.Moments.{since_now}
use Rattle.administration.proofs.Within.{taken_more}
use Rattle.control_members.specs.Members.{AreInOrder, names_of}
use Rattle.control_members.specs.Written.{AreWritten}
use Rattle.control_members.proofs.Lookup.{cut_at, none_before}
use Rattle.control_members.proofs.Starting.{since_here}
use Rattle.control_members.proofs.Writing.{written_start, written_more, writing_start, writing_ready, since_writing}
use Rattle.control_members.proofs.stored.put_members.Goals as goal

pub loop-member-init : goal.loop-member-init
loop-member-init g c = record {
  silent = search rules;
  counts = search rules;
  written = λ h. written_start c.args.owner.now _;
  any_moment = since_here _ _ (λ h. writing_start c.args.owner.now c.args.members.now _ (c.requires.ready h));
}

pub put_member-requires-clause-ready : goal.put_member-requires-clause-ready
put_member-requires-clause-ready g c = λ h.
    writing_ready c.args.owner.now c.args.members.now _ _ (c.requires.ready (c.loop-member.invariant.silent.honest h)) (since_now _ _ _ c.loop-member.invariant.any_moment h)

pub returns-in_err-put_member-clause-any_moment : goal.returns-in_err-put_member-clause-any_moment
returns-in_err-put_member-clause-any_moment g c =
    let before = c.loop-member.invariant in
    let ms = c.args.members.now in
    let i = c.loop-member.member-index in
    since_writing c.args.owner.now ms (take i ms) (drop (i + 1) ms) c.member-item.result _ _ _ (cut_at ms i c.member-item.result c.loop-member-test.true c.member-item.is) c.requires.order c.requires.ready before.written before.any_moment c.put_member.ensures.any_moment

pub loop-member-preserved : goal.loop-member-preserved
loop-member-preserved g c =
    let before = c.loop-member.invariant in
    let ms = c.args.members.now in
    let i = c.loop-member.member-index in
    let m = c.member-item.result in
    let whole = cut_at ms i m c.loop-member-test.true c.member-item.is in
    record {
      silent = search rules;
      counts = search rules;
      written = λ h. subst (λ l. AreWritten c.args.owner.now l (g.H.Host.state c.args.host.now).world (g.H.Host.state c.put_member.new.host).world) (sym (taken_more ms i m c.loop-member-test.true c.member-item.is))
          (written_more c.args.owner.now (take i ms) m _ _ _ (none_before (take i ms) (drop (i + 1) ms) m (subst (λ l. AreInOrder (names_of l)) (sym whole) c.requires.order)) (before.written (c.put_member.ensures.silent.honest h)) (c.in_ok-put_member.ensures.put h));
      any_moment = since_writing c.args.owner.now ms (take i ms) (drop (i + 1) ms) m _ _ _ whole c.requires.order c.requires.ready before.written before.any_moment c.put_member.ensures.any_moment;
    }
