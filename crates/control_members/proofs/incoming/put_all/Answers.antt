use Rattle.std.proofs.Common.{◌+◌, drop, take, sym, subst, rules}
use Rattle.administration.proofs.Within.{taken_more}
use Rattle.control_members.specs.Members.{AreInOrder, names_of}
use Rattle.control_members.specs.LaidOut.{AreLaidOut}
use Rattle.control_members.proofs.Lookup.{cut_at, none_before}
use Rattle.control_members.proofs.LaidOut.{laid_start, laid_more, laid_incoming, incoming_bare, laying_same, since_laying}
use Rattle.control_members.proofs.incoming.put_all.Goals as goal

pub loop-member-init : goal.loop-member-init
loop-member-init g c = record {
  silent = search rules;
  counts = search rules;
  laid = λ h. laid_start _ (c.requires.there h) (c.requires.bare h);
  any_moment = laying_same _ (λ h. incoming_bare _ (λ loose. loose.1 (c.requires.there h)) (c.requires.bare h));
}

pub put_incoming-requires-clause-there : goal.put_incoming-requires-clause-there
put_incoming-requires-clause-there g c = λ h. (c.loop-member.invariant.laid h).there

pub put_incoming-requires-clause-incoming : goal.put_incoming-requires-clause-incoming
put_incoming-requires-clause-incoming g c = λ h. laid_incoming _ _ (c.loop-member.invariant.laid h)

pub returns-in_err-put_incoming-clause-any_moment : goal.returns-in_err-put_incoming-clause-any_moment
returns-in_err-put_incoming-clause-any_moment g c = since_laying _ _ _ c.loop-member.invariant.any_moment c.put_incoming.ensures.any_moment

pub loop-member-preserved : goal.loop-member-preserved
loop-member-preserved g c =
    let before = c.loop-member.invariant in
    let ms = c.args.members.now in
    let i = c.loop-member.member-index in
    let m = c.member-item.result in
    let whole = cut_at ms i m c.loop-member-test.true c.member-item.is in
    record {
      silent = search rules;
      counts = search rules;
      laid = λ h. subst (λ l. AreLaidOut l (g.H.Host.state c.put_incoming.new.host).world) (sym (taken_more ms i m c.loop-member-test.true c.member-item.is))
          (laid_more (take i ms) m _ _ (none_before (take i ms) (drop (i + 1) ms) m (subst (λ l. AreInOrder (names_of l)) (sym whole) c.requires.order)) (before.laid (c.put_incoming.ensures.silent.honest h)) (c.in_ok-put_incoming.ensures.put h));
      any_moment = since_laying _ _ _ before.any_moment c.put_incoming.ensures.any_moment;
    }
