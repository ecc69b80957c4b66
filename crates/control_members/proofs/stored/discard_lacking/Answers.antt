use Rattle.std.proofs.Common.{◌≡◌, ◌+◌, Bool, List, Option, Some, None, is_some, Bor, take, sym, ap, rules, ◌∙◌}
use Rattle.std.specs.Option.{option_copied}
use Rattle.host_core.specs.Paths.{Path}
use Rattle.control_members.specs.Members.{node_of, member_node}
use Rattle.control_members.specs.declared.member.Member.{Member}
use Rattle.control_members.proofs.MemberNames.{member_among}
use Rattle.control_members.proofs.Starting.{since_here}
use Rattle.control_members.proofs.Taking.{leaving, leaving_same, leaving_more, leaving_all, leaves, taken_start, taken_same, taken_more, taking_start, since_ready, since_taking}
use Rattle.control_members.proofs.stored.discard_lacking.Goals as goal

abbrev kept : List Member → Path → Bool
kept new name = is_some (member_node new name)

told : (found : Option (Bor Member)) (b : Bool) → b ≡ is_some found → is_some (node_of (option_copied found)) ≡ b
told None b e = sym e
told (Some m) b e = sym e

pub loop-name-init : goal.loop-name-init
loop-name-init g c = record {
  silent = search rules;
  counts = search rules;
  taken = λ h. taken_start c.args.owner.now (kept c.args.new.now) _;
  any_moment = since_here _ _ (λ h. taking_start c.args.owner.now (leaving (kept c.args.new.now) c.args.old.now) _);
}

pub discard_member-requires-clause-member : goal.discard_member-requires-clause-member
discard_member-requires-clause-member g c = member_among c.args.old.now c.name-item.result c.requires.members (c.loop-name.name-index, c.loop-name-test.true, sym c.name-item.is)

pub discard_member-requires-clause-ready : goal.discard_member-requires-clause-ready
discard_member-requires-clause-ready g c = since_ready c.args.owner.now (leaving (kept c.args.new.now) c.args.old.now) _ _ c.requires.ready c.loop-name.invariant.any_moment

pub returns-in_err-discard_member-clause-any_moment : goal.returns-in_err-discard_member-clause-any_moment
returns-in_err-discard_member-clause-any_moment g c =
    let before = c.loop-name.invariant in
    let names = c.args.old.now in
    let i = c.loop-name.name-index in
    let d = c.name-item.result in
    let stays = kept c.args.new.now in
    since_taking c.args.owner.now (leaving stays (take i names)) (leaving stays names) d _ _ _
    (member_among names d c.requires.members (i, c.loop-name-test.true, sym c.name-item.is))
    (leaves stays names i d c.loop-name-test.true c.name-item.is (sym (ap (λ o. is_some (node_of o)) c.find.ensures) ∙ told c.find.result _ c.is_some.ensures ∙ c.if-is_some.false))
    (leaving_all stays names i) before.taken before.any_moment c.discard_member.ensures.any_moment

pub loop-name-preserved : goal.loop-name-preserved
loop-name-preserved g c =
    let before = c.loop-name.invariant in
    let names = c.args.old.now in
    let i = c.loop-name.name-index in
    let d = c.name-item.result in
    let stays = kept c.args.new.now in
    let member = member_among names d c.requires.members (i, c.loop-name-test.true, sym c.name-item.is) in
    let goes = sym (ap (λ o. is_some (node_of o)) c.find.ensures) ∙ told c.find.result _ c.is_some.ensures ∙ c.if-is_some.false in
    record {
      silent = search rules;
      counts = search rules;
      taken = λ h. taken_more c.args.owner.now (leaving stays (take i names)) (leaving stays (take (i + 1) names)) d _ _ _ member (leaving_more stays names i d c.loop-name-test.true c.name-item.is goes) (before.taken (c.discard_member.ensures.silent.honest h)) (c.in_ok-discard_member.ensures.dropped h);
      any_moment = since_taking c.args.owner.now (leaving stays (take i names)) (leaving stays names) d _ _ _ member
          (leaves stays names i d c.loop-name-test.true c.name-item.is goes) (leaving_all stays names i) before.taken before.any_moment c.discard_member.ensures.any_moment;
    }

pub loop-name-preserved-then-is_some : goal.loop-name-preserved-then-is_some
loop-name-preserved-then-is_some g c =
    let before = c.loop-name.invariant in
    let names = c.args.old.now in
    let i = c.loop-name.name-index in
    let stays = kept c.args.new.now in
    record {
      silent = before.silent;
      counts = before.counts;
      taken = λ h. taken_same c.args.owner.now (leaving stays (take i names)) (leaving stays (take (i + 1) names)) _ _ (leaving_same stays names i c.name-item.result c.loop-name-test.true c.name-item.is (sym (ap (λ o. is_some (node_of o)) c.find.ensures) ∙ told c.find.result _ c.is_some.ensures ∙ c.if-is_some.true)) (before.taken h);
      any_moment = before.any_moment;
    }
