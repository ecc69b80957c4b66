use Rattle.std.proofs.Common.{◌&&◌, ◌+◌, Bool, take, sym, rules, ◌∙◌}
use Rattle.std.specs.Str.{bytes_eq}
use Rattle.host_core.specs.Paths.{Path}
use Rattle.host_core.specs.Outcome.{script_name}
use Rattle.host_core.specs.declared.call.Script.TheVariants.{Postrm}
use Rattle.control_members.proofs.MemberNames.{member_among}
use Rattle.control_members.proofs.Starting.{since_here}
use Rattle.control_members.proofs.Taking.{leaving, leaving_same, leaving_more, leaving_all, leaves, taken_start, taken_same, taken_more, taking_start, since_ready, since_taking}
use Rattle.control_members.proofs.stored.discard_members.Goals as goal

abbrev kept : Bool → Path → Bool
kept keep name = keep && bytes_eq name (script_name Postrm)

pub loop-name-init : goal.loop-name-init
loop-name-init g c = record {
  silent = search rules;
  counts = search rules;
  taken = λ h. taken_start c.args.owner.now (kept c.args.keep_postrm) _;
  any_moment = since_here _ _ (λ h. taking_start c.args.owner.now (leaving (kept c.args.keep_postrm) c.args.names.now) _);
}

pub discard_member-requires-clause-member : goal.discard_member-requires-clause-member
discard_member-requires-clause-member g c = member_among c.args.names.now c.name-item.result c.requires.members (c.loop-name.name-index, c.loop-name-test.true, sym c.name-item.is)

pub discard_member-requires-clause-ready : goal.discard_member-requires-clause-ready
discard_member-requires-clause-ready g c = since_ready c.args.owner.now (leaving (kept c.args.keep_postrm) c.args.names.now) _ _ c.requires.ready c.loop-name.invariant.any_moment

pub returns-in_err-discard_member-clause-any_moment : goal.returns-in_err-discard_member-clause-any_moment
returns-in_err-discard_member-clause-any_moment g c =
    let before = c.loop-name.invariant in
    let names = c.args.names.now in
    let i = c.loop-name.name-index in
    let d = c.name-item.result in
    let stays = kept c.args.keep_postrm in
    since_taking c.args.owner.now (leaving stays (take i names)) (leaving stays names) d _ _ _
    (member_among names d c.requires.members (i, c.loop-name-test.true, sym c.name-item.is))
    (leaves stays names i d c.loop-name-test.true c.name-item.is (sym c.stays.ensures ∙ c.if-stays.false))
    (leaving_all stays names i) before.taken before.any_moment c.discard_member.ensures.any_moment

pub loop-name-preserved : goal.loop-name-preserved
loop-name-preserved g c =
    let before = c.loop-name.invariant in
    let names = c.args.names.now in
    let i = c.loop-name.name-index in
    let d = c.name-item.result in
    let stays = kept c.args.keep_postrm in
    let member = member_among names d c.requires.members (i, c.loop-name-test.true, sym c.name-item.is) in
    let goes = sym c.stays.ensures ∙ c.if-stays.false in
    record {
      silent = search rules;
      counts = search rules;
      taken = λ h. taken_more c.args.owner.now (leaving stays (take i names)) (leaving stays (take (i + 1) names)) d _ _ _ member (leaving_more stays names i d c.loop-name-test.true c.name-item.is goes) (before.taken (c.discard_member.ensures.silent.honest h)) (c.in_ok-discard_member.ensures.dropped h);
      any_moment = since_taking c.args.owner.now (leaving stays (take i names)) (leaving stays names) d _ _ _ member
          (leaves stays names i d c.loop-name-test.true c.name-item.is goes) (leaving_all stays names i) before.taken before.any_moment c.discard_member.ensures.any_moment;
    }

pub loop-name-preserved-then-stays : goal.loop-name-preserved-then-stays
loop-name-preserved-then-stays g c =
    let before = c.loop-name.invariant in
    let names = c.args.names.now in
    let i = c.loop-name.name-index in
    let stays = kept c.args.keep_postrm in
    record {
      silent = before.silent;
      counts = before.counts;
      taken = λ h. taken_same c.args.owner.now (leaving stays (take i names)) (leaving stays (take (i + 1) names)) _ _ (leaving_same stays names i c.name-item.result c.loop-name-test.true c.name-item.is (sym c.stays.ensures ∙ c.if-stays.true)) (before.taken h);
      any_moment = before.any_moment;
    }
