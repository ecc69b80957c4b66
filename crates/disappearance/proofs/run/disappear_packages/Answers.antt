use Rattle.std.proofs.Common.{◌≤◌, ◌+◌, ℕ, List, [], Option, None, length, take, refl, sym, subst, arith}
use Rattle.std.proofs.lemmas.List.{take_all}
use Rattle.host_core.specs.declared.call.Call.{Call}
use Rattle.unit_stages.specs.Holding.{holding, holding_of}
use Rattle.disappearance.specs.Runs.{HaveDisappeared}
use Rattle.disappearance.specs.declared.losing.Losing.{Losing}
use Rattle.disappearance.proofs.Sequence.{amid_more, amid_start, decided_more, none_yet, run_left_records, told_all, told_more}
use Rattle.disappearance.proofs.run.disappear_packages.Goals as goal
use Rattle.host_core.proofs.Counted.{no_fault_same, no_fault_then}

pub loop-one-init : goal.loop-one-init
loop-one-init g c =
    let old = g.H.Host.state c.args.host.now in
    let d = c.args.administration.now.database in
    let f = c.args.administration.now.lists in
    let told = c.args.told.now.items in
    record {
      disappeared = subst (λ (ns : List (List ℕ)). HaveDisappeared c.args.incoming.now c.args.version.now c.args.diversions.now.ways [] ns None (holding d f) (holding d f) old old told told) (sym c.new-names.ensures)
          (none_yet c.args.incoming.now c.args.version.now c.args.diversions.now.ways (holding d f) old told);
      order = c.requires.order;
      is_open = c.requires.open;
      indexed = c.requires.indexed;
      moments = amid_start c.args.incoming.now c.args.version.now c.args.diversions.now.ways c.args.losing.now d f.lists (holding d f) old told c.requires.order;
      counts = no_fault_same old old refl;
    }

pub loop-one-preserved : goal.loop-one-preserved
loop-one-preserved g c =
    let l = c.loop-one in
    let inv = l.invariant in
    let incoming = c.args.incoming.now in
    let version = c.args.version.now in
    let ways = c.args.diversions.now.ways in
    let losing = c.args.losing.now in
    let i = l.one-index in
    let x = c.one-item.result in
    let before = holding_of c.args.administration.now in
    let mid = holding_of l.administration in
    let after = holding_of c.disappear.new.administration in
    let old = g.H.Host.state c.args.host.now in
    let now = g.H.Host.state l.host in
    let new = g.H.Host.state c.disappear.new.host in
    let told = c.args.told.now.items in
    let decided = c.in-Ok.ensures.decided in
    record {
      disappeared = subst (λ (failed : Option Call). HaveDisappeared incoming version ways (take (i + 1) losing) c.disappear.new.names failed before after old new told c.disappear.new.told.items) (sym c.first_failed-failed.ensures)
          (decided_more incoming version ways losing i x c.loop-one-test.true c.one-item.is l.names l.failed before mid old now told l.told.items inv.disappeared decided.0 c.disappear.new.names c.in-Ok.own after new c.disappear.new.told.items
          decided.1 decided.2);
      order = c.in-Ok.ensures.order;
      is_open = c.in-Ok.ensures.open;
      indexed = c.in-Ok.ensures.indexed;
      moments = amid_more incoming version ways losing i x c.loop-one-test.true c.one-item.is l.names l.failed before mid old now told l.told.items inv.disappeared new inv.moments c.disappear.ensures.any_moment;
      counts = no_fault_then _ _ _ inv.counts c.in-Ok.ensures.counts;
    }

pub returns-in-Err-clause-told : goal.returns-in-Err-clause-told
returns-in-Err-clause-told g c =
    let l = c.loop-one in
    told_more c.args.incoming.now c.args.version.now c.args.diversions.now.ways c.args.losing.now l.one-index c.one-item.result c.loop-one-test.true c.one-item.is l.names l.failed (holding_of c.args.administration.now) (holding_of l.administration)
    (g.H.Host.state c.args.host.now) (g.H.Host.state l.host) c.args.told.now.items l.told.items l.invariant.disappeared (g.H.Host.state c.disappear.new.host) c.disappear.new.told.items c.disappear.ensures.told

pub returns-in-Err-clause-any_moment : goal.returns-in-Err-clause-any_moment
returns-in-Err-clause-any_moment g c =
    let l = c.loop-one in
    amid_more c.args.incoming.now c.args.version.now c.args.diversions.now.ways c.args.losing.now l.one-index c.one-item.result c.loop-one-test.true c.one-item.is l.names l.failed (holding_of c.args.administration.now) (holding_of l.administration)
    (g.H.Host.state c.args.host.now) (g.H.Host.state l.host) c.args.told.now.items l.told.items l.invariant.disappeared (g.H.Host.state c.disappear.new.host) l.invariant.moments c.disappear.ensures.any_moment

pub returns-clause-disappeared : goal.returns-clause-disappeared
returns-clause-disappeared g c =
    let l = c.loop-one in
    let end : length c.args.losing.now ≤ l.one-index = omega (arith, c.loop-one-test.false) in
    subst (λ (ls : List Losing). HaveDisappeared c.args.incoming.now c.args.version.now c.args.diversions.now.ways ls l.names l.failed (holding_of c.args.administration.now) (holding_of l.administration) (g.H.Host.state c.args.host.now) (g.H.Host.state l.host) c.args.told.now.items l.told.items)
    (take_all l.one-index c.args.losing.now end) l.invariant.disappeared

pub returns-clause-left : goal.returns-clause-left
returns-clause-left g c =
    let l = c.loop-one in
    (run_left_records c.args.incoming.now c.args.version.now c.args.diversions.now.ways (take l.one-index c.args.losing.now) l.names l.failed (holding_of c.args.administration.now) (holding_of l.administration) (g.H.Host.state c.args.host.now) (g.H.Host.state l.host) c.args.told.now.items l.told.items l.invariant.disappeared).0

pub returns-clause-others : goal.returns-clause-others
returns-clause-others g c = λ q away.
    let l = c.loop-one in
    let end : length c.args.losing.now ≤ l.one-index = omega (arith, c.loop-one-test.false) in
    let run = subst (λ (ls : List Losing). HaveDisappeared c.args.incoming.now c.args.version.now c.args.diversions.now.ways ls l.names l.failed (holding_of c.args.administration.now) (holding_of l.administration) (g.H.Host.state c.args.host.now) (g.H.Host.state l.host) c.args.told.now.items l.told.items)
    (take_all l.one-index c.args.losing.now end) l.invariant.disappeared in
    let left = run_left_records c.args.incoming.now c.args.version.now c.args.diversions.now.ways c.args.losing.now l.names l.failed (holding_of c.args.administration.now) (holding_of l.administration) (g.H.Host.state c.args.host.now) (g.H.Host.state l.host) c.args.told.now.items l.told.items run in
    left.0.others q (λ has. away (left.2 q has))

pub returns-clause-told : goal.returns-clause-told
returns-clause-told g c =
    let l = c.loop-one in
    let end : length c.args.losing.now ≤ l.one-index = omega (arith, c.loop-one-test.false) in
    told_all c.args.incoming.now c.args.version.now c.args.diversions.now.ways c.args.losing.now l.names l.failed (holding_of c.args.administration.now) (holding_of l.administration) (g.H.Host.state c.args.host.now) (g.H.Host.state l.host) c.args.told.now.items l.told.items
    (subst (λ (ls : List Losing). HaveDisappeared c.args.incoming.now c.args.version.now c.args.diversions.now.ways ls l.names l.failed (holding_of c.args.administration.now) (holding_of l.administration) (g.H.Host.state c.args.host.now) (g.H.Host.state l.host) c.args.told.now.items l.told.items)
    (take_all l.one-index c.args.losing.now end) l.invariant.disappeared)
