use Rattle.std.proofs.Common.{◌≤◌, ◌+◌, ◌++◌, ◌∷◌, [], ℕ, List, Option, Contains, length, take, drop, take_all, refl, sym, subst, arith}
use Rattle.host_core.specs.declared.call.Call.{Call}
use Rattle.unit_stages.specs.Holding.{holding, holding_of}
use Rattle.conflict_removal.specs.Removals.{HaveBeenRemoved, HaveCalled}
use Rattle.conflict_removal.proofs.Chain.{names_more, names_split, others_more, removed_more}
use Rattle.conflict_removal.proofs.Moments.{called_all, called_next, since_removal, since_removals_start}
use Rattle.conflict_removal.proofs.removing.remove_in_favour.Goals as goal
use Rattle.host_core.proofs.Counted.{no_fault_same, no_fault_then}

pub loop-name-init : goal.loop-name-init
loop-name-init g c =
    let old = g.H.Host.state c.args.host.now in
    let d = c.args.administration.now.database in
    let f = c.args.administration.now.lists in
    record {
      removed = (refl, refl {a = holding d f}, refl {a = old}, refl {a = c.args.told.now.items});
      others = λ q away. refl;
      order = c.requires.order;
      is_open = c.requires.open;
      moments = since_removals_start c.args.diversions.now.ways c.args.names.now d f old c.requires.order;
      counts = no_fault_same old old refl;
    }

pub loop-name-preserved : goal.loop-name-preserved
loop-name-preserved g c =
    let l = c.loop-name in
    let inv = l.invariant in
    let names = c.args.names.now in
    let i = l.name-index in
    let name = c.name-item.result in
    let ways = c.args.diversions.now.ways in
    let before = holding_of c.args.administration.now in
    let mid = holding_of l.administration in
    let after = holding_of c.remove_one.new.administration in
    let old = g.H.Host.state c.args.host.now in
    let now = g.H.Host.state l.host in
    let new = g.H.Host.state c.remove_one.new.host in
    let told = c.args.told.now.items in
    let more = c.remove_one.new.told.items in
    record {
      removed = subst (λ (ns : List (List ℕ)). HaveBeenRemoved ways ns c.first_failed-failed.result before after old new told more) (sym (names_more names i name name c.loop-name-test.true c.name-item.is))
          (subst (λ (failed : Option Call). HaveBeenRemoved ways (take i names ++ name ∷ []) failed before after old new told more) (sym c.first_failed-failed.ensures)
          (removed_more ways name c.in-Ok.own after new more (take i names) l.failed before mid old now told l.told.items inv.removed c.in-Ok.ensures.removed));
      others = others_more names i name name c.loop-name-test.true c.name-item.is c.args.administration.now.database.records l.administration.database.records c.remove_one.new.administration.database.records inv.others c.in-Ok.ensures.others;
      order = c.in-Ok.ensures.order;
      is_open = c.in-Ok.ensures.open;
      moments = since_removal ways names (take i names) (drop (i + 1) names) name (names_split names i name name c.loop-name-test.true c.name-item.is) l.failed before l.administration.database l.administration.lists old now new told l.told.items inv.removed
          inv.order inv.moments c.remove_one.ensures.any_moment;
      counts = no_fault_then _ _ _ inv.counts c.in-Ok.ensures.counts;
    }

pub returns-in-Err-clause-told : goal.returns-in-Err-clause-told
returns-in-Err-clause-told g c =
    let l = c.loop-name in
    let names = c.args.names.now in
    let i = l.name-index in
    let name = c.name-item.result in
    called_next c.args.diversions.now.ways names (take i names) (drop (i + 1) names) name (names_split names i name name c.loop-name-test.true c.name-item.is) l.failed (holding_of c.args.administration.now) l.administration.database l.administration.lists
    (g.H.Host.state c.args.host.now) (g.H.Host.state l.host) (g.H.Host.state c.remove_one.new.host) c.args.told.now.items l.told.items l.invariant.removed c.remove_one.new.told.items c.remove_one.ensures.told

pub returns-in-Err-clause-any_moment : goal.returns-in-Err-clause-any_moment
returns-in-Err-clause-any_moment g c =
    let l = c.loop-name in
    let names = c.args.names.now in
    let i = l.name-index in
    let name = c.name-item.result in
    since_removal c.args.diversions.now.ways names (take i names) (drop (i + 1) names) name (names_split names i name name c.loop-name-test.true c.name-item.is) l.failed (holding_of c.args.administration.now) l.administration.database l.administration.lists
    (g.H.Host.state c.args.host.now) (g.H.Host.state l.host) (g.H.Host.state c.remove_one.new.host) c.args.told.now.items l.told.items l.invariant.removed l.invariant.order l.invariant.moments c.remove_one.ensures.any_moment

pub returns-clause-removed : goal.returns-clause-removed
returns-clause-removed g c =
    let l = c.loop-name in
    let end : length c.args.names.now ≤ l.name-index = omega (arith, c.loop-name-test.false) in
    subst (λ (ns : List (List ℕ)). HaveBeenRemoved c.args.diversions.now.ways ns l.failed (holding_of c.args.administration.now) (holding_of l.administration) (g.H.Host.state c.args.host.now) (g.H.Host.state l.host) c.args.told.now.items l.told.items)
    (take_all l.name-index c.args.names.now end) l.invariant.removed

pub returns-clause-others : goal.returns-clause-others
returns-clause-others g c = λ q away.
    let l = c.loop-name in
    let end : length c.args.names.now ≤ l.name-index = omega (arith, c.loop-name-test.false) in
    l.invariant.others q (subst (λ (ns : List (List ℕ)). Contains ns q → ⊥) (sym (take_all l.name-index c.args.names.now end)) away)

pub returns-clause-told : goal.returns-clause-told
returns-clause-told g c =
    let l = c.loop-name in
    let end : length c.args.names.now ≤ l.name-index = omega (arith, c.loop-name-test.false) in
    let before = holding_of c.args.administration.now in
    let old = g.H.Host.state c.args.host.now in
    let now = g.H.Host.state l.host in
    subst (λ (ns : List (List ℕ)). HaveCalled c.args.diversions.now.ways ns before old now c.args.told.now.items l.told.items) (take_all l.name-index c.args.names.now end)
    (called_all c.args.diversions.now.ways (take l.name-index c.args.names.now) l.failed before (holding_of l.administration) old now c.args.told.now.items l.told.items l.invariant.removed)

pub returns-clause-any_moment : goal.returns-clause-any_moment
returns-clause-any_moment g c = c.loop-name.invariant.moments
