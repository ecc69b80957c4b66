use Rattle.std.proofs.Common.{subst, sym, refl, ◌∙◌}
use Rattle.install_order.specs.Clauses.{AreNeeds}
use Rattle.install_order.specs.declared.stage.Stage.TheVariants.{Unpack, Configure}
use Rattle.install_order.proofs.RoundLaws.{rounds_within}
use Rattle.install_order.proofs.TakingLaws.{at_first, at_more, at_end, fewer_left}
use Rattle.install_order.proofs.rounds.rounds_of.Goals as goal

pub loop-alloc-init : goal.loop-alloc-init
loop-alloc-init c = at_first c.args.recorded.now c.args.trees.now _ c.in_ok-taking.taking.rounds.items c.in_ok-taking.taking.earlier.items c.in_ok-taking.taking.left.items refl c.in_ok-taking.ensures.rounds c.in_ok-taking.ensures.earlier c.in_ok-taking.ensures.left

pub loop-alloc-preserved : goal.loop-alloc-preserved
loop-alloc-preserved c =
    let t = c.loop-alloc.taking in
    let u = c.take.new.self in
    at_more c.args.recorded.now c.args.trees.now c.as_slice-in-loop-alloc.result.now c.as_slice-in-loop-alloc-2.result.now t.rounds.items u.rounds.items t.earlier.items t.left.items u.earlier.items u.left.items
    (subst (AreNeeds Unpack c.args.recorded.now c.args.trees.now) (sym c.as_slice-in-loop-alloc.ensures.value) c.in_ok-before.ensures)
    (subst (AreNeeds Configure c.args.recorded.now c.args.trees.now) (sym c.as_slice-in-loop-alloc-2.ensures.value) c.in_ok-beside.ensures)
    c.in_ok-take.ensures c.loop-alloc.invariant

pub loop-alloc-smaller : goal.loop-alloc-smaller
loop-alloc-smaller c =
    let t = c.loop-alloc.taking in
    let u = c.take.new.self in
    fewer_left c.as_slice-in-loop-alloc.result.now c.as_slice-in-loop-alloc-2.result.now t.rounds.items u.rounds.items t.earlier.items t.left.items u.earlier.items u.left.items c.in_ok-take.ensures

pub returns-clause-rounds : goal.returns-clause-rounds
returns-clause-rounds c =
    let t = c.loop-alloc.taking in
    at_end c.args.recorded.now c.args.trees.now t.rounds.items t.earlier.items t.left.items c.as_slice.result.now c.as_slice.ensures.value (sym c.has_one.ensures ∙ c.loop-alloc-test.false) c.loop-alloc.invariant

pub returns-clause-within : goal.returns-clause-within
returns-clause-within c =
    let t = c.loop-alloc.taking in
    rounds_within c.args.recorded.now c.args.trees.now t.rounds.items
    (at_end c.args.recorded.now c.args.trees.now t.rounds.items t.earlier.items t.left.items c.as_slice.result.now c.as_slice.ensures.value (sym c.has_one.ensures ∙ c.loop-alloc-test.false) c.loop-alloc.invariant)
