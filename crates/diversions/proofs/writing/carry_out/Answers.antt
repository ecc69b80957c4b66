use Rattle.std.proofs.Common.{inl, inr, sym, subst}
use Rattle.host_core.proofs.Moments.{since_now, since_then, since_weaker, since_weaker_if}
use Rattle.host_core.specs.World.{World}
use Rattle.administration.specs.Places.{home_path}
use Rattle.scattered_losses.proofs.TakingTurns.{turns_by_moments, turns_then}
use Rattle.diversions.specs.Changes.{CanMove, IsCarrying, IsSame, moved_if}
use Rattle.diversions.proofs.Moving.{carrying_moved, on_ok, ready_moved, ready_same, replaced_same, replacing_same}
use Rattle.diversions.proofs.Turning.{always, begins_then, later_by, later_then, none_within, quiet_rests, start, table_alone, turns_still}
use Rattle.diversions.proofs.writing.carry_out.Goals as goal

pub returns-in_err-bring-clause-any_moment : goal.returns-in_err-bring-clause-any_moment
returns-in_err-bring-clause-any_moment g c = since_weaker _ _ _ _ (λ so_far w is. inl is) c.bring.ensures.any_moment

pub returns-in_err-bring-clause-turns : goal.returns-in_err-bring-clause-turns
returns-in_err-bring-clause-turns g c = λ none area h. (turns_still area _ _ h c.bring.ensures.any_moment).0

pub move_node-requires : goal.move_node-requires
move_node-requires g c = record {
  can = λ h moves. subst (CanMove c.args.way.brings c.args.route.now.from c.args.route.now.to) (sym (since_now _ _ _ c.bring.ensures.any_moment h)) (c.requires.can (c.bring.ensures.silent.honest h) moves);
}

pub returns-in_err-move_node-clause-any_moment : goal.returns-in_err-move_node-clause-any_moment
returns-in_err-move_node-clause-any_moment g c =
    let way = c.args.way in
    let from = c.args.route.now.from in
    let to = c.args.route.now.to in
    let a = g.H.Host.state c.args.host.now in
    let b = g.H.Host.state c.bring.new.host in
    since_then (λ so_far. IsCarrying c.args.node.now way.moves from to a.world) _ _ _ (since_weaker _ _ _ _ (λ so_far w is. inl is) c.bring.ensures.any_moment)
    (since_weaker_if _ _ _ _ (λ h so_far w is.
    let hb = c.move_node.ensures.silent.honest h in
    let ha = c.bring.ensures.silent.honest hb in
    carrying_moved c.args.node.now way.moves from to a.world b.world w (since_now _ _ _ c.bring.ensures.any_moment hb)
    (ready_moved way.moves way.brings from to a.world c.law.ensures c.law-2.ensures (c.requires.ready ha) (c.requires.can ha)) is)
    c.move_node.ensures.any_moment)

pub returns-in_err-move_node-clause-turns : goal.returns-in_err-move_node-clause-turns
returns-in_err-move_node-clause-turns g c = λ none area h.
    let a = g.H.Host.state c.args.host.now in
    let b = g.H.Host.state c.bring.new.host in
    let d = g.H.Host.state c.move_node.new.host in
    let still = turns_still area a b (c.move_node.ensures.silent.honest h) c.bring.ensures.any_moment in
    let first = later_by _ a b c.bring.ensures.any_moment in
    let second = later_by _ b d c.move_node.ensures.any_moment in
    turns_then area a b d first second still.0 still.1 (c.move_node.ensures.turns (none_within a b d d first second (start d) none) area h)

pub save-requires-clause-ready : goal.save-requires-clause-ready
save-requires-clause-ready g c = λ h.
    let way = c.args.way in
    let from = c.args.route.now.from in
    let to = c.args.route.now.to in
    let hb = c.move_node.ensures.silent.honest h in
    let ha = c.bring.ensures.silent.honest hb in
    let a = g.H.Host.state c.args.host.now in
    let mid = g.H.Host.state c.move_node.new.host in
    ready_same (moved_if way.moves from to a.world) mid.world (subst (λ (v : World). IsSame (moved_if way.moves from to v) mid.world) (since_now _ _ _ c.bring.ensures.any_moment hb) (c.in_ok-move_node.ensures.moved h))
    (ready_moved way.moves way.brings from to a.world c.law.ensures c.law-2.ensures (c.requires.ready ha) (c.requires.can ha))

pub returns-clause-done : goal.returns-clause-done
returns-clause-done g c = λ h.
    let way = c.args.way in
    let from = c.args.route.now.from in
    let to = c.args.route.now.to in
    let hc = c.save.ensures.silent.honest h in
    let hb = c.move_node.ensures.silent.honest hc in
    let a = g.H.Host.state c.args.host.now in
    let mid = g.H.Host.state c.move_node.new.host in
    on_ok c.save.result
    (λ is. replaced_same c.args.node.now (moved_if way.moves from to a.world) mid.world _
    (subst (λ (v : World). IsSame (moved_if way.moves from to v) mid.world) (since_now _ _ _ c.bring.ensures.any_moment hb) (c.in_ok-move_node.ensures.moved hc)) is)
    (c.save.ensures.saved h)

pub returns-clause-any_moment : goal.returns-clause-any_moment
returns-clause-any_moment g c =
    let way = c.args.way in
    let from = c.args.route.now.from in
    let to = c.args.route.now.to in
    let a = g.H.Host.state c.args.host.now in
    let b = g.H.Host.state c.bring.new.host in
    let mid = g.H.Host.state c.move_node.new.host in
    since_then (λ so_far. IsCarrying c.args.node.now way.moves from to a.world) _ _ _
    (since_then (λ so_far. IsCarrying c.args.node.now way.moves from to a.world) _ _ _ (since_weaker _ _ _ _ (λ so_far w is. inl is) c.bring.ensures.any_moment)
    (since_weaker_if _ _ _ _ (λ h so_far w is.
    let hb = c.move_node.ensures.silent.honest h in
    let ha = c.bring.ensures.silent.honest hb in
    carrying_moved c.args.node.now way.moves from to a.world b.world w (since_now _ _ _ c.bring.ensures.any_moment hb)
    (ready_moved way.moves way.brings from to a.world c.law.ensures c.law-2.ensures (c.requires.ready ha) (c.requires.can ha)) is)
    c.move_node.ensures.any_moment))
    (since_weaker_if _ _ _ _ (λ h so_far w is.
    let hc = c.save.ensures.silent.honest h in
    let hb = c.move_node.ensures.silent.honest hc in
    inr (inr (replacing_same c.args.node.now (moved_if way.moves from to a.world) mid.world w
    (subst (λ (v : World). IsSame (moved_if way.moves from to v) mid.world) (since_now _ _ _ c.bring.ensures.any_moment hb) (c.in_ok-move_node.ensures.moved hc)) is)))
    c.save.ensures.any_moment)

pub returns-clause-brought : goal.returns-clause-brought
returns-clause-brought g c = λ is.
    let a = g.H.Host.state c.args.host.now in
    let b = g.H.Host.state c.bring.new.host in
    let mid = g.H.Host.state c.move_node.new.host in
    let d = g.H.Host.state c.save.new.host in
    always c.save.result (begins_then a b d (c.in_ok-bring.ensures.brought is) (later_then b mid d (later_by _ b mid c.move_node.ensures.any_moment) (later_by _ mid d c.save.ensures.any_moment)))

pub returns-clause-turns : goal.returns-clause-turns
returns-clause-turns g c = λ none area h.
    let a = g.H.Host.state c.args.host.now in
    let b = g.H.Host.state c.bring.new.host in
    let mid = g.H.Host.state c.move_node.new.host in
    let d = g.H.Host.state c.save.new.host in
    let hc = c.save.ensures.silent.honest h in
    let still = turns_still area a b (c.move_node.ensures.silent.honest hc) c.bring.ensures.any_moment in
    let first = later_by _ a b c.bring.ensures.any_moment in
    let second = later_by _ b mid c.move_node.ensures.any_moment in
    let third = later_by _ mid d c.save.ensures.any_moment in
    turns_then area a mid d (later_then a b mid first second) third
    (turns_then area a b mid first second still.0 still.1 (c.move_node.ensures.turns (none_within a b mid d first second third none) area hc))
    (quiet_rests area a b mid still.1 c.in_ok-move_node.ensures.rests)
    (turns_by_moments area home_path mid d h (since_weaker _ _ _ _ (λ so_far w is. table_alone area c.args.node.now mid.world w is) c.save.ensures.any_moment))
