use Rattle.std.proofs.Common.{◌≡◌, None, ap, sym, subst, ◌∙◌}
use Rattle.host_core.specs.Paths.{Path}
use Rattle.host_core.specs.World.{World, HasParent, IsLoose, put}
use Rattle.host_core.specs.Unsynced.{is_temporary}
use Rattle.host_core.proofs.Moments.{since_weaker, since_weaker_if}
use Rattle.host_core.proofs.ShipNames.{ships, plain_proper}
use Rattle.host_core.proofs.WorldLaws.{put_other}
use Rattle.scattered_losses.specs.Scattered.{parent_of}
use Rattle.scattered_losses.proofs.TakingTurns.{turns_by_moments}
use Rattle.diversions.proofs.Moving.{moved_none, on_ok}
use Rattle.diversions.proofs.Turning.{can_twice, can_free, goes_here, moving_is, moving_taken, moved_taken, moved_there, put_alone}
use Rattle.diversions.proofs.moves.move_node.Goals as goal

-- nothing is moved

pub returns-then-not-moves-clause-moved : goal.returns-then-not-moves-clause-moved
returns-then-not-moves-clause-moved g c = λ h q. ap (λ (w : World). w q) (moved_none c.args.moves c.args.from.now c.args.to.now _ c.if-not-moves.true)

pub returns-then-not-moves-clause-turns : goal.returns-then-not-moves-clause-turns
returns-then-not-moves-clause-turns g c = goes_here _

pub returns-in_err-there-clause-turns : goal.returns-in_err-there-clause-turns
returns-in_err-there-clause-turns g c = goes_here _

pub returns-in_err-free-clause-turns : goal.returns-in_err-free-clause-turns
returns-in_err-free-clause-turns g c = goes_here _

-- the node is at its target too

pub take_name-requires : goal.take_name-requires
take_name-requires g c = record { there = λ h. subst (λ (p : Path). IsLoose ((g.H.Host.state c.args.host.now).world p)) (sym c.in_ok-there.ensures) (c.requires.can h c.if-not-moves.false).there }

pub returns-then-twice-clause-moved : goal.returns-then-twice-clause-moved
returns-then-twice-clause-moved g c = λ h.
    let can = c.requires.can (c.take_name.ensures.silent.honest h) c.if-not-moves.false in
    on_ok c.take_name.result (λ is. moved_taken c.args.moves c.args.from.now c.args.to.now _ _ _ c.if-not-moves.false c.in_ok-there.ensures can.other (can_twice c.args.twice _ _ _ c.if-twice.true can) is) (c.take_name.ensures.taken h)

pub returns-then-twice-clause-any_moment : goal.returns-then-twice-clause-any_moment
returns-then-twice-clause-any_moment g c = since_weaker_if _ _ _ _ (λ h so_far w is.
    let can = c.requires.can (c.take_name.ensures.silent.honest h) c.if-not-moves.false in
    moving_taken c.args.moves c.args.from.now c.args.to.now _ _ w c.if-not-moves.false c.in_ok-there.ensures can.other (can_twice c.args.twice _ _ _ c.if-twice.true can) is) c.take_name.ensures.any_moment

pub returns-then-twice-clause-turns : goal.returns-then-twice-clause-turns
returns-then-twice-clause-turns g c = λ none area h.
    let old = g.H.Host.state c.args.host.now in
    let p = c.in_ok-there.there in
    turns_by_moments area (parent_of p) old _ h (since_weaker _ _ _ _ (λ so_far w is. put_alone area p (λ v. put v p None) old.world w (λ q away. put_other old.world p q None away) is) c.take_name.ensures.any_moment)

-- nothing is at its target

pub move_free-requires-clause-other : goal.move_free-requires-clause-other
move_free-requires-clause-other g c = λ h e. (c.requires.can h c.if-not-moves.false).other (sym c.in_ok-there.ensures ∙ e ∙ c.in_ok-free.ensures)

pub move_free-requires-clause-there : goal.move_free-requires-clause-there
move_free-requires-clause-there g c = λ h. subst (λ (p : Path). IsLoose ((g.H.Host.state c.args.host.now).world p)) (sym c.in_ok-there.ensures) (c.requires.can h c.if-not-moves.false).there

pub move_free-requires-clause-proper : goal.move_free-requires-clause-proper
move_free-requires-clause-proper g c = ap is_temporary c.in_ok-there.ensures ∙ plain_proper c.args.from.now (ships c.args.from.now c.law.ensures).plain

pub move_free-requires-clause-absent : goal.move_free-requires-clause-absent
move_free-requires-clause-absent g c = λ h. subst (λ (p : Path). (g.H.Host.state c.args.host.now).world p ≡ None) (sym c.in_ok-free.ensures) (can_free c.args.twice _ _ _ c.if-twice.false (c.requires.can h c.if-not-moves.false))

pub move_free-requires-clause-parent : goal.move_free-requires-clause-parent
move_free-requires-clause-parent g c = λ h. subst (HasParent (g.H.Host.state c.args.host.now).world) (sym c.in_ok-free.ensures) (c.requires.can h c.if-not-moves.false).above

pub returns-clause-moved : goal.returns-clause-moved
returns-clause-moved g c = λ h. on_ok c.move_free.result (λ is. moved_there c.args.moves c.args.from.now c.args.to.now _ _ _ _ c.if-not-moves.false c.in_ok-there.ensures c.in_ok-free.ensures is) (c.move_free.ensures.moved h)

pub returns-clause-any_moment : goal.returns-clause-any_moment
returns-clause-any_moment g c = since_weaker _ _ _ _ (λ so_far w is. moving_is c.args.moves c.args.from.now c.args.to.now _ _ _ w c.if-not-moves.false c.in_ok-there.ensures c.in_ok-free.ensures is) c.move_free.ensures.any_moment
