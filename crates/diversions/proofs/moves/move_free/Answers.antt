use Rattle.std.proofs.Common.{◌≡◌, Err, true, None, ap, sym, subst, ◌∙◌}
use Rattle.host_core.specs.World.{World, HardLink, HasParent, IsLoose, moved, put}
use Rattle.host_core.specs.Host.{Counts, Does, HasDeclined}
use Rattle.host_core.proofs.Losses.{proper_synced}
use Rattle.host_core.proofs.Moments.{declined_world, since_then, since_weaker, since_weaker_if}
use Rattle.host_core.proofs.WorldLaws.{put_other}
use Rattle.scattered_losses.specs.Scattered.{parent_of}
use Rattle.scattered_losses.proofs.TakingTurns.{turns_by_moments}
use Rattle.diversions.specs.Changes.{IsMoving}
use Rattle.diversions.proofs.Moving.{on_ok}
use Rattle.diversions.proofs.Turning.{doubled_taken, later_by, moving_left, moving_over, moving_second, none_declined, put_alone, since_one}
use Rattle.diversions.proofs.moves.move_free.Goals as goal

pub link-requires-clause-synced : goal.link-requires-clause-synced
link-requires-clause-synced g c = λ h. proper_synced _ _ (g.H.Host.settled c.args.host.now h) c.requires.proper

-- the node has both names

pub leave_name-requires : goal.leave_name-requires
leave_name-requires g c = record {
  there = λ h.
      let old = (g.H.Host.state c.args.host.now).world in
      let from = c.args.from.now in
      subst IsLoose (sym (ap (λ (w : World). w from) c.in-Ok.ensures.does.world ∙ put_other old c.args.to.now from (old from) (c.requires.other (c.link.ensures.silent.honest h)))) (c.requires.there (c.link.ensures.silent.honest h));
}

pub returns-in-Ok-clause-moved : goal.returns-in-Ok-clause-moved
returns-in-Ok-clause-moved g c = λ h. on_ok c.leave_name.result
    (λ is q. ap (λ (w : World). w q) (is ∙ ap (λ (w : World). put w c.args.from.now None) c.in-Ok.ensures.does.world) ∙ doubled_taken (g.H.Host.state c.args.host.now).world c.args.from.now c.args.to.now (c.requires.other (c.link.ensures.silent.honest (c.leave_name.ensures.silent.honest h))) q)
    (c.leave_name.ensures.taken h)

pub returns-in-Ok-clause-any_moment : goal.returns-in-Ok-clause-any_moment
returns-in-Ok-clause-any_moment g c =
    let from = c.args.from.now in
    let to = c.args.to.now in
    let old = g.H.Host.state c.args.host.now in
    since_then (λ so_far. IsMoving true from to old.world) _ _ _
    (since_weaker _ _ _ _ (λ so_far w is. moving_second from to old.world w is) (since_one c.link.result (HardLink from to) _ _ (λ t part. part) c.link.ensures.does))
    (since_weaker_if _ _ _ _ (λ h so_far w is. moving_left from to old.world _ w (c.requires.other (c.link.ensures.silent.honest (c.leave_name.ensures.silent.honest h))) c.in-Ok.ensures.does.world is) c.leave_name.ensures.any_moment)

pub returns-in-Ok-clause-turns : goal.returns-in-Ok-clause-turns
returns-in-Ok-clause-turns g c = λ none area h.
    let from = c.args.from.now in
    let to = c.args.to.now in
    let old = g.H.Host.state c.args.host.now in
    let mid = g.H.Host.state c.link.new.self in
    let since = since_weaker _ _ old mid (λ so_far w is. put_alone area to (λ v. put v to (v from)) old.world w (λ q away. put_other old.world to q (old.world from) away) is) (since_one c.link.result (HardLink from to) _ _ (λ t part. part) c.link.ensures.does) in
    c.leave_name.ensures.turns area old (later_by _ old mid since) (turns_by_moments area (parent_of to) old mid (c.leave_name.ensures.silent.honest h) since) h

-- it can have no second name

pub move_over-requires-clause-there : goal.move_over-requires-clause-there
move_over-requires-clause-there g c = λ h.
    let does = subst (λ f. Does {T = Unit {0}} (HardLink c.args.from.now c.args.to.now) (g.H.Host.state c.args.host.now) (g.H.Host.state c.link.new.self) (Err f)) c.in-Err-Declined.field-0-is c.in-Err-Declined.ensures.does in
    subst (λ (w : World). IsLoose (w c.args.from.now)) (sym (declined_world (HardLink c.args.from.now c.args.to.now) _ _ does h)) (c.requires.there (c.link.ensures.silent.honest h))

pub move_over-requires-clause-absent : goal.move_over-requires-clause-absent
move_over-requires-clause-absent g c = λ h.
    let does = subst (λ f. Does {T = Unit {0}} (HardLink c.args.from.now c.args.to.now) (g.H.Host.state c.args.host.now) (g.H.Host.state c.link.new.self) (Err f)) c.in-Err-Declined.field-0-is c.in-Err-Declined.ensures.does in
    subst (λ (w : World). w c.args.to.now ≡ None) (sym (declined_world (HardLink c.args.from.now c.args.to.now) _ _ does h)) (c.requires.absent (c.link.ensures.silent.honest h))

pub move_over-requires-clause-parent : goal.move_over-requires-clause-parent
move_over-requires-clause-parent g c = λ h.
    let does = subst (λ f. Does {T = Unit {0}} (HardLink c.args.from.now c.args.to.now) (g.H.Host.state c.args.host.now) (g.H.Host.state c.link.new.self) (Err f)) c.in-Err-Declined.field-0-is c.in-Err-Declined.ensures.does in
    subst (λ (w : World). HasParent w c.args.to.now) (sym (declined_world (HardLink c.args.from.now c.args.to.now) _ _ does h)) (c.requires.parent (c.link.ensures.silent.honest h))

pub returns-in-Err-Declined-clause-moved : goal.returns-in-Err-Declined-clause-moved
returns-in-Err-Declined-clause-moved g c = λ h.
    let does = subst (λ f. Does {T = Unit {0}} (HardLink c.args.from.now c.args.to.now) (g.H.Host.state c.args.host.now) (g.H.Host.state c.link.new.self) (Err f)) c.in-Err-Declined.field-0-is c.in-Err-Declined.ensures.does in
    let same = declined_world (HardLink c.args.from.now c.args.to.now) _ _ does (c.move_over.ensures.silent.honest h) in
    on_ok c.move_over.result (λ is q. ap (λ (w : World). w q) (is ∙ ap (λ (w : World). moved w c.args.from.now c.args.to.now) same)) (c.move_over.ensures.moved h)

pub returns-in-Err-Declined-clause-any_moment : goal.returns-in-Err-Declined-clause-any_moment
returns-in-Err-Declined-clause-any_moment g c =
    let from = c.args.from.now in
    let to = c.args.to.now in
    let old = g.H.Host.state c.args.host.now in
    let mid = g.H.Host.state c.link.new.self in
    let does = subst (λ f. Does {T = Unit {0}} (HardLink from to) old mid (Err f)) c.in-Err-Declined.field-0-is c.in-Err-Declined.ensures.does in
    since_then (λ so_far. IsMoving true from to old.world) _ _ _
    (since_weaker _ _ _ _ (λ so_far w is. moving_second from to old.world w is) (since_one c.link.result (HardLink from to) _ _ (λ t part. part) c.link.ensures.does))
    (since_weaker_if _ _ _ _ (λ h so_far w is. moving_over from to old.world mid.world w (declined_world (HardLink from to) old mid does (c.move_over.ensures.silent.honest h)) is) c.move_over.ensures.any_moment)

pub returns-in-Err-Declined-clause-turns : goal.returns-in-Err-Declined-clause-turns
returns-in-Err-Declined-clause-turns g c = λ none area h.
    let old = g.H.Host.state c.args.host.now in
    let mid = g.H.Host.state c.link.new.self in
    let declined : HasDeclined old mid = subst (λ f. Counts {T = Unit {0}} old mid (Err f)) c.in-Err-Declined.field-0-is c.in-Err-Declined.ensures.counts in
    absurd (none_declined old mid _ declined (later_by _ mid _ c.move_over.ensures.any_moment) none)

-- it failed

pub returns-in-Err-Device-clause-any_moment : goal.returns-in-Err-Device-clause-any_moment
returns-in-Err-Device-clause-any_moment g c =
    since_weaker _ _ _ _ (λ so_far w is. moving_second c.args.from.now c.args.to.now _ w is) (since_one c.link.result (HardLink c.args.from.now c.args.to.now) _ _ (λ t part. part) c.link.ensures.does)

pub returns-in-Err-Device-clause-turns : goal.returns-in-Err-Device-clause-turns
returns-in-Err-Device-clause-turns g c = λ none area h.
    let from = c.args.from.now in
    let to = c.args.to.now in
    let old = g.H.Host.state c.args.host.now in
    let mid = g.H.Host.state c.link.new.self in
    turns_by_moments area (parent_of to) old mid h
    (since_weaker _ _ old mid (λ so_far w is. put_alone area to (λ v. put v to (v from)) old.world w (λ q away. put_other old.world to q (old.world from) away) is) (since_one c.link.result (HardLink from to) _ _ (λ t part. part) c.link.ensures.does))

pub returns-in-Err-NoMemory-clause-any_moment : goal.returns-in-Err-NoMemory-clause-any_moment
returns-in-Err-NoMemory-clause-any_moment g c =
    since_weaker _ _ _ _ (λ so_far w is. moving_second c.args.from.now c.args.to.now _ w is) (since_one c.link.result (HardLink c.args.from.now c.args.to.now) _ _ (λ t part. part) c.link.ensures.does)

pub returns-in-Err-NoMemory-clause-turns : goal.returns-in-Err-NoMemory-clause-turns
returns-in-Err-NoMemory-clause-turns g c = λ none area h.
    let from = c.args.from.now in
    let to = c.args.to.now in
    let old = g.H.Host.state c.args.host.now in
    let mid = g.H.Host.state c.link.new.self in
    turns_by_moments area (parent_of to) old mid h
    (since_weaker _ _ old mid (λ so_far w is. put_alone area to (λ v. put v to (v from)) old.world w (λ q away. put_other old.world to q (old.world from) away) is) (since_one c.link.result (HardLink from to) _ _ (λ t part. part) c.link.ensures.does))
