use Rattle.std.proofs.Common.{Ok, refl, subst, sym}
use Rattle.unit_reports.specs.Held.{held_by}
use Rattle.trigger_turns.specs.Turns.{Follows}
use Rattle.trigger_turns.proofs.Turned.{follows_none, told_same}
use Rattle.trigger_turns.proofs.turns.follow.Goals as goal

pub returns-in-true-clause-followed : goal.returns-in-true-clause-followed
returns-in-true-clause-followed g c =
    let old = c.args.session.now in
    let new = c.take_in.new.session in
    subst (λ b. Follows b c.args.chain.now c.args.left.now.wishes.items c.args.units.now.items c.take_in.new.units.items (held_by old.administration old.diversions) (held_by new.administration new.diversions) (g.H.Host.state old.host) (g.H.Host.state new.host) c.take_in.new.left.wishes.items c.take_in.new.left.takes c.take_in.result)
    (sym c.in-true.is) c.take_in.ensures.taken

pub returns-in-false-clause-followed : goal.returns-in-false-clause-followed
returns-in-false-clause-followed g c = follows_none _ _ _ _ _ _ c.in-false.is

pub returns-in-false-clause-watched : goal.returns-in-false-clause-watched
returns-in-false-clause-watched g c = told_same _ _ _ _ refl
