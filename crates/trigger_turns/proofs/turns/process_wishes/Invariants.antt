use Rattle.std.proofs.Common.{◌≡◌, false}
use Rattle.unit_reports.specs.Held.{held_by}
use Rattle.trigger_turns.specs.Told.{AreToldInTurns}
use Rattle.trigger_turns.specs.Turns.{AreTurned}
use Rattle.trigger_turns.proofs.turns.process_wishes.Given as goal

abbrev pub invariant-loop-turn : goal.invariant-loop-turn
invariant-loop-turn g l =
    AreTurned l.fn.wishes.items l.fn.takes (held_by l.fn.session.administration l.fn.session.diversions) (g.H.Host.state l.fn.session.host) l._turn l.units.items l.left.wishes.items l.left.takes (held_by l.session.administration l.session.diversions) (g.H.Host.state l.session.host)
    × (l.session.closed ≡ false) × AreToldInTurns g.W.Watcher.tells l.fn.watcher l.units.items l.watcher
