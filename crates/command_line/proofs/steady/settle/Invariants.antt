use Rattle.command_line.specs.Steady.{ArePassed}
use Rattle.command_line.proofs.steady.settle.Given as goal

abbrev pub invariant-loop-turn : goal.invariant-loop-turn
invariant-loop-turn g l = ArePassed g.W.Shown l.asked l._turn l.initial.shown l.initial.before l.shown l.before
