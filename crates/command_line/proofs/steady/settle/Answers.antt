use Rattle.std.proofs.Common.{◌≡◌, Err, ap, arith, refl, subst}
use Rattle.command_line.specs.Steady.{ArePassed, blind, ended, unsteady}
use Rattle.command_line.specs.declared.steady.Unanswered.TheVariants.{Fault}
use Rattle.command_line.proofs.steady.settle.Goals as goal

pub returns-in-Err : goal.returns-in-Err
returns-in-Err g c = blind c.in-Err.fault c.in-Err.ensures.missed (ap (λ fault. Err (Fault fault)) c.from.ensures)

pub returns-in-Ended : goal.returns-in-Ended
returns-in-Ended g c =
    ended c.loop-turn._turn c.glance.new.self c.loop-turn.shown c.in-Ok.glance c.loop-turn.before (omega arith) c.in-Ok.ensures.glanced c.loop-turn.invariant c.in-Ended.ensures

pub returns : goal.returns
returns g c =
    let all : c.loop-turn._turn ≡ 10 = omega arith in
    unsteady c.glance.new.self c.in-Ok.glance c.loop-turn.before c.in-Ok.ensures.glanced
    (subst (λ n. ArePassed g.W.Shown c.args.asked.now n c.glance.new.self c.in-Ok.glance c.loop-turn.shown c.loop-turn.before) all c.loop-turn.invariant) refl
