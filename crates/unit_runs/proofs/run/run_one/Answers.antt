use Rattle.std.proofs.Common.{rules, ◌≡◌, ◌++◌, ◌∷◌, []}
use Rattle.unit_reports.specs.Held.{held_by}
use Rattle.unit_runs.proofs.Taken.{taken_unit, tells_unit, told_unit}
use Rattle.unit_runs.proofs.run.run_one.Goals as goal

pub returns-in-Ok-Some-clause-ok : goal.returns-in-Ok-Some-clause-ok
returns-in-Ok-Some-clause-ok g c =
    let task = g.T.Turns.task c.args.turns.now in
    let grown : c.push.new.self.items ≡ c.args.units.now.items ++ c.in-Ok-Some.unit ∷ [] = search rules in
    record {
      unit = c.in-Ok-Some.unit;
      grown = grown;
      is = taken_unit (g.T.Turns.turn task) (g.T.Turns.called task) (g.T.Turns.over c.take.new.self) (g.T.Turns.left c.args.turns.now) (g.T.Turns.left c.take.new.self) (held_by c.args.administration.now (g.T.Turns.diverted c.args.turns.now))
          (held_by c.take.new.administration (g.T.Turns.diverted c.take.new.self)) (g.H.Host.state c.args.host.now) (g.H.Host.state c.take.new.host) c.in-Ok-Some.field-0 c.in-Ok-Some.unit c.in-Ok-Some.field-0-is c.in-Ok-Some.ensures.taken;
    }

pub returns-in-Ok-Some-clause-told : goal.returns-in-Ok-Some-clause-told
returns-in-Ok-Some-clause-told g c =
    let grown : c.push.new.self.items ≡ c.args.units.now.items ++ c.in-Ok-Some.unit ∷ [] = search rules in
    tells_unit (g.H.Host.state c.args.host.now) (g.H.Host.state c.take.new.host) c.args.units.now.items c.push.new.self.items c.in-Ok-Some.unit grown
    (told_unit (g.H.Host.state c.args.host.now) (g.H.Host.state c.take.new.host) c.in-Ok-Some.field-0 c.in-Ok-Some.unit c.in-Ok-Some.field-0-is c.in-Ok-Some.ensures.told)
