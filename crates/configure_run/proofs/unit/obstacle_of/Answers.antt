use Rattle.std.proofs.Common.{rules, ◌≡◌, ℕ, List, Option, Some, None, ◌∙◌}
use Rattle.std.specs.List.{All}
use Rattle.conffiles.specs.Settling.{CanSettle}
use Rattle.configure_engine.specs.Obstacles.{IsObstacle, names_of_all}
use Rattle.configure_engine.specs.Units.{CanConfigure}
use Rattle.configure_engine.specs.Waiting.{settling_places}
use Rattle.status_records.specs.Records.{record_in}
use Rattle.configure_run.specs.Turns.{HasObstacle}
use Rattle.configure_run.proofs.Units.{clear_is, obstacle_is, ok_so}
use Rattle.configure_run.proofs.unit.obstacle_of.Goals as goal

pub unreachable-requires : goal.unreachable-requires
unreachable-requires g c =
    let none : None ≡ record_in c.args.database.now.records c.args.name.now = c.in-None.ensures in
    let e : None ≡ Some c.requires.waits.entry = none ∙ c.requires.waits.found in
    cc

pub returns-clause-looks : goal.returns-clause-looks
returns-clause-looks g c = record {
  found = λ honest.
      let ways = c.args.diversions.now.ways in
      let w = (g.H.Host.state c.args.host.now).world in
      let entry = c.in-Some.entry.now in
      ok_so c.obstacle.result (λ (found : Option (List ℕ)). IsObstacle w (names_of_all (settling_places ways entry)) found) (λ found. HasObstacle ways c.args.database.now.records c.args.name.now w found)
      (λ found is. obstacle_is ways c.args.database.now.records c.args.name.now w entry found c.in-Some.ensures is) (c.obstacle.ensures.looks.found honest);
  reads = search rules;
  silent = search rules;
  counts = search rules;
}

pub returns-clause-clear : goal.returns-clause-clear
returns-clause-clear g c honest =
    let ways = c.args.diversions.now.ways in
    let w = (g.H.Host.state c.args.host.now).world in
    let entry = c.in-Some.entry.now in
    ok_so c.obstacle.result (λ (found : Option (List ℕ)). found ≡ None → All (λ x. CanSettle x w) (settling_places ways entry)) (λ found. found ≡ None → CanConfigure ways c.args.database.now.records c.args.name.now w)
    (λ found is none. clear_is ways c.args.database.now.records c.args.name.now w entry c.in-Some.ensures (is none)) (c.obstacle.ensures.clear honest)
