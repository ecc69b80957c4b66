use Rattle.std.proofs.Common.{List, [], ℕ, map}
use Rattle.std.proofs.lemmas.Result.{IfOk-weaker}
use Rattle.command_line.specs.Roots.{around}
use Rattle.command_line.proofs.Trees.{order_within, rounds_within, within_first, within_rest}
use Rattle.command_line.proofs.installing.install_trees.Goals as goal

pub returns-in-Ok-clause-done : goal.returns-in-Ok-clause-done
returns-in-Ok-clause-done g c =
    let old = c.args.hosts.now in
    let mid = c.rounds_for.new.hosts in
    let new = c.install_rounds.new.hosts in
    let asked = c.args.asked.now in
    IfOk-weaker c.install_rounds.result _ _ (λ reports runs. record {
      rounds = map (λ v. v.items) c.in-Ok.rounds.items;
      order = order_within (around g.S.Hosts old new) (around g.S.Hosts old mid) (within_first g.S.Hosts old mid new c.install_rounds.ensures.on) asked _ _ c.in-Ok.ensures.rounds;
      runs = rounds_within (around g.S.Hosts old new) (around g.S.Hosts mid new) (within_rest g.S.Hosts old mid new c.rounds_for.ensures.on) asked c.args.options [] _ reports.items _ _ _ _ runs;
    }) c.install_rounds.ensures.done
