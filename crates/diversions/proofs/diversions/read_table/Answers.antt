use Rattle.std.proofs.Common.{◌∙◌, ap, subst}
use Rattle.std.specs.Prelude.{IfOk, IfErr}
use Rattle.administration.specs.Files.{NoDirectory}
use Rattle.diversions.specs.Lines.{HasEntries, IsNodeDamage}
use Rattle.diversions.proofs.diversions.read_table.Goals as goal

pub returns-clause-entries : goal.returns-clause-entries
returns-clause-entries g c = λ h. subst (λ n. IfOk c.read_node.result (λ x. HasEntries n x)) (c.in_ok-node.ensures.found h ∙ ap (g.H.Host.state c.args.host.now).world c.in_ok-path.ensures) c.read_node.ensures.entries

pub returns-clause-damage : goal.returns-clause-damage
returns-clause-damage g c = λ h. subst (λ n. IfErr c.read_node.result (IsNodeDamage n)) (c.in_ok-node.ensures.found h ∙ ap (g.H.Host.state c.args.host.now).world c.in_ok-path.ensures) c.read_node.ensures.damage

pub returns-clause-loose : goal.returns-clause-loose
returns-clause-loose g c = λ h. subst (λ n. IfOk c.read_node.result (λ x. NoDirectory n)) (c.in_ok-node.ensures.found h ∙ ap (g.H.Host.state c.args.host.now).world c.in_ok-path.ensures) c.read_node.ensures.loose
