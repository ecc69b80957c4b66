use Rattle.std.proofs.Common.{◌∙◌, ap, subst, Option}
use Rattle.std.specs.Prelude.{IfOk}
use Rattle.host_core.specs.declared.node.Node.{Node}
use Rattle.status_db.specs.Held.{IsTableOf}
use Rattle.status_db.proofs.status_reading.read_at.Goals as goal

pub returns-clause-table : goal.returns-clause-table
returns-clause-table g c = λ h.
    subst (λ (o : Option Node). IfOk c.read_node.result (IsTableOf o)) (c.in_ok-node.ensures.found h ∙ ap (g.H.Host.state c.args.host.now).world c.requires) c.read_node.ensures.table
