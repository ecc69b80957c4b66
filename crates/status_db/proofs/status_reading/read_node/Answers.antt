use Rattle.std.proofs.Common.{◌∙◌, Option, Some, ap, sym, subst}
use Rattle.std.specs.Prelude.{IfOk}
use Rattle.host_core.specs.declared.node.Node.{Node}
use Rattle.status_db.specs.Held.{IsTableOf}
use Rattle.status_db.proofs.status_reading.read_node.Goals as goal

pub returns-in-None-clause-table : goal.returns-in-None-clause-table
returns-in-None-clause-table c = subst (λ (o : Option Node). IfOk c.read_file.result (IsTableOf o)) (sym c.in-None.is) c.read_file.ensures.table

pub returns-in-Some-File-clause-table : goal.returns-in-Some-File-clause-table
returns-in-Some-File-clause-table c =
    subst (λ (o : Option Node). IfOk c.read_content.result (IsTableOf o)) (sym (c.in-Some-File.is ∙ ap (λ (n : Node). Some n) c.in-Some-File.field-0-is)) c.read_content.ensures.table
