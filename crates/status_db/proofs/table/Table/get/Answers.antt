use Rattle.std.proofs.Common.{◌∙◌, ap, List}
use Rattle.status_records.specs.declared.record.Record.{Record}
use Rattle.status_records.specs.Records.{record_in}
use Rattle.status_db.proofs.Ordered.{record_is}
use Rattle.status_db.proofs.table.Table.get.Goals as goal

pub returns : goal.returns
returns c = c.get.ensures ∙ record_is c.self.inside.records c.args.name.now ∙ ap (λ (l : List Record). record_in l c.args.name.now) c.self.view_is
