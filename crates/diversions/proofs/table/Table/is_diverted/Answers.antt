use Rattle.std.proofs.Common.{◌∙◌, ap, is_some}
use Rattle.diversions.proofs.Indexed.{copied_some, some_entry}
use Rattle.diversions.proofs.table.Table.is_diverted.Goals as goal

pub returns : goal.returns
returns c = c.is_some.ensures ∙ copied_some c.get.result ∙ ap is_some c.get.ensures ∙ some_entry c.args.self.now c.args.path.now
