use Rattle.std.proofs.Common.{◌∙◌, sym}
use Rattle.diversions.proofs.Indexed.{none_to}
use Rattle.diversions.proofs.table.Table.entry_named.Goals as goal

pub returns-then-not-is_target : goal.returns-then-not-is_target
returns-then-not-is_target c = sym (none_to c.args.self.now c.args.target.now (sym c.is_target.ensures ∙ c.if-not-is_target.true))
