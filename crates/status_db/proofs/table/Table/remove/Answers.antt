use Rattle.std.proofs.Common.{◌∙◌, sym, ap, subst}
use Rattle.status_records.specs.Records.{AreStanding, drop_record}
use Rattle.status_db.proofs.Ordered.{dropped_standing}
use Rattle.status_db.proofs.table.Table.remove.Goals as goal

pub invariant_of-self : goal.invariant_of-self
invariant_of-self c = subst AreStanding (sym c.remove.ensures) (dropped_standing c.args.name.now c.self.inside.records c.self.invariant)

pub returns : goal.returns
returns c = c.remove.ensures ∙ ap (drop_record c.args.name.now) c.self.view_is
