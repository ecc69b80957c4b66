use Rattle.std.proofs.Common.{sym, subst}
use Rattle.status_records.specs.Records.{AreStanding}
use Rattle.status_db.proofs.Ordered.{same_standing}
use Rattle.status_db.proofs.table.Table.of_records.Goals as goal

pub invariant_of-result : goal.invariant_of-result
invariant_of-result c = subst AreStanding (sym c.in-Ok.ensures.ok) (same_standing _ c.requires)
