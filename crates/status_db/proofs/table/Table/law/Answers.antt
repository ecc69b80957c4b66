use Rattle.std.proofs.Common.{◌≡◌, subst, List}
use Rattle.status_records.specs.declared.record.Record.{Record}
use Rattle.status_records.specs.Records.{standing}
use Rattle.status_db.specs.Order.{AreInOrder}
use Rattle.status_db.proofs.Ordered.{standing_same}
use Rattle.status_db.proofs.table.Table.law.Goals as goal

pub returns-clause-order : goal.returns-clause-order
returns-clause-order c = subst AreInOrder c.self.view_is c.law.ensures

pub returns-clause-standing : goal.returns-clause-standing
returns-clause-standing c = subst (λ (l : List Record). standing l ≡ l) c.self.view_is (standing_same _ c.self.invariant)
