use Rattle.std.proofs.Common.{List, take}
use Rattle.std.specs.Prelude.{option_copied}
use Rattle.status_db.specs.Order.{AreInOrder}
use Rattle.status_records.specs.declared.record.Record.{Record}
use Rattle.recorded_packages.specs.Packages.{ArePackagesIn}
use Rattle.recorded_packages.specs.Renewal.{AreUpToDate}
use Rattle.recorded_packages.proofs.renewal.renew_each.Given as goal

abbrev pub invariant-loop-name : goal.invariant-loop-name
invariant-loop-name l = (before : List Record) → AreInOrder before → ArePackagesIn (option_copied l.root) before l.fn.packages → AreUpToDate (option_copied l.root) l.database.records before (take l.name-index l.names) l.packages
