use Rattle.std.proofs.Common.{ℕ, List, subst}
use Rattle.std.specs.Prelude.{OnOk}
use Rattle.status_db.specs.Order.{AreInOrder}
use Rattle.status_records.specs.declared.record.Record.{Record}
use Rattle.recorded_packages.specs.Packages.{ArePackagesOf}
use Rattle.recorded_packages.specs.Renewal.{AreSameBut}
use Rattle.recorded_packages.proofs.renewal.renew_one.Goals as goal

pub returns-clause-ok : goal.returns-clause-ok
returns-clause-ok c =
    let records = c.args.database.now.records in
    let P : List (List ℕ) → Type 0 = λ names. OnOk c.renew.result ((before : List Record) → AreInOrder before → ArePackagesOf before c.args.packages.now → AreSameBut names before records → ArePackagesOf records c.renew.new.packages) in
    subst P c.from_ref.ensures.value c.renew.ensures.ok
