-- A record is of a package.
use Rattle.std.proofs.Common.{◌≡◌, true}
use Rattle.std.proofs.Props.{props}
use Rattle.std.proofs.Math.Logic.{∥∥₁_elim}
use Rattle.texts.specs.PackageNames.{is_package_name}
use Rattle.status_records.specs.declared.record.Record.{Record}

pub record_named : (r : Record) → is_package_name r.name ≡ true
record_named r = ∥∥₁_elim r.writable (hlevel props) (λ known. known.named)
