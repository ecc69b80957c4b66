use Rattle.std.proofs.Common.{Option, subst}
use Rattle.std.specs.Prelude.{option_copied}
use Rattle.status_records.specs.declared.record.Record.{Record}
use Rattle.recorded_packages.specs.Renewal.{IsRenewedBy}
use Rattle.recorded_packages.proofs.renewal.renew_package.Goals as goal

pub returns : goal.returns
returns c = subst (λ (o : Option Record). IsRenewedBy (option_copied c.args.root) o c.args.name.now c.args.packages.now c.put.new.self) c.in-Some.ensures (c.in_ok-renewed.renewed, c.in_ok-renewed.ensures, c.in_ok-put.ensures.ok)
