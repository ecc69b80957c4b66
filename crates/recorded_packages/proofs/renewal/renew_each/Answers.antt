use Rattle.std.specs.Prelude.{option_copied}
use Rattle.recorded_packages.proofs.Renewing.{up_to_date_none, up_to_date_more}
use Rattle.recorded_packages.proofs.renewal.renew_each.Goals as goal

pub loop-name-init : goal.loop-name-init
loop-name-init c = λ before order are. up_to_date_none (option_copied c.args.root) c.args.database.now.records before c.args.packages.now order are

pub loop-name-preserved : goal.loop-name-preserved
loop-name-preserved c = λ before order are. up_to_date_more (option_copied c.args.root) c.args.database.now.records before c.args.names.now c.loop-name.name-index c.name-item.result c.loop-name.packages c.renew_package.new.packages c.loop-name-test.true c.name-item.is c.in_ok-renew_package.ensures (c.loop-name.invariant before order are)
