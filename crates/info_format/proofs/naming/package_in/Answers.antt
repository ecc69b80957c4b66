use Rattle.std.proofs.Common.{◌∙◌, sym, ap}
use Rattle.std.proofs.lemmas.Result.{IfOk-weaker}
use Rattle.std.specs.Option.{option_copied}
use Rattle.info_format.proofs.Packages.{found_in}
use Rattle.info_format.proofs.naming.package_in.Goals as goal

pub returns-in-Some : goal.returns-in-Some
returns-in-Some c = IfOk-weaker c.package_of.result _ _ (λ found by. found_in c.args.database.now.records c.args.name.now c.in-Some.record.now found (ap option_copied (sym c.in-Some.is) ∙ c.get.ensures) by) c.package_of.ensures
