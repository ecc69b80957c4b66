use Rattle.std.proofs.Common.{◌≡◌, ◌∙◌, ap}
use Rattle.std.specs.Prelude.{option_copied}
use Rattle.recorded_packages.specs.Packages.{root_architecture}
use Rattle.recorded_packages.proofs.Renewing.{kept_root, on_ok}
use Rattle.recorded_packages.proofs.renewal.renew_in_root.Goals as goal

pub returns-then-are_of : goal.returns-then-are_of
returns-then-are_of c =
    on_ok c.renew_each.result _ _
    (kept_root (option_copied c.root_of-root.result) c.args.database.now.records c.args.names.now c.args.packages.now c.renew_each.new.packages c.law.ensures.order
    (c.root_of-root.ensures ∙ ap root_architecture c.records-records.ensures) (c.are_of.ensures c.if-are_of.true)) c.renew_each.ensures
