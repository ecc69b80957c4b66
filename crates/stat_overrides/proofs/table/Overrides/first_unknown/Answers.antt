use Rattle.std.proofs.Common.{sym, ap, ◌∙◌}
use Rattle.std.specs.Prelude.{option_map}
use Rattle.package_tree.specs.declared.shipped.Shipped.{Shipped}
use Rattle.stat_overrides.specs.Packages.{is_unknown}
use Rattle.stat_overrides.proofs.Firsts.{found_here, none_more}
use Rattle.stat_overrides.proofs.table.Overrides.first_unknown.Goals as goal

pub returns-then-is_unknown : goal.returns-then-is_unknown
returns-then-is_unknown c =
    ap (option_map (λ (file : Shipped). file.path))
    (found_here (is_unknown c.args.self.now) c.args.files.now c.loop-file.file-index c.file-item.result c.loop-file-test.true c.file-item.is c.loop-file.invariant (sym c.is_unknown.ensures ∙ c.if-is_unknown.true))

pub loop-file-preserved : goal.loop-file-preserved
loop-file-preserved c =
    none_more (is_unknown c.args.self.now) c.args.files.now c.loop-file.file-index c.file-item.result c.loop-file-test.true c.file-item.is c.loop-file.invariant (sym c.is_unknown.ensures ∙ c.if-is_unknown.false)
