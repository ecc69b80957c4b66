use Rattle.std.proofs.Common.{ℕ, List, Option, Some, ap, sym, ◌∙◌, arith}
use Rattle.std.specs.Prelude.{option_copied}
use Rattle.recorded_packages.proofs.Roots.{own_is_root, none_is_later, none_at_end}
use Rattle.recorded_packages.proofs.packages.root_of.Goals as goal

pub returns-in-Some : goal.returns-in-Some
returns-in-Some c =
    own_is_root c.args.records.now c.loop-entry.entry-index c.entry-item.result c.in-Some.own.now c.loop-entry-test.true c.entry-item.is
    (sym c.architecture_of.ensures ∙ ap option_copied c.in-Some.is) c.loop-entry.invariant

pub loop-entry-preserved : goal.loop-entry-preserved
loop-entry-preserved c =
    none_is_later c.args.records.now c.loop-entry.entry-index c.entry-item.result c.loop-entry-test.true c.entry-item.is
    (sym c.architecture_of.ensures ∙ ap option_copied c.in_default.is) c.loop-entry.invariant

pub returns : goal.returns
returns c = none_at_end c.args.records.now c.loop-entry.entry-index c.loop-entry-test.false c.loop-entry.invariant
