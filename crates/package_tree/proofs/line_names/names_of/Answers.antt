use Rattle.std.specs.BTreeSet.{contains_text}
use Rattle.package_tree.specs.LineNames.{is_named}
use Rattle.package_tree.proofs.Named.{any_more}
use Rattle.package_tree.proofs.line_names.names_of.Goals as goal

pub loop-entry-preserved : goal.loop-entry-preserved
loop-entry-preserved c = λ q text.
    any_more (is_named c.args.kind q) c.args.entries.now c.loop-entry.entry-index c.entry-item.result (contains_text c.add_name.new.names q) (contains_text c.loop-entry.names q) c.loop-entry-test.true c.entry-item.is
    (c.in_ok-add_name.ensures q text) (c.loop-entry.invariant q text)
