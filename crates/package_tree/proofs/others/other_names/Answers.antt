use Rattle.std.proofs.Common.{List, ℕ}
use Rattle.std.specs.Prelude.{◌&&◌}
use Rattle.std.specs.Str.{bytes_eq}
use Rattle.std.specs.BTreeSet.{contains_text}
use Rattle.package_tree.specs.OtherNames.{is_other_name}
use Rattle.package_tree.proofs.Named.{any_more}
use Rattle.package_tree.proofs.others.other_names.Goals as goal

pub loop-name-preserved : goal.loop-name-preserved
loop-name-preserved c = λ q.
    any_more (λ (name : List ℕ). is_other_name q && bytes_eq q name) c.args.names.now c.loop-name.name-index c.name-item.result (contains_text c.add_name.new.set q) (contains_text c.loop-name.set q) c.loop-name-test.true c.name-item.is
    (c.in_ok-add_name.ensures q) (c.loop-name.invariant q)
