use Rattle.std.specs.BTreeSet.{contains_text}
use Rattle.package_tree.specs.ShipMap.{is_file_in}
use Rattle.package_tree.proofs.Named.{filtered_more}
use Rattle.package_tree.proofs.line_names.files_in.Goals as goal

pub loop-file-preserved : goal.loop-file-preserved
loop-file-preserved c =
    filtered_more (is_file_in (contains_text c.args.names.now)) c.args.files.now c.loop-file.file-index c.file-item.result c.loop-file.paths.items c.add_file_in.new.paths.items c.loop-file-test.true c.file-item.is c.loop-file.invariant c.in_ok-add_file_in.ensures
