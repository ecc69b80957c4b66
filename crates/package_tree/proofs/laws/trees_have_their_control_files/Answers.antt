use Rattle.package_tree.proofs.OneTree.{alone_control, alone_name, alone_version, alone_relations}
use Rattle.package_tree.proofs.laws.trees_have_their_control_files.Goals as goal

pub returns : goal.returns
returns c = record { control = alone_control; name = alone_name; version = alone_version; relations = alone_relations }
