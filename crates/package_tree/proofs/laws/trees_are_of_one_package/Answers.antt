use Rattle.package_tree.proofs.OneTree.{control_once, name_once, version_once, relations_once, scripts_once, ships_once, has_conffiles_once, files_once, conffiles_once, flagged_once, others_once, no_fault}
use Rattle.package_tree.proofs.laws.trees_are_of_one_package.Goals as goal

pub returns : goal.returns
returns c = record {
  control = control_once;
  name = name_once;
  version = version_once;
  relations = relations_once;
  scripts = scripts_once;
  ships = ships_once;
  has_conffiles = has_conffiles_once;
  files = files_once;
  conffiles = conffiles_once;
  flagged = flagged_once;
  others = others_once;
  no_fault = no_fault;
}
