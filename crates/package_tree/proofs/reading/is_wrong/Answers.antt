use Rattle.std.proofs.Common.{rules}
use Rattle.package_tree.proofs.reading.is_wrong.Goals as goal

pub returns-in-Some-Dir : goal.returns-in-Some-Dir
returns-in-Some-Dir c = search rules
