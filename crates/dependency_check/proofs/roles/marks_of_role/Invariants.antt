use Rattle.std.proofs.Common.{◌≡◌, map, take}
use Rattle.dependency_check.specs.Roles.{plays}
use Rattle.dependency_check.proofs.roles.marks_of_role.Given as goal

abbrev pub invariant-loop-other : goal.invariant-loop-other
invariant-loop-other l = l.marks.items ≡ map (plays l.role l.incoming) (take l.other-index l.packages)
