use Rattle.std.proofs.Common.{◌≡◌, ◌++◌, take}
use Rattle.unpack_plan.specs.Names.{gone_names}
use Rattle.unpack_plan.proofs.names.add_cut.Given as goal

abbrev pub invariant-loop-path : goal.invariant-loop-path
invariant-loop-path l = l.names.items ≡ l.fn.names.items ++ gone_names (take l.path-index l.leaving)
