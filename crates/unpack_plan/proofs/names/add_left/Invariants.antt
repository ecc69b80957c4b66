use Rattle.std.proofs.Common.{◌≡◌, ◌++◌, not, map, take}
use Rattle.std.specs.BTreeSet.{contains_text}
use Rattle.std.specs.List.{filter}
use Rattle.listed_files.specs.Concluding.{AreElsewhere}
use Rattle.unpack_plan.specs.Names.{waiting_name}
use Rattle.unpack_plan.proofs.names.add_left.Given as goal

abbrev pub invariant-loop-path : goal.invariant-loop-path
invariant-loop-path l = record {
  names : l.names.items ≡ l.fn.names.items ++ map (waiting_name l.diversions.ways l.name) (filter (λ q. not (contains_text l.conffiles q)) (take l.path-index l.paths));
  elsewhere : AreElsewhere l.names.items;
}
