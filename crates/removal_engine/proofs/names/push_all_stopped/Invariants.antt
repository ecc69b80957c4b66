use Rattle.std.proofs.Common.{◌≡◌, ◌++◌, [], cond, take}
use Rattle.std.specs.BTreeSet.{contains_text}
use Rattle.std.specs.List.{flat_map}
use Rattle.diversions.specs.Ways.{place}
use Rattle.list_changes.specs.Clearable.{clearable}
use Rattle.removal_engine.specs.Names.{unpack_names}
use Rattle.removal_engine.proofs.names.push_all_stopped.Given as goal

abbrev pub invariant-loop-path : goal.invariant-loop-path
invariant-loop-path l =
    l.names.items ≡ l.fn.names.items ++ flat_map (λ path. cond (contains_text l.set path) [] (clearable (unpack_names (place l.diversions.ways l.name path)))) (take l.path-index l.listed)
