use Rattle.std.proofs.Common.{◌≡◌, ◌++◌, map, take}
use Rattle.trigger_files.proofs.due.add_names.Given as goal

abbrev pub invariant-loop-interest : goal.invariant-loop-interest
invariant-loop-interest l = l.names.items ≡ l.fn.names.items ++ map (λ i. i.name) (take l.interest-index l.entries)
