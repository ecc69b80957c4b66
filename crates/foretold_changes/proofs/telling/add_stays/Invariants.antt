use Rattle.std.proofs.Common.{◌≡◌, ◌++◌, take, string_bytes}
use Rattle.std.specs.List.{flat_map}
use Rattle.foretold_changes.specs.Told.{stay_lines}
use Rattle.foretold_changes.proofs.telling.add_stays.Given as goal

abbrev pub invariant-loop-it : goal.invariant-loop-it
invariant-loop-it l = string_bytes l.lines ≡ string_bytes l.initial.lines ++ flat_map stay_lines (take l.it-index l.stays)
