use Rattle.std.proofs.Common.{◌≡◌, ◌++◌, take, string_bytes}
use Rattle.std.specs.List.{flat_map}
use Rattle.foretold_changes.specs.Told.{changed_lines}
use Rattle.foretold_changes.proofs.telling.add_changed.Given as goal

abbrev pub invariant-loop-it : goal.invariant-loop-it
invariant-loop-it l = string_bytes l.lines ≡ string_bytes l.initial.lines ++ flat_map (changed_lines l.before l.now) (take l.it-index l.looked)
