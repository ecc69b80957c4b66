use Rattle.std.proofs.Common.{◌≡◌, ◌++◌, take}
use Rattle.std.specs.String.{string_bytes}
use Rattle.trigger_watch.specs.Names.{behind_spaces}
use Rattle.trigger_watch.proofs.names.add_behind_spaces.Given as goal

abbrev pub invariant-loop-name : goal.invariant-loop-name
invariant-loop-name l = string_bytes l.text ≡ string_bytes l.fn.text ++ behind_spaces (take l.name-index l.names)
