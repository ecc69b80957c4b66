use Rattle.std.proofs.Common.{◌≡◌, map, take}
use Rattle.dpkg_words.specs.Arguments.{plain_name}
use Rattle.dpkg_words.proofs.arguments.plain_names.Given as goal

abbrev pub invariant-loop-name : goal.invariant-loop-name
invariant-loop-name l = l.plain ≡ map plain_name (take l.name-index l.names)
