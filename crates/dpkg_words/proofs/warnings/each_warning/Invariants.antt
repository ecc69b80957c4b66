use Rattle.std.proofs.Common.{◌≡◌, take, string_bytes}
use Rattle.std.specs.List.{flat_map}
use Rattle.dpkg_words.specs.Warnings.{idle_warning}
use Rattle.dpkg_words.proofs.warnings.each_warning.Given as goal

abbrev pub invariant-loop-name : goal.invariant-loop-name
invariant-loop-name l = string_bytes l.lines ≡ flat_map idle_warning (take l.name-index l.names)
