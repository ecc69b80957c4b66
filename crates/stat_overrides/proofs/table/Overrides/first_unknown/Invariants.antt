use Rattle.std.proofs.Common.{◌≡◌, None, take}
use Rattle.std.specs.List.{find}
use Rattle.stat_overrides.specs.Packages.{is_unknown}
use Rattle.stat_overrides.proofs.table.Overrides.first_unknown.Given as goal

abbrev pub invariant-loop-file : goal.invariant-loop-file
invariant-loop-file l = find (is_unknown l.self) (take l.file-index l.files) ≡ None
