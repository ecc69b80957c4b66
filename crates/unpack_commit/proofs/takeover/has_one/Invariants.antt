use Rattle.std.proofs.Common.{◌≡◌, false, take}
use Rattle.std.specs.List.{list_any}
use Rattle.unpack_commit.specs.Takeover.{is_at}
use Rattle.unpack_commit.proofs.takeover.has_one.Given as goal

abbrev pub invariant-loop-path : goal.invariant-loop-path
invariant-loop-path l = list_any (is_at l.diversions.ways l.taken l.name) (take l.path-index l.paths) ≡ false
