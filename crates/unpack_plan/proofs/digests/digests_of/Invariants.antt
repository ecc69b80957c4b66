use Rattle.std.proofs.Common.{◌≡◌, map, take}
use Rattle.unpack_plan.specs.Digests.{shipped_digests, told_digest}
use Rattle.unpack_plan.proofs.digests.digests_of.Given as goal

abbrev pub invariant-loop-file : goal.invariant-loop-file
invariant-loop-file l = map told_digest l.pending ≡ shipped_digests l.conffiles (take l.file-index l.files)
