use Rattle.std.proofs.Common.{◌≡◌, false, take}
use Rattle.unpack_rows.specs.Stages.{has_files}
use Rattle.unpack_steps.proofs.halves.count_before.Given as goal

abbrev pub invariant-loop-kind : goal.invariant-loop-kind
invariant-loop-kind l = (l.count ≡ l.kind-index) × (has_files (take l.kind-index l.kinds) ≡ false)
