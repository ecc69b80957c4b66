use Rattle.std.proofs.Common.{◌≡◌, drop}
use Rattle.std.specs.Prelude.{option_copied}
use Rattle.opening.specs.Architectures.{first_foreign}
use Rattle.opening.proofs.architectures.first_foreign.Given as goal

abbrev pub invariant-loop-record : goal.invariant-loop-record
invariant-loop-record l = first_foreign (option_copied l.root) l.records ≡ first_foreign (option_copied l.root) (drop l.record-index l.records)
