use Rattle.std.proofs.Common.{◌≡◌, take, map}
use Rattle.std.specs.Prelude.{option_copied}
use Rattle.record_formats.specs.Tables.{row_of}
use Rattle.record_formats.proofs.rows.rows_of.Given as goal

abbrev pub invariant-loop-entry : goal.invariant-loop-entry
invariant-loop-entry l = l.rows.items ≡ map (row_of (option_copied l.root)) (map (λ r. r.now) (take l.entry-index l.entries))
