use Rattle.std.proofs.Common.{◌≡◌, drop}
use Rattle.std.specs.Prelude.{fold}
use Rattle.record_formats.specs.Tables.{least, widened}
use Rattle.record_formats.proofs.rows.widths_of.Given as goal

abbrev pub invariant-loop-row : goal.invariant-loop-row
invariant-loop-row l = fold widened least l.rows ≡ fold widened l.widths (drop l.row-index l.rows)
