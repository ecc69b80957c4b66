use Rattle.std.proofs.Common.{take}
use Rattle.status_records.specs.Paragraphs.{ArePendingOf}
use Rattle.status_records.proofs.conffile_reading.pending_digests_of.Given as goal

abbrev pub invariant-loop-line : goal.invariant-loop-line
invariant-loop-line l = ArePendingOf (take l.line-index l.lines) l.pending
