use Rattle.std.proofs.Common.{take}
use Rattle.status_records.specs.ConffileFields.{is_pending_line, pending_words}
use Rattle.status_records.proofs.Apart.{AreReadTo}
use Rattle.status_records.proofs.conffile_fields.are_pending_lines.Given as goal

abbrev pub invariant-loop-line : goal.invariant-loop-line
invariant-loop-line l = AreReadTo is_pending_line (λ line. (pending_words line).path) (take l.line-index l.lines) l.seen
