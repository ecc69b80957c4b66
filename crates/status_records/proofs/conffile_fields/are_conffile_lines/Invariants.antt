use Rattle.std.proofs.Common.{take}
use Rattle.status_records.specs.ConffileFields.{is_conffile_line, conffile_words}
use Rattle.status_records.proofs.Apart.{AreReadTo}
use Rattle.status_records.proofs.conffile_fields.are_conffile_lines.Given as goal

abbrev pub invariant-loop-line : goal.invariant-loop-line
invariant-loop-line l = AreReadTo is_conffile_line (λ line. (conffile_words line).path) (take l.line-index l.lines) l.seen
