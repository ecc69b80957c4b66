use Rattle.std.proofs.Common.{take}
use Rattle.status_records.specs.Paragraphs.{AreConffilesOf}
use Rattle.status_records.proofs.conffile_reading.conffiles_of.Given as goal

abbrev pub invariant-loop-line : goal.invariant-loop-line
invariant-loop-line l = AreConffilesOf (take l.line-index l.lines) l.entries
