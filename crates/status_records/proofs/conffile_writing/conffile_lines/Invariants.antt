use Rattle.std.proofs.Common.{◌≡◌, map, take}
use Rattle.status_records.specs.ConffileFields.{conffile_line}
use Rattle.status_records.proofs.conffile_writing.conffile_lines.Given as goal

abbrev pub invariant-loop-entry : goal.invariant-loop-entry
invariant-loop-entry l = l.lines ≡ map conffile_line (take l.entry-index l.entries)
