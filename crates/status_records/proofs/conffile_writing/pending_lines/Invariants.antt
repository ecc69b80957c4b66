use Rattle.std.proofs.Common.{◌≡◌, map, take}
use Rattle.status_records.specs.ConffileFields.{pending_line}
use Rattle.status_records.proofs.conffile_writing.pending_lines.Given as goal

abbrev pub invariant-loop-digest : goal.invariant-loop-digest
invariant-loop-digest l = l.lines ≡ map pending_line (take l.digest-index l.pending)
