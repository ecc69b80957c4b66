use Rattle.std.proofs.Common.{◌≡◌, ◌≤◌, take}
use Rattle.status_records.specs.ConffileFields.{word_start}
use Rattle.status_records.proofs.conffile_fields.word_start.Given as goal

abbrev pub invariant-loop-i : goal.invariant-loop-i
invariant-loop-i l = (l.start ≡ word_start (take l.i l.text)) × (l.start ≤ l.i)
