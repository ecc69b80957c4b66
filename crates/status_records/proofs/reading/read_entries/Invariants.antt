use Rattle.std.proofs.Common.{[], take}
use Rattle.control_fields.specs.Grammar.{paragraphs_of}
use Rattle.status_records.specs.Paragraphs.{Enters}
use Rattle.status_records.proofs.reading.read_entries.Given as goal

abbrev pub invariant-loop-located : goal.invariant-loop-located
invariant-loop-located l = Enters [] [] (paragraphs_of (take l.located-index l.paragraphs)) l.table.names l.table.records.items
