use Rattle.std.proofs.Common.{◌≡◌, map, take}
use Rattle.std.specs.List.{AllByRecursion}
use Rattle.status_records.specs.Records.{standing}
use Rattle.status_records.specs.Paragraphs.{paragraph_of, HasParts}
use Rattle.status_records.proofs.writing.paragraphs_of.Given as goal

abbrev pub invariant-loop-entry : goal.invariant-loop-entry
invariant-loop-entry l =
    (l.paragraphs.items ≡ map paragraph_of (standing (take l.entry-index l.records))) ×
    AllByRecursion HasParts (standing (take l.entry-index l.records))
