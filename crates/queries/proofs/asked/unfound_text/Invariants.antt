use Rattle.std.proofs.Common.{◌≡◌, take, string_bytes}
use Rattle.std.specs.List.{flat_map}
use Rattle.queries.specs.Asked.{unfound_lines}
use Rattle.queries.proofs.asked.unfound_text.Given as goal

abbrev pub invariant-loop-pattern : goal.invariant-loop-pattern
invariant-loop-pattern l = string_bytes l.lines ≡ flat_map (unfound_lines l.records) (take l.pattern-index l.patterns)
