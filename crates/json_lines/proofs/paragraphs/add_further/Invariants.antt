use Rattle.std.proofs.Common.{◌≡◌, ◌++◌, drop, string_bytes}
use Rattle.json_lines.specs.Paragraphs.{further}
use Rattle.json_lines.proofs.paragraphs.add_further.Given as goal

abbrev pub invariant-loop-line : goal.invariant-loop-line
invariant-loop-line l = string_bytes l.value ++ further (drop l.line-index l.lines) ≡ string_bytes l.fn.value ++ further l.lines
