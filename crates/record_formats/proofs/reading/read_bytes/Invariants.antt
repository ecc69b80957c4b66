use Rattle.std.proofs.Common.{◌≡◌, drop}
use Rattle.std.specs.Prelude.{fold}
use Rattle.record_formats.specs.Formats.{begun, behind_byte}
use Rattle.record_formats.proofs.reading.read_bytes.Given as goal

abbrev pub invariant-loop-byte : goal.invariant-loop-byte
invariant-loop-byte l = fold behind_byte begun l.format ≡ fold behind_byte l.reading (drop l.byte-index l.format)
