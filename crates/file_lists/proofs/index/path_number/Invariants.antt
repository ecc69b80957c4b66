use Rattle.std.proofs.Common.{◌≡◌, ◌<◌, ◌+◌, ◌*◌, ◌%◌, take}
use Rattle.std.specs.List.{fold}
use Rattle.file_lists.proofs.index.path_number.Given as goal

abbrev pub invariant-loop-byte : goal.invariant-loop-byte
invariant-loop-byte l = record {
  is : l.number ≡ fold (λ number byte. (number * 16777619 + byte) % 4294967296) 0 (take l.byte-index l.text);
  small : l.number < 4294967296;
}
