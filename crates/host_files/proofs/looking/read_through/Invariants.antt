use Rattle.std.proofs.Common.{◌≤◌, ◌^◌, length}
use Rattle.host_files.proofs.looking.read_through.Given as goal

abbrev pub invariant-loop : goal.invariant-loop
invariant-loop l = length l.reading ≤ 2 ^ 36
