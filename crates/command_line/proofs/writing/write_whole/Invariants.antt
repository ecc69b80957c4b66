use Rattle.std.proofs.Common.{◌≡◌, []}
use Rattle.command_line.proofs.Held.{HasWritten}
use Rattle.command_line.proofs.writing.write_whole.Given as goal

abbrev pub invariant-loop : goal.invariant-loop
invariant-loop g l = record {
  written : HasWritten l.text l.left (g.W.Write.contents l.fn.writer) (g.W.Write.contents l.writer);
  idle : l.text ≡ [] → l.writer ≡ l.fn.writer;
}
