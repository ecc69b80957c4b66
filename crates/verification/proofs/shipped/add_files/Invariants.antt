use Rattle.std.proofs.Common.{take, string_bytes}
use Rattle.host_core.specs.Host.{Reads, Silent}
use Rattle.verification.specs.Looks.{AddsEach}
use Rattle.verification.specs.Shipped.{shipped_lines}
use Rattle.verification.proofs.shipped.add_files.Given as goal

abbrev pub invariant-loop-file : goal.invariant-loop-file
invariant-loop-file g l =
    let old = g.H.Host.state l.fn.host in
    let now = g.H.Host.state l.host in
    record {
      added : AddsEach (shipped_lines l.diversions.ways l.name) (take l.file-index l.files) old now (string_bytes l.initial.lines) (string_bytes l.lines);
      reads : Reads old now;
      silent : Silent old now;
    }
