use Rattle.std.proofs.Common.{map, take, string_bytes}
use Rattle.host_core.specs.Host.{Reads, Silent}
use Rattle.host_overlay.specs.Seen.{seen}
use Rattle.verification.specs.Verified.{AddsLooks}
use Rattle.verification.proofs.packages.add_paths.Given as goal

abbrev pub invariant-loop-path : goal.invariant-loop-path
invariant-loop-path g l =
    let old = g.H.Host.state l.fn.host in
    let now = g.H.Host.state l.host in
    record {
      added : AddsLooks l.all.opened.diversions.ways (seen l.all.shown) (map (λ path. (l.entry, path)) (take l.path-index l.paths)) old now (string_bytes l.initial.lines) (string_bytes l.lines);
      reads : Reads old now;
      silent : Silent old now;
    }
