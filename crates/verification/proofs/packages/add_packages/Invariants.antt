use Rattle.std.proofs.Common.{take, string_bytes}
use Rattle.std.specs.List.{flat_map}
use Rattle.host_core.specs.Host.{Reads, Silent}
use Rattle.host_overlay.specs.Seen.{seen}
use Rattle.verification.specs.Verified.{AddsLooks, listings_of, wanted}
use Rattle.verification.proofs.packages.add_packages.Given as goal

abbrev pub invariant-loop-entry : goal.invariant-loop-entry
invariant-loop-entry g l =
    let old = g.H.Host.state l.fn.host in
    let now = g.H.Host.state l.host in
    record {
      added : AddsLooks l.all.opened.diversions.ways (seen l.all.shown) (flat_map (listings_of l.all.opened.lists.lists) (wanted l.names (take l.entry-index l.records))) old now (string_bytes l.initial.lines) (string_bytes l.lines);
      reads : Reads old now;
      silent : Silent old now;
    }
