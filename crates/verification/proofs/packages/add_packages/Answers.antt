use Rattle.std.proofs.Common.{◌≡◌, ◌+◌, ◌<◌, ◌++◌, List, length, take, sym, ap, ◌∙◌, string_bytes}
use Rattle.std.specs.List.{flat_map}
use Rattle.host_core.proofs.Moments.{reads_then, silent_then}
use Rattle.status_records.specs.declared.record.Record.{Record}
use Rattle.host_overlay.specs.Seen.{seen}
use Rattle.verification.specs.Verified.{Listing, listings_of, look_lines, wanted}
use Rattle.verification.proofs.Adding.{adds_of, adds_then}
use Rattle.verification.proofs.Counted.{counts_passed}
use Rattle.verification.proofs.Wanted.{piece_more, unwanted_here, wanted_here}
use Rattle.verification.proofs.packages.add_packages.Goals as goal
use Rattle.verification.proofs.packages.add_packages.Goals.{then-is_wanted+in_ok-add_package, else-is_wanted}

pub returns-in_err-add_package-clause-reads : goal.returns-in_err-add_package-clause-reads
returns-in_err-add_package-clause-reads g c = reads_then _ _ _ c.loop-entry.invariant.reads c.add_package.ensures.reads

pub returns-in_err-add_package-clause-counts : goal.returns-in_err-add_package-clause-counts
returns-in_err-add_package-clause-counts g c =
    counts_passed (Unit {0}) _ c.from_residual.result (g.H.Host.state c.args.host.now) (g.H.Host.state c.loop-entry.host) (g.H.Host.state c.add_package.new.host) c.loop-entry.invariant.reads c.from_residual.ensures.1 c.in_err-add_package.ensures.counts

pub loop-entry-preserved : goal.loop-entry-preserved
loop-entry-preserved g c =
    let before = c.loop-entry.invariant in
    let ways = c.args.all.now.opened.diversions.ways in
    let names = c.args.names.now in
    let rs = c.records-records.result.now in
    let i = c.loop-entry.entry-index in
    let r = c.entry-item.result in
    let lt : i < length rs = c.loop-entry-test.true in
    let listed : List Record → List Listing = flat_map (listings_of c.args.all.now.opened.lists.lists) in
    elim c.if-is_wanted.branch [
      | then-is_wanted+in_ok-add_package w ↦
          let same : listed (wanted names (take i rs)) ++ listings_of c.args.all.now.opened.lists.lists r ≡ listed (wanted names (take (i + 1) rs)) =
          sym (ap listed (wanted_here names rs i r lt c.entry-item.is (sym c.is_wanted.ensures ∙ w.if-is_wanted.true)) ∙ piece_more (listings_of c.args.all.now.opened.lists.lists) (wanted names (take i rs)) r) in
          record {
            added = rw (w.host-is, w.lines-is) (adds_of (look_lines ways (seen c.args.all.now.shown)) _ _ _ _ _ _ same (adds_then (look_lines ways (seen c.args.all.now.shown)) _ _ _ _ _ _ _ _ before.added w.add_package.ensures.reads w.in_ok-add_package.ensures.added));
            reads = rw w.host-is (reads_then _ _ _ before.reads w.add_package.ensures.reads);
            silent = rw w.host-is (silent_then _ _ _ before.silent w.add_package.ensures.silent);
          }
      | else-is_wanted w ↦
          record {
            added = rw (w.host-is, w.lines-is) (adds_of (look_lines ways (seen c.args.all.now.shown)) _ _ _ _ _ _ (sym (ap listed (unwanted_here names rs i r lt c.entry-item.is (sym c.is_wanted.ensures ∙ w.if-is_wanted.false)))) before.added);
            reads = rw w.host-is before.reads;
            silent = rw w.host-is before.silent;
          }
    ]
