use Rattle.std.proofs.Common.{◌≡◌, ◌+◌, ◌<◌, ◌++◌, ◌∷◌, [], List, length, map, take, sym, ap, ◌∙◌}
use Rattle.std.proofs.lemmas.List.{map-append, take_more}
use Rattle.host_core.proofs.Moments.{reads_then, silent_then}
use Rattle.host_core.specs.Paths.{Path}
use Rattle.host_overlay.specs.Seen.{seen}
use Rattle.verification.specs.Verified.{Listing, look_lines}
use Rattle.verification.proofs.Adding.{adds_of, adds_then}
use Rattle.verification.proofs.Counted.{counts_passed}
use Rattle.verification.proofs.packages.add_paths.Goals as goal

pub returns-in_err-add_path-clause-reads : goal.returns-in_err-add_path-clause-reads
returns-in_err-add_path-clause-reads g c = reads_then _ _ _ c.loop-path.invariant.reads c.add_path.ensures.reads

pub returns-in_err-add_path-clause-counts : goal.returns-in_err-add_path-clause-counts
returns-in_err-add_path-clause-counts g c = counts_passed (Unit {0}) _ c.from_residual.result (g.H.Host.state c.args.host.now) (g.H.Host.state c.loop-path.host) (g.H.Host.state c.add_path.new.host) c.loop-path.invariant.reads c.from_residual.ensures.1 c.in_err-add_path.ensures.counts

pub loop-path-preserved : goal.loop-path-preserved
loop-path-preserved g c =
    let before = c.loop-path.invariant in
    let r = c.args.entry.now in
    let i = c.loop-path.path-index in
    let paths = c.args.paths.now in
    let path = c.path-item.result in
    let lt : i < length paths = c.loop-path-test.true in
    let listed : List Path → List Listing = λ l. map (λ (p : Path). (r, p)) l in
    let same : listed (take i paths) ++ (r, path) ∷ [] ≡ listed (take (i + 1) paths) =
    sym (map-append (λ (p : Path). (r, p)) (take i paths) (path ∷ [])) ∙ ap listed (ap (λ (p : Path). take i paths ++ p ∷ []) c.path-item.is ∙ sym (take_more paths i path lt)) in
    record {
      added = adds_of (look_lines c.args.all.now.opened.diversions.ways (seen c.args.all.now.shown)) _ _ _ _ _ _ same (adds_then (look_lines c.args.all.now.opened.diversions.ways (seen c.args.all.now.shown)) (listed (take i paths)) ((r, path) ∷ []) _ _ _ _ _ _ before.added c.add_path.ensures.reads c.in_ok-add_path.ensures.added);
      reads = reads_then _ _ _ before.reads c.add_path.ensures.reads;
      silent = silent_then _ _ _ before.silent c.add_path.ensures.silent;
    }
