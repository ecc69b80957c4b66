use Rattle.std.proofs.Common.{◌≡◌, ◌+◌, ◌<◌, ◌++◌, ◌∷◌, [], List, length, take, sym, ap, ◌∙◌}
use Rattle.std.proofs.lemmas.List.{take_more}
use Rattle.host_core.proofs.Moments.{reads_then, silent_then}
use Rattle.package_tree.specs.declared.shipped.Shipped.{Shipped}
use Rattle.verification.specs.Shipped.{shipped_lines}
use Rattle.verification.proofs.Adding.{adds_of, adds_then}
use Rattle.verification.proofs.Counted.{counts_passed}
use Rattle.verification.proofs.shipped.add_files.Goals as goal

pub returns-in_err-add_file-clause-reads : goal.returns-in_err-add_file-clause-reads
returns-in_err-add_file-clause-reads g c = reads_then _ _ _ c.loop-file.invariant.reads c.add_file.ensures.reads

pub returns-in_err-add_file-clause-counts : goal.returns-in_err-add_file-clause-counts
returns-in_err-add_file-clause-counts g c = counts_passed (Unit {0}) _ c.from_residual.result (g.H.Host.state c.args.host.now) (g.H.Host.state c.loop-file.host) (g.H.Host.state c.add_file.new.host) c.loop-file.invariant.reads c.from_residual.ensures.1 c.in_err-add_file.ensures.counts

pub loop-file-preserved : goal.loop-file-preserved
loop-file-preserved g c =
    let before = c.loop-file.invariant in
    let lines = shipped_lines c.args.diversions.now.ways c.args.name.now in
    let i = c.loop-file.file-index in
    let files = c.args.files.now in
    let file = c.file-item.result in
    let lt : i < length files = c.loop-file-test.true in
    let same : take i files ++ file ∷ [] ≡ take (i + 1) files = ap (λ (x : Shipped). take i files ++ x ∷ []) c.file-item.is ∙ sym (take_more files i file lt) in
    record {
      added = adds_of lines _ _ _ _ _ _ same (adds_then lines (take i files) (file ∷ []) _ _ _ _ _ _ before.added c.add_file.ensures.reads c.in_ok-add_file.ensures.added);
      reads = reads_then _ _ _ before.reads c.add_file.ensures.reads;
      silent = silent_then _ _ _ before.silent c.add_file.ensures.silent;
    }
