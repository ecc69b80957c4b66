use Rattle.std.proofs.Common.{Some, sym, subst}
use Rattle.std.specs.BTreeMap.{get_by_text}
use Rattle.host_core.specs.Paths.{Path}
use Rattle.host_memory.specs.Trees.{Fits}
use Rattle.host_memory.specs.TreeLaws.{IsTree-from_test}
use Rattle.host_memory.proofs.TreeLemmas.{Fits-over}
use Rattle.host_memory.proofs.step.lower.Goals as goal

pub put-requires-clause-fits : goal.put-requires-clause-fits
put-requires-clause-fits c =
    let w = get_by_text c.args.files.now.nodes in
    subst (λ (p : Path). Fits w p (Some c.lowered.result)) (sym c.as_str.ensures)
    (Fits-over w c.args.path.now (Some c.lowered.result) (IsTree-from_test w c.args.files.now.tree) c.requires)
