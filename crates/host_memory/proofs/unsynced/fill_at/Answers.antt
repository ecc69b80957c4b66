use Rattle.std.proofs.Common.{◌≡◌, Some, Option, sym, ap, ap₂, subst, ◌∙◌, rules}
use Rattle.std.specs.Prelude.{OnOk}
use Rattle.std.specs.BTreeMap.{get_by_text}
use Rattle.host_core.specs.Paths.{Path}
use Rattle.host_core.specs.World.{World, put}
use Rattle.host_core.specs.declared.node.Node.{Node}
use Rattle.host_memory.specs.Losing.{filled}
use Rattle.host_memory.specs.TreeLaws.{IsTree-from_test}
use Rattle.host_memory.specs.Trees.{Fits}
use Rattle.host_memory.proofs.Filling.{Fits-filled}
use Rattle.host_memory.proofs.unsynced.fill_at.Goals as goal

pub put-requires-clause-fits : goal.put-requires-clause-fits
put-requires-clause-fits c =
    let w = get_by_text c.args.files.now.nodes in
    let is : w c.args.path.now ≡ Some c.in-Some.node.now = search rules in
    subst (λ (p : Path). Fits w p (Some c.in_ok-full.full)) (sym c.as_str-2.ensures)
    (Fits-filled c.args.fill w c.args.path.now c.in-Some.node.now c.in_ok-full.full (IsTree-from_test w c.args.files.now.tree) is c.in_ok-full.ensures)

pub returns : goal.returns
returns c =
    let w = get_by_text c.args.files.now.nodes in
    let is : w c.args.path.now ≡ Some c.in-Some.node.now = search rules in
    let at : put w c.as_str-2.result.now (Some c.in_ok-full.full) ≡ put w c.args.path.now (filled c.args.fill (w c.args.path.now)) =
    ap₂ (λ (p : Path) (n : Option Node). put w p n) c.as_str-2.ensures (c.in_ok-full.ensures ∙ ap (filled c.args.fill) (sym is)) in
    subst (λ (v : World). OnOk c.put.result (get_by_text c.put.new.self.nodes ≡ v)) at c.put.ensures.ok
