use Rattle.std.proofs.Common.{Option}
use Rattle.host_core.specs.declared.node.Node.{Node}
use Rattle.verification.specs.Shipped.{difference_between}
use Rattle.verification.proofs.LooksBehind.{told_of_node}
use Rattle.verification.proofs.shipped.compare.Goals as goal

pub returns : goal.returns
returns g c =
    let at = c.in_ok-node.ensures in
    record {
      looks = told_of_node (λ (n : Option Node). difference_between n c.args.shipped.now) c.args.place.now c.in_ok-node.node c.difference_between.result _ _ _
          (record { found = at.found; reads = at.reads; silent = at.silent; counts = at.counts }) c.difference_between.ensures.looks;
    }
