use Rattle.std.proofs.Common.{◌∙◌, Option, ap, rules, subst}
use Rattle.host_core.specs.declared.node.Node.{Node}
use Rattle.host_overlay.specs.Seen.{seen}
use Rattle.verification.specs.Sums.{sums_at}
use Rattle.verification.specs.Tables.{AreSums}
use Rattle.verification.proofs.sums.read_sums.Goals as goal

pub returns : goal.returns
returns g c = record {
  looks = record {
    found = λ h.
        let w = seen c.args.shown.now (g.H.Host.state c.args.host.now).world in
        subst (λ (n : Option Node). AreSums (sums_at n) c.in_ok-sums_at.field-0) (c.in_ok-node.ensures.found h ∙ ap w c.in_ok-path.ensures) c.in_ok-sums_at.ensures;
    reads = search rules;
    silent = search rules;
    counts = search rules;
  };
}
