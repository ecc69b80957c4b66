use Rattle.std.proofs.Common.{rules, ap, ◌∙◌}
use Rattle.host_core.specs.Paths.{Path}
use Rattle.host_core.specs.World.{is_directory}
use Rattle.diversions.specs.Sights.{is_directory_kind}
use Rattle.disappearance.proofs.Directories.{directory_kind}
use Rattle.disappearance.proofs.looks.is_directory_at.Goals as goal

pub returns : goal.returns
returns g c = record {
  looks = record {
    found = λ h.
        let w = (g.H.Host.state c.args.host.now).world in
        c.is_directory.ensures ∙ ap is_directory_kind (c.in_ok-kind.ensures.found h) ∙ directory_kind (w c.in_ok-at.at) ∙ ap (λ (p : Path). is_directory (w p)) c.in_ok-at.ensures;
    reads = search rules;
    silent = search rules;
    counts = search rules;
  };
}
