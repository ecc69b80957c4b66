use Rattle.std.proofs.Common.{rules}
use Rattle.package_tree.proofs.Astray.{ships_told}
use Rattle.package_tree.proofs.line_faults.ships_file.Goals as goal

pub returns-in_ok-kind-in-Some : goal.returns-in_ok-kind-in-Some
returns-in_ok-kind-in-Some g c = record {
  looks = record {
    found = λ h.
        ships_told (g.H.Host.state c.args.host.now).world c.args.paths.now c.args.path.now c.in-Some.found.now c.in_ok-kind-in-Some.field-0 c.is_file.result (c.requires.shipped (c.kind.ensures.silent.honest h))
        c.in-Some.ensures.0 c.in-Some.ensures.1 (c.in_ok-kind-in-Some.ensures.found h) c.is_file.ensures;
    reads = search rules;
    silent = search rules;
    counts = search rules;
  };
}
