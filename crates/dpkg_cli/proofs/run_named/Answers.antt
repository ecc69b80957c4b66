use Rattle.std.proofs.Common.{◌≡◌, true, false, map, rules, string_bytes}
use Rattle.dpkg_cli.specs.Runs.{are_dpkgs}
use Rattle.dpkg_cli.proofs.Named.{named_dpkg, named_own}
use Rattle.dpkg_cli.proofs.run_named.Goals as goal

pub returns-then-are_dpkgs : goal.returns-then-are_dpkgs
returns-then-are_dpkgs g c =
    let is : are_dpkgs (map string_bytes c.args.words.now) ≡ true = search rules in
    named_dpkg g.D.Disk.model (map string_bytes c.args.words.now) c.run_dpkg.result is c.run_dpkg.ensures

pub returns-else-are_dpkgs : goal.returns-else-are_dpkgs
returns-else-are_dpkgs g c =
    let is : are_dpkgs (map string_bytes c.args.words.now) ≡ false = search rules in
    named_own g.D.Disk.model (map string_bytes c.args.words.now) c.run.result is c.run.ensures.answered
