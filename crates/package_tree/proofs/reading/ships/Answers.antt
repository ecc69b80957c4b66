use Rattle.std.proofs.Common.{rules, ◌↔◌, IsTrue, sym, subst}
use Rattle.host_core.specs.Paths.{Path}
use Rattle.host_core.specs.Tree.{IsListing}
use Rattle.package_tree.proofs.RootNames.{ships_listed}
use Rattle.package_tree.specs.Debian.{Ships}
use Rattle.package_tree.proofs.reading.ships.Goals as goal

pub returns : goal.returns
returns g c = record {
  looks = record {
    found = λ h.
        let w = (g.H.Host.state c.args.host.now).world in
        let names = c.in_ok-listing.listing.names in
        let bad = c.in_ok-listing.listing.bad in
        let listed = subst (λ (p : Path). IsListing w p names bad) c.in_ok-root.ensures (c.in_ok-listing.ensures.listed h) in
        subst (λ r. IsTrue r ↔ Ships w) (sym c.lists_shipped.ensures) (ships_listed w names bad listed);
    reads = search rules;
    silent = search rules;
    counts = search rules;
  };
}
