use Rattle.std.proofs.Common.{◌∙◌, ◌++◌, List, sym, ap, subst}
use Rattle.std.specs.BTreeMap.{get_by_text}
use Rattle.host_core.specs.Paths.{Path}
use Rattle.host_core.specs.Tree.{IsListing}
use Rattle.host_overlay.specs.Standings.{overlaid}
use Rattle.host_overlay.proofs.Listings.{listing_over}
use Rattle.host_overlay.proofs.changes.Changes.listing.Goals as goal

pub returns : goal.returns
returns c = λ w there below.
    let m = get_by_text c.args.self.now.map in
    subst (λ (ns : List Path). IsListing (overlaid m w) c.args.path.now ns c.args.below.now.bad) (sym (c.in_ok-append.ensures ∙ ap (λ (ns : List Path). ns ++ c.in_ok-changed.changed) c.in_ok-names.ensures))
    (listing_over m w c.args.path.now c.args.below.now.names c.in_ok-changed.changed c.args.below.now.bad c.args.self.now.paths there below c.in_ok-changed.ensures)
