use Rattle.std.proofs.Common.{List, ℕ, subst}
use Rattle.host_core.specs.Tree.{IsListing}
use Rattle.status_db.proofs.Marks.{text_told}
use Rattle.status_db.proofs.updates.list_notes.Goals as goal

pub returns-clause-marks : goal.returns-clause-marks
returns-clause-marks g c = λ h.
    let w = (g.H.Host.state c.args.host.now).world in
    c.marks_in.ensures.marks w (subst (λ (p : List ℕ). IsListing w p c.in_ok-listing.listing.names c.in_ok-listing.listing.bad) c.in_ok-directory.ensures (c.in_ok-listing.ensures.listed h))

pub returns-clause-text : goal.returns-clause-text
returns-clause-text g c = λ h.
    let w = (g.H.Host.state c.args.host.now).world in
    text_told c.marks_in.result _ (c.marks_in.ensures.text w (subst (λ (p : List ℕ). IsListing w p c.in_ok-listing.listing.names c.in_ok-listing.listing.bad) c.in_ok-directory.ensures (c.in_ok-listing.ensures.listed h)))

pub returns-clause-damage : goal.returns-clause-damage
returns-clause-damage g c = λ h.
    let w = (g.H.Host.state c.args.host.now).world in
    c.marks_in.ensures.damage w (subst (λ (p : List ℕ). IsListing w p c.in_ok-listing.listing.names c.in_ok-listing.listing.bad) c.in_ok-directory.ensures (c.in_ok-listing.ensures.listed h))
