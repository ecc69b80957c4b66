use Rattle.std.proofs.Common.{rules, ◌≡◌, ◌↔◌, true, subst, Contains}
use Rattle.host_core.specs.Tree.{IsListing}
use Rattle.std.proofs.lemmas.Bool.{and_parts}
use Rattle.control_members.specs.Names.{is_member_name}
use Rattle.control_members.proofs.Order.{all_from}
use Rattle.control_members.proofs.Drawn.{entered, stored_listed}
use Rattle.control_members.proofs.stored.stored_names.Goals as goal

pub returns-clause-looks : goal.returns-clause-looks
returns-clause-looks g c = record {
  found = λ h.
      let w = (g.H.Host.state c.args.host.now).world in
      let owner = c.args.owner.now in
      let names = c.in_ok-names_among.field-0 in
      let entries = c.in_ok-listing.listing.names in
      let listing = subst (λ d. IsListing w d entries c.in_ok-listing.listing.bad) c.in_ok-info.ensures (c.in_ok-listing.ensures.listed h) in
      stored_listed w owner entries names c.in_ok-listing.listing.bad c.requires.named listing c.in_ok-names_among.ensures.order
      (λ name. subst (λ l. Contains names name ↔ (entered owner l name ≡ true)) c.as_slice.ensures (c.in_ok-names_among.ensures.exact name));
  reads = search rules;
  silent = search rules;
  counts = search rules;
}

pub returns-clause-members : goal.returns-clause-members
returns-clause-members g c =
    all_from (λ name. is_member_name name ≡ true) c.in_ok-names_among.field-0 (λ name has. (and_parts _ _ ((c.in_ok-names_among.ensures.exact name).0 has)).0)
