use Rattle.std.proofs.Common.{◌≡◌, subst, List}
use Rattle.std.specs.List.{list_any}
use Rattle.std.specs.Str.{bytes_eq}
use Rattle.std.specs.BTreeSet.{contains_text}
use Rattle.host_core.specs.Paths.{Path}
use Rattle.host_core.specs.Tree.{IsListing}
use Rattle.administration.specs.Places.{info_path}
use Rattle.administration.proofs.LeastNames.{all_text}
use Rattle.administration.specs.declared.fault.AdministrationFault.TheVariants.{NoMemory}
use Rattle.host_overlay.specs.Seen.{seen}
use Rattle.file_lists.specs.Reading.{IsNameFault}
use Rattle.file_lists.proofs.Among.{bad_name, entries_listed}
use Rattle.file_lists.proofs.Looked.{fault_told, host_told}
use Rattle.file_lists.proofs.info.entries_in.Goals as goal

pub returns-then-listing-clause-fault : goal.returns-then-listing-clause-fault
returns-then-listing-clause-fault g c = λ h.
    let w = seen c.args.shown.now (g.H.Host.state c.args.host.now).world in
    let listing = c.in_ok-listing.listing in
    bad_name w listing.names listing.bad c.in_ok-info.info c.in_ok-info.ensures c.if-listing.true (c.in_ok-listing.ensures.found h (c.requires.sources (c.in_ok-listing.ensures.silent.honest h)))

pub returns-in_err-info-clause-fault : goal.returns-in_err-info-clause-fault
returns-in_err-info-clause-fault g c = λ h.
    fault_told (IsNameFault (seen c.args.shown.now (g.H.Host.state c.args.host.now).world)) NoMemory c.from_residual.result c.from_residual.ensures.1 tt

pub returns-in_err-listing-clause-fault : goal.returns-in_err-listing-clause-fault
returns-in_err-listing-clause-fault g c = λ h.
    host_told (IsNameFault (seen c.args.shown.now (g.H.Host.state c.args.host.now).world)) _ c.from_residual-in_err-listing.result c.from_residual-in_err-listing.ensures.1 tt tt tt

pub returns-clause-entries : goal.returns-clause-entries
returns-clause-entries g c = λ h.
    let w = seen c.args.shown.now (g.H.Host.state c.args.host.now).world in
    let names = c.in_ok-listing.listing.names in
    let bad = c.in_ok-listing.listing.bad in
    let set = c.in_ok-sorted.field-0 in
    let listed = subst (λ (p : Path). IsListing w p names bad) c.in_ok-info.ensures (c.in_ok-listing.ensures.found h (c.requires.sources (c.in_ok-listing.ensures.silent.honest h))) in
    entries_listed w names bad set c.if-listing.false listed (λ q. subst (λ (l : List Path). contains_text set q ≡ list_any (bytes_eq q) l) c.as_slice.ensures (c.in_ok-sorted.ensures q))

pub returns-clause-text : goal.returns-clause-text
returns-clause-text g c = λ h.
    let w = seen c.args.shown.now (g.H.Host.state c.args.host.now).world in
    let names = c.in_ok-listing.listing.names in
    let bad = c.in_ok-listing.listing.bad in
    let listed = subst (λ (p : Path). IsListing w p names bad) c.in_ok-info.ensures (c.in_ok-listing.ensures.found h (c.requires.sources (c.in_ok-listing.ensures.silent.honest h))) in
    all_text w info_path names bad c.if-listing.false listed
