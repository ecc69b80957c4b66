use Rattle.host_core.specs.Tree.{IsListing}
use Rattle.administration.specs.Places.{info_path, updates_path}
use Rattle.inquiries.specs.Glances.{AreNames, IsInside}
use Rattle.inquiries.proofs.Glances.{looked_err, looked_then}
use Rattle.inquiries.proofs.glance.all_names.Goals as goal

pub returns-in_err-info : goal.returns-in_err-info
returns-in_err-info g c =
    looked_err c.in_ok-updates.updates c.in_err-info.field-0.0 c.from_residual-in_err-info.result (λ listing w. IsListing w updates_path listing.names listing.bad) (λ listing w. IsInside c.args.asked w info_path listing)
    (λ names w. AreNames c.args.asked w names.0 names.1) (g.H.Host.state c.args.host.now) (g.H.Host.state c.names_in.new.host) (g.H.Host.state c.info_names.new.host)
    c.in_ok-updates.ensures c.in_err-info.ensures c.from_residual-in_err-info.ensures.1

pub returns : goal.returns
returns g c =
    looked_then c.in_ok-updates.updates c.in_ok-info.info (c.in_ok-updates.updates, c.in_ok-info.info) (λ listing w. IsListing w updates_path listing.names listing.bad) (λ listing w. IsInside c.args.asked w info_path listing)
    (λ names w. AreNames c.args.asked w names.0 names.1) (g.H.Host.state c.args.host.now) (g.H.Host.state c.names_in.new.host) (g.H.Host.state c.info_names.new.host)
    c.in_ok-updates.ensures c.in_ok-info.ensures (λ w updates info. (updates, info))
