use Rattle.administration.specs.Places.{status_path}
use Rattle.std.proofs.Common.{◌≡◌}
use Rattle.inquiries.specs.Glances.{AreNames, IsGlance}
use Rattle.inquiries.proofs.Glances.{looked_err, looked_then}
use Rattle.inquiries.proofs.glance.Glance.take.Goals as goal

pub returns-in_err-status : goal.returns-in_err-status
returns-in_err-status g c =
    looked_err (c.in_ok-updates.updates, c.in_ok-updates.info) c.in_err-status.field-0.0 c.from_residual-in_err-status.result (λ names w. AreNames c.args.info w names.0 names.1) (λ node w. node ≡ w status_path)
    (λ glance w. IsGlance c.args.info w glance) (g.H.Host.state c.args.host.now) (g.H.Host.state c.all_names.new.host) (g.H.Host.state c.node_at.new.host)
    c.in_ok-updates.ensures c.in_err-status.ensures c.from_residual-in_err-status.ensures.1

pub returns : goal.returns
returns g c =
    looked_then (c.in_ok-updates.updates, c.in_ok-updates.info) c.in_ok-status.status (record { status = c.in_ok-status.status; updates = c.in_ok-updates.updates; info = c.in_ok-updates.info })
    (λ names w. AreNames c.args.info w names.0 names.1) (λ node w. node ≡ w status_path)
    (λ glance w. IsGlance c.args.info w glance) (g.H.Host.state c.args.host.now) (g.H.Host.state c.all_names.new.host) (g.H.Host.state c.node_at.new.host)
    c.in_ok-updates.ensures c.in_ok-status.ensures (λ w names status. record { status = status; names = names })
