use Rattle.std.proofs.Common.{rules}
use Rattle.host_overlay.proofs.seen_names.SeenNames.list.Goals as goal

pub returns : goal.returns
returns g c = record {
  found = λ h sources. c.in_ok-listing.ensures (g.H.Host.state c.args.host.now).world sources.there (c.in_ok-below.ensures.listed h);
  reads = search rules;
  silent = search rules;
  counts = search rules;
}
