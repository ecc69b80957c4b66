use Rattle.std.proofs.Common.{length}
use denote.Text.{Utf8}
use denote.Shadow.{shadow}
use Rattle.std.specs.String.{string_bytes}
use Rattle.host_core.specs.Host.{Needs, Reads, Silent, NoFault}
use Rattle.aliases.specs.Ways.{AreSettled}
use Rattle.aliases.proofs.Progressing.{SoFar}
use Rattle.aliases.proofs.aliases.Aliases.read_above_once.Given as goal

abbrev pub invariant-loop-name : goal.invariant-loop-name
invariant-loop-name g l = record {
  text : shadow (Utf8 l.rest);
  so_far : SoFar (g.H.Host.state l.host).honest (g.H.Host.state l.fn.host).world l.fn.path l.fn.self l.self (string_bytes l.way) l.rest;
  settled : Needs (g.H.Host.state l.host) (λ w. AreSettled w l.self l.looked);
  reads : Reads (g.H.Host.state l.fn.host) (g.H.Host.state l.host);
  silent : Silent (g.H.Host.state l.fn.host) (g.H.Host.state l.host);
  counts : NoFault (g.H.Host.state l.fn.host) (g.H.Host.state l.host);
}

abbrev pub decreases-loop-name : goal.decreases-loop-name
decreases-loop-name g l = length l.rest
