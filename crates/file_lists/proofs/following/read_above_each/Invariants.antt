use Rattle.std.proofs.Common.{◌≡◌, IsTrue, Contains, take}
use denote.Text.{Utf8}
use denote.Shadow.{shadow}
use Rattle.std.specs.HashSet.{contains_text}
use Rattle.host_core.specs.Host.{Needs, Reads, Silent, NoFault}
use Rattle.host_core.specs.Paths.{Path}
use Rattle.aliases.specs.Links.{above}
use Rattle.aliases.specs.Reading.{AreAliasesIn, IsWhole}
use Rattle.aliases.specs.Ways.{AreSettled}
use Rattle.file_lists.specs.Followed.{ArePassed, HasMoreAliases}
use Rattle.file_lists.proofs.following.read_above_each.Given as goal

abbrev pub invariant-loop-path : goal.invariant-loop-path
invariant-loop-path g l = record {
  text : shadow (Utf8 l.last);
  settled : Needs (g.H.Host.state l.host) (λ w. AreSettled w l.diversions.ways.aliases l.passed.looked);
  passed : Needs (g.H.Host.state l.host) (ArePassed l.diversions.ways.aliases (contains_text l.passed.directories));
  grows : HasMoreAliases (g.H.Host.state l.host).honest (g.H.Host.state l.fn.host).world l.fn.diversions l.diversions;
  last : IsTrue (g.H.Host.state l.host).honest → AreAliasesIn (g.H.Host.state l.fn.host).world l.fn.diversions.ways.aliases → (path : Path) → above path ≡ l.last → IsWhole (g.H.Host.state l.fn.host).world path l.diversions.ways.aliases;
  whole : IsTrue (g.H.Host.state l.host).honest → AreAliasesIn (g.H.Host.state l.fn.host).world l.fn.diversions.ways.aliases → (path : Path) → Contains (take l.path-index l.paths) path → IsWhole (g.H.Host.state l.fn.host).world path l.diversions.ways.aliases;
  reads : Reads (g.H.Host.state l.fn.host) (g.H.Host.state l.host);
  silent : Silent (g.H.Host.state l.fn.host) (g.H.Host.state l.host);
  counts : NoFault (g.H.Host.state l.fn.host) (g.H.Host.state l.host);
}
