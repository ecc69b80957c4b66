use Rattle.std.proofs.Common.{◌∙◌, ap, sym, subst}
use Rattle.diversions.specs.Entries.{IsShipLine, is_owner}
use Rattle.diversions.specs.Held.{ways_of}
use Rattle.diversions.proofs.Passing.{brought_of}
use Rattle.diversions.proofs.Turning.{goes_here}
use Rattle.diversions.proofs.changing.add_diversion.Goals as goal

pub returns-in_err-copy-clause-turns : goal.returns-in_err-copy-clause-turns
returns-in_err-copy-clause-turns g c = goes_here _

pub returns-in_err-copy-2-clause-turns : goal.returns-in_err-copy-2-clause-turns
returns-in_err-copy-2-clause-turns g c = goes_here _

pub returns-in_err-copy-3-clause-turns : goal.returns-in_err-copy-3-clause-turns
returns-in_err-copy-3-clause-turns g c = goes_here _

pub add_entry-requires-clause-formed : goal.add_entry-requires-clause-formed
add_entry-requires-clause-formed g c = record {
  path = subst IsShipLine (sym c.in_ok-copy.ensures) c.ship_law.ensures;
  target = subst IsShipLine (sym c.in_ok-copy-2.ensures) c.ship_law-2.ensures;
  owner = ap is_owner c.in_ok-copy-3.ensures ∙ c.requires.owner;
}

pub returns-clause-brought : goal.returns-clause-brought
returns-clause-brought g c =
    brought_of (ways_of c.args.ways.now) c.args.rename c.args.seen.listed c.add_entry.result (g.H.Host.state c.args.host.now) (g.H.Host.state c.add_entry.new.host) _ _ _ _ _ _
    c.in_ok-copy.ensures c.in_ok-copy-2.ensures c.in_ok-copy-3.ensures c.add_entry.ensures.brought
