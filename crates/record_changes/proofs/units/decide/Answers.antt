use Rattle.std.proofs.Common.{sym}
use Rattle.record_changes.proofs.units.decide.Goals as goal

pub returns-then-is_made : goal.returns-then-is_made
returns-then-is_made c = (c.in-Some.entry.now, sym c.in-Some.ensures, c.if-is_made.ensures)

pub returns-in_ok-changed-in-Some : goal.returns-in_ok-changed-in-Some
returns-in_ok-changed-in-Some c = (c.in-Some.entry.now, sym c.in-Some.ensures, c.if-is_made.ensures, c.in_ok-changed-in-Some.ensures)
