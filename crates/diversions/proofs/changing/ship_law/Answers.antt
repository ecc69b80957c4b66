use Rattle.std.proofs.Common.{subst}
use Rattle.std.specs.Str.{IsUtf8}
use Rattle.diversions.proofs.changing.ship_law.Goals as goal

pub returns : goal.returns
returns c = record { text = subst IsUtf8 c.as_str-line.ensures c.as_str-line.utf8; path = c.law.ensures }
