use Rattle.std.proofs.Common.{◌≡◌, length}
use denote.Text.{Utf8}
use denote.Shadow.{shadow}
use Rattle.std.specs.String.{string_bytes}
use Rattle.aliases.specs.Links.{names_of}
use Rattle.aliases.specs.Shipped.{walked}
use Rattle.aliases.proofs.aliases.Aliases.walk.Given as goal

abbrev pub invariant-loop-rest : goal.invariant-loop-rest
invariant-loop-rest l = record {
  text : shadow (Utf8 l.rest);
  walked : walked l.self (string_bytes l.at) (names_of l.rest) ≡ walked l.self l.from (names_of l.names);
}

abbrev pub decreases-loop-rest : goal.decreases-loop-rest
decreases-loop-rest l = length l.rest
