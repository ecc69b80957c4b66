use Rattle.std.proofs.Common.{Option, ◌∙◌, sym, ap}
use Rattle.aliases.specs.Aliases.{resolved}
use Rattle.diversions.specs.declared.entry.Diversion.{Diversion}
use Rattle.diversions.specs.Held.{ways_of}
use Rattle.diversions.specs.Places.{target_for}
use Rattle.diversions.proofs.Aliased.{by_place, none_behind}
use Rattle.diversions.proofs.ways.Ways.place_behind.Goals as goal

pub returns-then-is_empty : goal.returns-then-is_empty
returns-then-is_empty c =
    let ways = ways_of c.args.self.now in
    let path = c.args.path.now in
    c.in_ok-place.ensures ∙ ap (λ (o : Option Diversion). resolved ways.aliases (target_for o c.args.user.now path)) (none_behind ways.aliases ways.entries path (c.is_empty.ensures.0 c.if-is_empty.true) c.requires.unlisted ∙ by_place ways path (sym c.requires.unlisted))
