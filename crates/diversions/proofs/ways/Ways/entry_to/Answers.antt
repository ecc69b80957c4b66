use Rattle.std.proofs.Common.{◌∙◌, ap}
use Rattle.diversions.specs.Targets.{entry_named}
use Rattle.diversions.specs.Held.{ways_of}
use Rattle.diversions.proofs.Aliased.{named_to}
use Rattle.diversions.proofs.ways.Ways.entry_to.Goals as goal

pub returns-then-is_empty : goal.returns-then-is_empty
returns-then-is_empty c = c.entry_named.ensures ∙ ap (entry_named c.args.self.now.entries) c.as_str.ensures ∙ named_to (ways_of c.args.self.now) c.args.path.now (c.is_empty.ensures.0 c.if-is_empty.true)
