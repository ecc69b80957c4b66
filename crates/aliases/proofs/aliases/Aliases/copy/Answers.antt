use Rattle.std.proofs.Common.{◌∙◌, ap, subst}
use Rattle.std.specs.String.{string_bytes}
use Rattle.host_core.specs.Paths.{Path}
use Rattle.aliases.specs.Aliases.{is_alias}
use Rattle.aliases.specs.Table.{is_place, IsTable}
use Rattle.aliases.proofs.Tables.{copied_here}
use Rattle.aliases.proofs.aliases.Aliases.copy.Goals as goal

pub insert-requires-clause-place : goal.insert-requires-clause-place
insert-requires-clause-place c =
    ap is_place (c.in_ok-text.ensures.ok ∙ c.as_str.ensures.value)
    ∙ (copied_here string_bytes c.loop-place.copied c.args.self.now c.loop-place.entries c.next.new.self (c.in-Some.place.now, c.in-Some.target.now) c.in-Some.ensures.steps c.loop-place.invariant (subst IsTable c.self.view_is c.self.invariant)).0

pub insert-requires-clause-new : goal.insert-requires-clause-new
insert-requires-clause-new c =
    ap (λ (p : Path). is_alias c.loop-place.copied p) (c.in_ok-text.ensures.ok ∙ c.as_str.ensures.value)
    ∙ (copied_here string_bytes c.loop-place.copied c.args.self.now c.loop-place.entries c.next.new.self (c.in-Some.place.now, c.in-Some.target.now) c.in-Some.ensures.steps c.loop-place.invariant (subst IsTable c.self.view_is c.self.invariant)).2
