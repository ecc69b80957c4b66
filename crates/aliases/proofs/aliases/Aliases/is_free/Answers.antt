use Rattle.std.proofs.Common.{subst}
use Rattle.std.specs.String.{string_bytes}
use Rattle.std.proofs.lemmas.Bool.{MatchBool-at_false, MatchBool-at_true}
use Rattle.host_core.specs.Paths.{Path}
use Rattle.aliases.specs.Aliases.{IsOn}
use Rattle.aliases.proofs.Tables.{alike_next, not_free}
use Rattle.aliases.proofs.aliases.Aliases.is_free.Goals as goal

pub returns-then-is_on : goal.returns-then-is_on
returns-then-is_on c =
    not_free string_bytes c.loop-place.entries c.next.new.self (c.in-Some.place.now, c.in-Some.field-0-1.now) c.args.self.now c.args.path.now c.in-Some.ensures.steps
    (subst (λ (p : Path). IsOn p c.args.path.now) c.as_str.ensures.value (MatchBool-at_true _ _ c.if-is_on.true c.is_on.ensures)) c.loop-place.invariant

pub loop-place-preserved : goal.loop-place-preserved
loop-place-preserved c =
    alike_next string_bytes c.loop-place.entries c.next.new.self (c.in-Some.place.now, c.in-Some.field-0-1.now) c.args.self.now c.args.path.now c.in-Some.ensures.steps
    (subst (λ (p : Path). IsOn p c.args.path.now → ⊥) c.as_str.ensures.value (MatchBool-at_false _ _ c.if-is_on.false c.is_on.ensures)) c.loop-place.invariant
