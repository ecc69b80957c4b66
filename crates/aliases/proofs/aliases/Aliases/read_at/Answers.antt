use Rattle.std.proofs.Common.{sym, ◌∙◌}
use Rattle.aliases.proofs.Progressing.{looked_known, looked_unplaced, looked_unlinked, looked_found}
use Rattle.aliases.proofs.aliases.Aliases.read_at.Goals as goal

pub returns-then-has-clause-looked : goal.returns-then-has-clause-looked
returns-then-has-clause-looked g c = looked_known _ _ c.args.way.now c.args.self.now (sym c.has.ensures ∙ c.if-has.true)

pub returns-in_default-clause-looked : goal.returns-in_default-clause-looked
returns-in_default-clause-looked g c = looked_unplaced _ _ c.args.way.now c.args.self.now c.in_ok-place.field-0 c.in_ok-place.ensures c.in_default.is

pub returns-in_default-2-clause-looked : goal.returns-in_default-2-clause-looked
returns-in_default-2-clause-looked g c =
    looked_unlinked _ _ c.args.way.now c.in-Some.place c.args.self.now c.in_ok-place.field-0 c.in_ok-target.field-0 c.in_ok-place.ensures c.in-Some.is c.in_ok-target.ensures.looks.found c.in_default-2.is

pub returns-clause-looked : goal.returns-clause-looked
returns-clause-looked g c =
    looked_found _ _ c.args.way.now c.in-Some.place c.in-Some-2.target c.args.self.now c.push.new.self c.in_ok-place.field-0 c.in_ok-target.field-0 c.in_ok-place.ensures c.in-Some.is c.in_ok-target.ensures.looks.found c.in-Some-2.is (sym c.has.ensures ∙ c.if-has.false) c.in_ok-push.ensures.ok
