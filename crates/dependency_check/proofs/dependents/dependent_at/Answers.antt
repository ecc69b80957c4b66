use Rattle.std.proofs.Common.{sym, ◌∙◌}
use Rattle.dependency_check.proofs.DependentLaws.{dependent_is}
use Rattle.dependency_check.proofs.dependents.dependent_at.Goals as goal

pub returns : goal.returns
returns c = dependent_is c.args.packages.now c.args.incoming.now c.args.number c.args.of.now c.requires.within c.requires.at (sym c.plays.ensures ∙ c.if-not-plays.false) c.in_ok-removing.removing c.named_for.result c.in_ok-removing.ensures c.named_for.ensures
