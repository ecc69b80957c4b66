use Rattle.std.proofs.Common.{ℕ, arith, sym, ◌∙◌}
use Rattle.std.specs.Prelude.{IsTrue}
use Rattle.std.proofs.lemmas.Bool.{false≢true}
use Rattle.dependency_check.specs.Deconfigured.{of_role}
use Rattle.dependency_check.specs.Roles.{plays}
use Rattle.dependency_check.proofs.MeetingLaws.{none_below, those_at}
use Rattle.dependency_check.proofs.roles.first_of_role.Goals as goal

pub loop-number-preserved : goal.loop-number-preserved
loop-number-preserved c =
    let here = those_at (plays c.args.role c.args.incoming.now) c.args.packages.now c.loop-number.number c.index-packages-number.result (omega arith) (sym c.index-packages-number.is) in
    none_below (λ (y : ℕ). IsTrue (of_role c.args.role c.args.incoming.now c.args.packages.now y)) c.loop-number.number
    (λ t. false≢true (sym c.if-plays.false ∙ c.plays.ensures ∙ sym here ∙ t)) c.loop-number.invariant
