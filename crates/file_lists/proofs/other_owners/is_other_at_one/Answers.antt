use Rattle.std.proofs.Common.{◌∙◌, sym, subst, List, arith, Contains}
use Rattle.std.proofs.lemmas.List.{take_all}
use Rattle.file_lists.specs.declared.spot.Spot.{Spot}
use Rattle.file_lists.proofs.OtherOwners.{other_told}
use Rattle.file_lists.proofs.other_owners.is_other_at_one.Goals as goal

pub returns : goal.returns
returns c = λ spot has. c.loop-spot.invariant spot (subst (λ (l : List Spot). Contains l spot) (sym (take_all c.loop-spot.spot-index c.args.spots.now (omega (arith, c.loop-spot-test.false)))) has)

pub returns-then-branch : goal.returns-then-branch
returns-then-branch c = other_told c.args.diversions.now.ways c.args.at.now c.args.name.now c.args.lists.now _ (sym c.in_ok-is_other_at.ensures ∙ c.if-branch.true)
