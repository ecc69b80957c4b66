use Rattle.std.proofs.Common.{◌↔◌, ◌⊎◌, List, Contains, subst, arith}
use Rattle.std.proofs.lemmas.List.{take_all}
use Rattle.host_core.specs.Paths.{Path}
use Rattle.list_changes.specs.NewList.{IsAboveOne}
use Rattle.list_changes.proofs.Listings.{above_more}
use Rattle.list_changes.proofs.parents.add_all_parents.Goals as goal

pub loop-path-preserved : goal.loop-path-preserved
loop-path-preserved c =
    above_more c.args.of.now c.loop-path.path-index c.path-item.result c.args.paths.now c.loop-path.paths c.add_parents.new.paths c.loop-path-test.true c.path-item.is c.loop-path.invariant c.in_ok-add_parents.ensures

pub returns : goal.returns
returns c = λ q. subst (λ (l : List Path). Contains c.loop-path.paths q ↔ (Contains c.args.paths.now q ⊎ IsAboveOne q l)) (take_all c.loop-path.path-index c.args.of.now (omega arith)) (c.loop-path.invariant q)
