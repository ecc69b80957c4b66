use Rattle.std.proofs.Common.{◌≤◌, Bool, List, ap, arith, length, map, subst, ◌∙◌}
use Rattle.std.specs.Prelude.{IsTrue}
use Rattle.std.proofs.lemmas.List.{take_all}
use Rattle.dependency_sets.specs.Choices.{IsListing}
use Rattle.dependency_sets.specs.Sets.{has}
use Rattle.dependency_check.specs.Breaking.{states_breaks}
use Rattle.dependency_check.proofs.breaking.breakers_of.Goals as goal

pub returns : goal.returns
returns c =
    let end : length c.args.packages.now ≤ c.loop-of.of-index = omega (arith, c.loop-of-test.false) in
    subst (λ (l : List Bool). IsListing (λ x. IsTrue (has l x)) c.in_ok-list.list) (c.as_slice.ensures.value ∙ c.loop-of.invariant ∙ ap (map states_breaks) (take_all c.loop-of.of-index c.args.packages.now end)) c.in_ok-list.ensures
