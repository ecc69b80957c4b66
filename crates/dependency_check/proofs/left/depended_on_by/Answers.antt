use Rattle.std.proofs.Common.{◌≡◌, ℕ, Bool, subst, ap, ◌∙◌}
use Rattle.std.specs.Prelude.{MatchOption}
use Rattle.dependency_sets.specs.Choices.{IsFirst}
use Rattle.dependency_sets.specs.Sets.{has, stays}
use Rattle.dependency_check.specs.Left.{DependsBeside}
use Rattle.dependency_check.proofs.left.depended_on_by.Goals as goal

pub returns : goal.returns
returns c =
    let same : has c.in_ok-kept.kept.items ≡ stays (has c.args.installed.now) (has c.args.left.now) = λ i q. c.in_ok-kept.ensures q i in
    subst (λ (S : ℕ → Bool). MatchOption c.in_ok-first.first ((y : ℕ) → DependsBeside c.args.packages.now (has c.args.installed.now) S c.args.number y → ⊥) (IsFirst (DependsBeside c.args.packages.now (has c.args.installed.now) S c.args.number))) (ap has c.as_slice.ensures.value ∙ same) c.in_ok-first.ensures
