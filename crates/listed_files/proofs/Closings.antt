-- What stands in the administration's directory while old paths go, and at the temporary names of lists that lost places.
use Rattle.std.proofs.Common.{◌≡◌, inl, inr, true, false, List, [], ◌∷◌, ◌++◌, nat_eq, IsTrue, sym, ap, ◌∙◌}
use Rattle.std.specs.List.{starts_with}
use Rattle.std.specs.Str.{bytes_eq}
use Rattle.std.proofs.lemmas.Bool.{or_right, true≢false}
use Rattle.host_core.specs.Paths.{Path, is_below_administration}
use Rattle.host_core.specs.World.{World}
use Rattle.host_core.specs.Host.{State, AtEachMoment}
use Rattle.host_core.proofs.Moments.{since_now}
use Rattle.administration.specs.Places.{home_path, is_within}
use Rattle.diversions.specs.Ways.{Ways}
use Rattle.file_lists.specs.declared.paths.PackageList.{PackageList}
use Rattle.file_lists.specs.Taking.{IsTaking}
use Rattle.file_lists.specs.Writing.{IsListReady}
use Rattle.file_removal.specs.declared.leaving.Leaving.{Leaving}
use Rattle.file_removal.specs.Clearing.{IsRetiring}
use Rattle.file_removal.specs.Removal.{none_stays, IsRemoving, IsSpared, Removed}
use Rattle.file_removal.proofs.Leavings.{goes_listed, spared_stays}
use Rattle.listed_files.specs.Closing.{AreSparesLoose, SparesAdministration}
use Rattle.listed_files.specs.Concluding.{AreElsewhere}
use Rattle.listed_files.proofs.Listings.{ready_still}

pub below_within : (q : Path) → is_below_administration q ≡ true → is_within home_path q ≡ true
below_within q below = or_right (bytes_eq q home_path) (starts_with nat_eq q (home_path ++ 47 ∷ [])) below

-- the old version's paths go, and the administration stays
pub removed_stays : (declined : Path → Type 0) (xs : List Leaving) (v w : World) (q : Path) → SparesAdministration xs → Removed declined xs v w → is_below_administration q ≡ true → w q ≡ v q
removed_stays declined xs v w q spares removed below = spared_stays removed.0 false v xs w q removed.2
    (λ x has goes e. true≢false (sym (below_within q below) ∙ ap (is_within home_path) (sym e) ∙ spares x has goes))

-- so does all within its directory, and while they go, or what stands at names elsewhere
module _ (xs : List Leaving) (v w : World) (spares : SparesAdministration xs) where
  none_goes : (q : Path) → is_within home_path q ≡ true → IsSpared xs q
  none_goes q within x has goes e = true≢false (sym within ∙ ap (is_within home_path) (sym e) ∙ spares x has goes)

  pub removed_inside : (declined : Path → Type 0) → Removed declined xs v w → (q : Path) → is_within home_path q ≡ true → w q ≡ v q
  removed_inside declined removed q within = spared_stays removed.0 false v xs w q removed.2 (none_goes q within)

  pub removing_inside : IsRemoving xs v w → (q : Path) → is_within home_path q ≡ true → w q ≡ v q
  removing_inside removing q within = elim (removing.each q) [
    | inl same ↦ same
    | inr going ↦ let listed = (goes_listed none_stays false v xs q going.0).1 in absurd (none_goes q within listed.0 listed.1 listed.2 listed.3)
  ]

pub retiring_inside : (names : List Path) (v w : World) → AreElsewhere names → IsRetiring names v w → (q : Path) → is_within home_path q ≡ true → w q ≡ v q
retiring_inside names v w elsewhere is q within = elim (is.each q) [
  | inl same ↦ same
  | inr going ↦ absurd (true≢false (sym going.0 ∙ elsewhere q within))
]

pub ready_removed : (declined : Path → Type 0) (name : Path) (xs : List Leaving) (v w : World) → SparesAdministration xs → Removed declined xs v w → IsListReady name v → IsListReady name w
ready_removed declined name xs v w spares removed ready = ready_still name v w (λ q below. removed_stays declined xs v w q spares removed below) ready

-- what holds at each moment of taking places holds in its end
pub spares_loose : (ways : Ways) (places from : List Path) (had : List PackageList) (a b : State) → AtEachMoment (IsTaking ways places from had) a b → IsTrue b.honest → AreSparesLoose from b.world
spares_loose ways places from had a b since h = (since_now (λ so_far. IsTaking ways places from had a.world) a b since h).spares
