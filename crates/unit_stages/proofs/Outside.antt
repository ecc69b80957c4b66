-- Parts outside the directory of the administration leave all in it as it is.
use Rattle.std.proofs.Common.{◌≡◌, inl, inr, zero, Bool, true, cond, List, [], ◌∷◌, refl, sym, ap, ◌∙◌, arith}
use Rattle.std.specs.List.{All}
use Rattle.std.proofs.lemmas.Bool.{true≢false}
use Rattle.std.proofs.lemmas.List.Elements.{Contains-append_right}
use Rattle.host_core.specs.Paths.{Path}
use Rattle.host_core.specs.World.{World, IsDirectory}
use Rattle.administration.specs.Places.{home_path, is_within}
use Rattle.conffiles.specs.Settling.{AreSettled, AreSettling, CanSettle}
use Rattle.conffiles.specs.declared.entries.Settled.{Settled}
use Rattle.file_removal.specs.Clearing.{cleared, Cleared, IsClearing}
use Rattle.file_removal.specs.Removal.{GoesBy, IsRemovingBy, RemovedUnless, Staying, none_stays}
use Rattle.file_removal.specs.declared.leaving.Leaving.{Leaving}
use Rattle.listed_files.specs.Closing.{SparesAdministration}
use Rattle.listed_files.specs.Concluding.{AreElsewhere}
use Rattle.unit_stages.proofs.ConffileNames.{within_none}

-- all within the directory is as before
abbrev pub IsOutside : World → World → Type 0
IsOutside v w = (q : Path) → is_within home_path q ≡ true → w q ≡ v q

-- listed paths

none_goes : (stays : Staying) (d : Bool) (v : World) (xs : List Leaving) (q : Path) → SparesAdministration xs → is_within home_path q ≡ true → GoesBy stays d v xs q → ⊥
none_goes stays d v [] q spares within goes = goes
none_goes stays d v (x ∷ xs) q spares within (inl later) = none_goes stays d v xs q (λ y has goes. spares y (Contains-append_right (x ∷ []) xs y has) goes) within later
none_goes stays d v (x ∷ xs) q spares within (inr here) = true≢false (sym within ∙ ap (is_within home_path) (sym here.0) ∙ spares x (zero, omega arith, refl) here.1)

module _ (d : Bool) (xs : List Leaving) (v w : World) (spares : SparesAdministration xs) where
  pub removed_outside : (declined : Path → Type 0) → RemovedUnless declined d xs v w → IsOutside v w
  removed_outside declined removed q within = elim (removed.2.each q) [
    | inl gone ↦ absurd (none_goes removed.0 d v xs q spares within gone.0)
    | inr kept ↦ kept.1
  ]

  pub removing_outside : IsRemovingBy d xs v w → IsOutside v w
  removing_outside removing q within = elim (removing.each q) [
    | inl same ↦ same
    | inr gone ↦ absurd (none_goes none_stays d v xs q spares within gone.0)
  ]

-- names that are cleared

module _ (names : List Path) (v w : World) (elsewhere : AreElsewhere names) where
  pub cleared_outside : Cleared names v w → IsOutside v w
  cleared_outside is q within = is.each q ∙ ap (λ b. cond b (cleared (v q)) (v q)) (elsewhere q within)

  pub clearing_outside : IsClearing names v w → IsOutside v w
  clearing_outside is q within = elim (is.each q) [
    | inl same ↦ same
    | inr gone ↦ absurd (true≢false (sym gone.0 ∙ elsewhere q within))
  ]

-- conffiles

module _ (list : List Settled) (v w : World) (home : IsDirectory (v home_path)) (can : All (λ e. CanSettle e.path v) list) where
  pub settled_outside : AreSettled list v w → IsOutside v w
  settled_outside is q within = is.rest q (within_none list v home can q within)

  pub settling_outside : AreSettling list v w → IsOutside v w
  settling_outside is q within = is.rest q (within_none list v home can q within)
