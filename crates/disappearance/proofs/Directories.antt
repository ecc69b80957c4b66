-- What stands at the places of listed paths.
use Rattle.std.proofs.Common.{◌≡◌, ◌<◌, ◌≤◌, ◌+◌, ◌&&◌, ℕ, Bool, true, false, List, Option, Some, None, get_or, length, take, refl, sym, ap, subst, ◌∙◌}
use Rattle.std.proofs.lemmas.List.{take_all}
use Rattle.std.proofs.lemmas.List.Folds.{list_all_at, list_all_more}
use Rattle.host_core.specs.Paths.{Path}
use Rattle.host_core.specs.World.{World, is_directory, kind_of}
use Rattle.host_core.specs.declared.node.Node.{Node}
use Rattle.host_core.specs.declared.node.Node.TheVariants.{File, Dir, Link}
use Rattle.diversions.specs.Ways.{place, Ways}
use Rattle.diversions.specs.Sights.{is_directory_kind}
use Rattle.disappearance.specs.Verdicts.{are_directories}

-- a directory by its kind
pub directory_kind : (n : Option Node) → is_directory_kind (kind_of n) ≡ is_directory n
directory_kind None = refl
directory_kind (Some (File bytes access)) = refl
directory_kind (Some (Dir access)) = refl
directory_kind (Some (Link target)) = refl

module _ (ways : Ways) (name : List ℕ) (w : World) (paths : List Path) where
  abbrev stands : Path → Bool
  stands path = is_directory (w (place ways name path))

  module _ (i : ℕ) (x : Path) (lt : i < length paths) (at : x ≡ get_or paths i x) (v : World) (same : v ≡ w) (is : Bool) (found : is ≡ is_directory (v (place ways name x))) where
    here : is ≡ stands (get_or paths i x)
    here = found ∙ ap (λ (u : World). is_directory (u (place ways name x))) same ∙ ap stands at

    pub directories_more : is ≡ true → are_directories ways name w (take i paths) ≡ true → are_directories ways name w (take (i + 1) paths) ≡ true
    directories_more so before = list_all_more stands paths i x lt ∙ ap (λ (b : Bool). b && stands (get_or paths i x)) before ∙ (sym here ∙ so)

    pub directories_stop : is ≡ false → are_directories ways name w paths ≡ false
    directories_stop away = list_all_at stands paths i x lt (sym here ∙ away)

  pub directories_all : (i : ℕ) → length paths ≤ i → are_directories ways name w (take i paths) ≡ true → are_directories ways name w paths ≡ true
  directories_all i end before = subst (λ (ps : List Path). are_directories ways name w ps ≡ true) (take_all i paths end) before
