-- What goes of the old paths isn't the administration's.
use Rattle.std.proofs.Common.{◌≡◌, ℕ, Bool, true, false, not, List, [], ◌∷◌, refl, sym, ap, ◌∙◌, inl, inr}
use Rattle.std.specs.Prelude.{◌||◌, IsTrue}
use Rattle.std.specs.List.{list_any}
use Rattle.std.specs.Str.{bytes_eq}
use Rattle.std.proofs.lemmas.Bool.{false≢true}
use Rattle.host_core.specs.Paths.{Path}
use Rattle.administration.specs.Places.{home_path, is_within}
use Rattle.diversions.specs.Ways.{is_led_to, place, Ways}
use Rattle.file_lists.specs.Owners.{has_other_owner}
use Rattle.file_lists.specs.declared.paths.PackageList.{PackageList}
use Rattle.file_removal.specs.declared.leaving.Leaving.{Leaving}
use Rattle.list_changes.specs.Leaving.{is_place_of, leaving_at, leaving_of}
use Rattle.package_tree.proofs.Ordered.{none_in, first_or_later}
use Rattle.listed_files.specs.Closing.{SparesAdministration}

-- of these tests the third holds for nothing that goes
third_fails : (a b c d : Bool) → not (a || (b || (c || d))) ≡ true → c ≡ false
third_fails true b c d goes = absurd (false≢true goes)
third_fails false true c d goes = absurd (false≢true goes)
third_fails false false true d goes = absurd (false≢true goes)
third_fails false false false d goes = refl

goes_is : (b : Bool) → IsTrue b → b ≡ true
goes_is b is = is

module _ (ways : Ways) (lists : List PackageList) (name : List ℕ) (to_come conffiles : List Path) where
  one_spares : (path : Path) → IsTrue (leaving_at ways lists name to_come conffiles path).goes → is_within home_path (place ways name path) ≡ false
  one_spares path goes =
      let at = place ways name path in
      third_fails (list_any (bytes_eq path) conffiles) (is_led_to ways at) (is_within home_path at) (is_place_of ways name to_come at || has_other_owner ways lists name at) (goes_is _ goes)

  pub leaving_spares : (listed : List Path) → SparesAdministration (leaving_of ways lists name to_come conffiles listed)
  leaving_spares [] x has goes = absurd (none_in x has)
  leaving_spares (path ∷ listed) x has goes = elim (first_or_later (leaving_at ways lists name to_come conffiles path) (leaving_of ways lists name to_come conffiles listed) x has) [
    | inl same ↦ ap (λ (y : Leaving). is_within home_path y.place) (sym same) ∙ one_spares path (ap (λ (y : Leaving). y.goes) same ∙ goes_is _ goes)
    | inr later ↦ leaving_spares listed x later goes
  ]
