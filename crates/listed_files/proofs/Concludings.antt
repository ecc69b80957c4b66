-- What records need stays while places leave lists and names are cleared.
use Rattle.std.proofs.Common.{◌≡◌, inl, inr, ℕ, true, List, ◌∷◌, ◌++◌, get_or, nat_eq, codes, refl, sym, ap, subst, ◌∙◌, arith}
use Rattle.std.specs.Prelude.{◌||◌}
use Rattle.std.specs.List.{starts_with}
use Rattle.std.specs.Str.{bytes_eq}
use Rattle.std.proofs.lemmas.Bool.{or_cases}
use Rattle.std.proofs.lemmas.Slice.Eq.{bytes_eq-Decides}
use Rattle.host_core.specs.Paths.{Path}
use Rattle.host_core.specs.World.{World, IsDirectory, SameOn}
use Rattle.administration.specs.Places.{home_path, is_within, status_path, temporary, updates_path}
use Rattle.administration.proofs.Within.{below_within, rest_of}
use Rattle.diversions.specs.Ways.{Ways}
use Rattle.file_lists.specs.declared.paths.PackageList.{PackageList}
use Rattle.file_lists.specs.Taking.{IsNoList}
use Rattle.status_db.specs.Recorded.{Recorded}
use Rattle.status_db.specs.Held.{IsKept, is_record_place}
use Rattle.status_db.proofs.NotedWorlds.{kept_on}
use Rattle.listed_files.specs.Closing.{HasReleased}
use Rattle.listed_files.specs.Concluding.{AreElsewhere}
use Rattle.listed_files.proofs.Areas.{released_keeps}

-- what stands there may be no list's name: it has another byte where lists have the first of `info`
byte : Path → ℕ
byte p = get_or p 14 0

no_list_by : (q : Path) (from : List Path) → (byte q ≡ 105 → ⊥) → IsNoList from q
unfolding byte
no_list_by q from other name has = (λ e. other (ap byte e), λ e. other (ap byte e))

record_within : (q : Path) → is_record_place q ≡ true → (is_within home_path q ≡ true) × (byte q ≡ 105 → ⊥)
unfolding byte
record_within q is = elim (or_cases (bytes_eq q status_path) (bytes_eq q (temporary status_path) || starts_with nat_eq q (updates_path ++ codes "/")) is) [
  | inl e ↦ at status_path ((bytes_eq-Decides q status_path).0 e) refl (λ b. absurd (omega (arith, b)))
  | inr more ↦ elim (or_cases (bytes_eq q (temporary status_path)) (starts_with nat_eq q (updates_path ++ codes "/")) more) [
    | inl e ↦ at (temporary status_path) ((bytes_eq-Decides q (temporary status_path)).0 e) refl (λ b. absurd (omega (arith, b)))
    | inr below ↦
        let rest = rest_of q (updates_path ++ codes "/") below in
        at (updates_path ++ 47 ∷ rest.0) rest.1 (below_within home_path (codes "updates/" ++ rest.0)) (λ b. absurd (omega (arith, b)))
  ]
]
  where
    at : (p : Path) → q ≡ p → is_within home_path p ≡ true → (byte p ≡ 105 → ⊥) → (is_within home_path q ≡ true) × (byte q ≡ 105 → ⊥)
    at p e within other = (ap (is_within home_path) e ∙ within, λ b. other (sym (ap byte e) ∙ b))

module _ (ways : Ways) (places from : List Path) (had : List PackageList) (names : List Path) (old mid : World) (elsewhere : AreElsewhere names) (has : HasReleased ways places from had names old mid) where
  stays : (q : Path) → is_within home_path q ≡ true → (byte q ≡ 105 → ⊥) → mid q ≡ old q
  stays q within other = released_keeps ways places from had names old mid q has (no_list_by q from other) (elsewhere q within)

  same : SameOn is_record_place old mid
  same q is = let r = record_within q is in stays q r.0 r.1

  directory : (q : Path) → is_within home_path q ≡ true → (byte q ≡ 105 → ⊥) → IsDirectory (old q) → IsDirectory (mid q)
  directory q within other dir = subst IsDirectory (sym (stays q within other)) dir

  pub kept_still : (d : Recorded) → IsKept d old → IsKept d mid
  unfolding byte
  kept_still d kept = kept_on old mid d.records d.notes same (directory home_path refl (λ b. absurd (omega (arith, b))) kept.unblocked.home)
      (directory updates_path refl (λ b. absurd (omega (arith, b))) kept.unblocked.updates) kept
