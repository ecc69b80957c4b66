-- Packages that lose places.
use Rattle.std.proofs.Common.{◌≡◌, ◌≢◌, inl, inr, ℕ, zero, suc, Bool, true, false, not, cond, List, [], ◌∷◌, filter, Contains, refl, sym, ap, ◌∙◌, arith}
use Rattle.std.specs.List.{list_any}
use Rattle.std.specs.Str.{bytes_eq}
use Rattle.std.proofs.lemmas.Bool.{and_parts, true≢false}
use Rattle.std.proofs.lemmas.List.Elements.{Contains-append_cases, Contains-append_left, Contains-append_right}
use Rattle.std.proofs.lemmas.Slice.Eq.{bytes_eq-Decides}
use Rattle.texts.specs.PackageNames.{is_package_name}
use Rattle.host_core.specs.Paths.{Path}
use Rattle.diversions.specs.Ways.{Ways}
use Rattle.file_lists.specs.Owners.{paths_of}
use Rattle.file_lists.specs.declared.paths.PackageList.{PackageList}
use Rattle.unpack_commit.specs.Takeover.{is_at, losers}
use Rattle.unpack_engine.specs.Others.{is_other_package, yields_beside}

pub among_kept : {X : Type 0} (keep : X → Bool) (xs : List X) (y : X) → Contains (filter keep xs) y → Contains xs y
among_kept keep [] y has = has
among_kept keep (x ∷ xs) y has = by (keep x) (λ later. among_kept keep xs y later) has
  where
    by : (b : Bool) → (Contains (filter keep xs) y → Contains xs y) → Contains (cond b (x ∷ filter keep xs) (filter keep xs)) y → Contains (x ∷ xs) y
    by true rest there = elim (Contains-append_cases (x ∷ []) (filter keep xs) y there) [
      | inl one ↦ Contains-append_left (x ∷ []) xs y one
      | inr later ↦ Contains-append_right (x ∷ []) xs y (rest later)
    ]
    by false rest there = Contains-append_right (x ∷ []) xs y (rest there)

-- what a filter keeps passes it
pub kept_passes : {X : Type 0} (keep : X → Bool) (xs : List X) (y : X) → Contains (filter keep xs) y → keep y ≡ true
kept_passes keep [] y has = absurd (omega (arith, has.1))
kept_passes keep (x ∷ xs) y has = by (keep x) refl (λ h. kept_passes keep xs y h) has
  where
    by : (b : Bool) → keep x ≡ b → (Contains (filter keep xs) y → keep y ≡ true) → Contains (cond b (x ∷ filter keep xs) (filter keep xs)) y → keep y ≡ true
    by true is rest (zero, lt, same) = ap keep (sym same) ∙ is
    by true is rest (suc k, lt, same) = rest (k, omega (arith, lt), same)
    by false is rest there = rest there

-- a package that loses places is another one, by the name of a package, and lists a path
module _ (ways : Ways) (places : List Path) (lists : List PackageList) (own : List ℕ) (yields : List (List ℕ)) (q : List ℕ) (has : Contains (losers ways places lists (yields_beside own yields)) q) where
  parts : (is_package_name q ≡ true) × (not (bytes_eq q own) ≡ true)
  parts = and_parts (is_package_name q) (not (bytes_eq q own)) (kept_passes (is_other_package own) yields q (among_kept _ (yields_beside own yields) q has))

  pub loser_named : is_package_name q ≡ true
  loser_named = parts.0

  pub loser_other : q ≢ own
  loser_other same = absurd (true≢false (sym parts.1 ∙ ap not ((bytes_eq-Decides q own).1 same)))

  pub loser_lists : (path : Path) × Contains (paths_of lists q) path
  loser_lists = some_of (paths_of lists q) (kept_passes (λ name. list_any (is_at ways places name) (paths_of lists name)) (yields_beside own yields) q has)
    where
      some_of : (paths : List Path) → list_any (is_at ways places q) paths ≡ true → (path : Path) × Contains paths path
      some_of [] any = absurd (true≢false (sym any))
      some_of (path ∷ rest) any = (path, (zero, omega arith, refl))
