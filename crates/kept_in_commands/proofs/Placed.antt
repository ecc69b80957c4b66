-- A package that has a place has it by other diversions and aliases too that lead its path there.
use Rattle.std.proofs.Common.{◌≡◌, inl, inr, ℕ, zero, suc, Bool, true, false, cond, List, [], ◌∷◌, Contains, filter, map, refl, sym, ap, ◌∙◌, arith}
use Rattle.std.specs.Str.{bytes_eq}
use Rattle.std.proofs.lemmas.List.Elements.{Contains-append_cases, Contains-append_left, Contains-append_right}
use Rattle.host_core.specs.Paths.{Path}
use Rattle.diversions.specs.Ways.{Ways, place}
use Rattle.file_lists.specs.Owners.{listed, owners_in, owners_of}
use Rattle.file_lists.specs.declared.paths.Listed.{Listed}
use Rattle.file_lists.specs.declared.paths.PackageList.{PackageList}
use Rattle.kept_in_commands.proofs.Owners.{Owns}

module _ (old new : Ways) (q : Path) (x : Listed) (same : place new x.name x.path ≡ place old x.name x.path) where
  module _ (n : List ℕ) where
    abbrev has_place : Ways → Path → Bool
    has_place ways path = bytes_eq (place ways n path) q

    -- the path itself has the place by the new ones
    this : (p : Path) → listed n p ≡ x → has_place old p ≡ true → has_place new p ≡ true
    this p at is = ap (λ (y : Listed). bytes_eq (place new y.name y.path) q) at ∙ ap (λ (r : Path). bytes_eq r q) same ∙ sym (ap (λ (y : Listed). bytes_eq (place old y.name y.path) q) at) ∙ is

    past : (b : Bool) (p : Path) (ps : List Path) → Contains (map (listed n) ps) x → Contains (map (listed n) (cond b (p ∷ ps) ps)) x
    past true p ps (k, lt, at) = (suc k, omega (arith, lt), at)
    past false p ps there = there

    in_paths : (paths : List Path) → Contains (map (listed n) (filter (has_place old) paths)) x → Contains (map (listed n) (filter (has_place new) paths)) x
    in_paths [] there = there
    in_paths (p ∷ ps) there = by (has_place old p) refl there (in_paths ps)
      where
        first : (b : Bool) → b ≡ true → listed n p ≡ x → Contains (map (listed n) (cond b (p ∷ filter (has_place new) ps) (filter (has_place new) ps))) x
        first true is at = (zero, omega arith, at)
        first false is at = absurd (let e : false ≡ true = is in cc)

        by : (b : Bool) → has_place old p ≡ b → Contains (map (listed n) (cond b (p ∷ filter (has_place old) ps) (filter (has_place old) ps))) x
            → (Contains (map (listed n) (filter (has_place old) ps)) x → Contains (map (listed n) (filter (has_place new) ps)) x) → Contains (map (listed n) (cond (has_place new p) (p ∷ filter (has_place new) ps) (filter (has_place new) ps))) x
        by true is (zero, lt, at) rest = first (has_place new p) (this p at is) at
        by true is (suc k, lt, at) rest = past (has_place new p) p (filter (has_place new) ps) (rest (k, omega (arith, lt), at))
        by false is there rest = past (has_place new p) p (filter (has_place new) ps) (rest there)

  pub owns_by : (lists : List PackageList) → Owns old q x lists → Owns new q x lists
  owns_by [] owns = owns
  owns_by (l ∷ lists) owns = elim (Contains-append_cases (owners_in old q l) (owners_of old lists q) x owns) [
    | inl own ↦ Contains-append_left (owners_in new q l) (owners_of new lists q) x (in_paths l.name l.paths own)
    | inr later ↦ Contains-append_right (owners_in new q l) (owners_of new lists q) x (owns_by lists later)
  ]
