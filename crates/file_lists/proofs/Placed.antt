-- The places of listed paths.
use Rattle.std.proofs.Common.{◌≡◌, ◌⊎◌, inl, inr, ℕ, zero, suc, Bool, true, false, cond, List, [], ◌∷◌, map, get_or, refl, sym, ap, subst, ◌∙◌, arith, Contains}
use Rattle.std.specs.Str.{bytes_eq}
use Rattle.std.proofs.lemmas.List.Elements.{Contains-append_left, Contains-append_right, Contains-append_cases}
use Rattle.std.proofs.lemmas.Slice.Eq.{bytes_eq-Decides}
use Rattle.host_core.specs.Paths.{Path}
use Rattle.diversions.specs.Ways.{Ways, place}
use Rattle.file_lists.specs.declared.paths.PackageList.{PackageList}
use Rattle.file_lists.specs.Increasing.{AreIncreasing}
use Rattle.file_lists.specs.Owners.{names_of, paths_of, places_in, places_of_list}
use Rattle.file_lists.proofs.Increasing.{get_or_any}
use Rattle.file_lists.proofs.Tables.{apart, has_name, no_paths}

mapped : (f : Path → Path) (xs : List Path) (x : Path) → Contains xs x → Contains (map f xs) (f x)
mapped f [] x has = absurd (omega (arith, has.1))
mapped f (y ∷ xs) x (zero, lt, is) = (zero, omega arith, ap f is)
mapped f (y ∷ xs) x (suc i, lt, is) = (let rest = mapped f xs x (i, omega (arith, lt), is) in (suc rest.0, omega (arith, rest.1), rest.2))

unmapped : (f : Path → Path) (xs : List Path) (q : Path) → Contains (map f xs) q → (x : Path) × Contains xs x × (f x ≡ q)
unmapped f [] q has = absurd (omega (arith, has.1))
unmapped f (y ∷ xs) q (zero, lt, is) = (y, (zero, omega arith, refl), is)
unmapped f (y ∷ xs) q (suc i, lt, is) = (let rest = unmapped f xs q (i, omega (arith, lt), is) in (rest.0, (suc rest.1.0, omega (arith, rest.1.1), rest.1.2), rest.2))

-- a listed path's place is among the places
pub place_listed : (ways : Ways) (lists : List PackageList) (name path : Path) → Contains (paths_of lists name) path → Contains (places_in ways lists) (place ways name path)
place_listed ways [] name path has = absurd (omega (arith, has.1))
place_listed ways (l ∷ lists) name path has = by (bytes_eq name l.name) refl (place_listed ways lists name path) has
  where
    by : (b : Bool) → bytes_eq name l.name ≡ b → (Contains (paths_of lists name) path → Contains (places_in ways lists) (place ways name path)) → Contains (cond b l.paths (paths_of lists name)) path → Contains (places_in ways (l ∷ lists)) (place ways name path)
    by true e rest here =
        Contains-append_left (places_of_list ways l) (places_in ways lists) (place ways name path)
        (subst (λ (n : Path). Contains (places_of_list ways l) (place ways n path)) (sym ((bytes_eq-Decides name l.name).0 e)) (mapped (place ways l.name) l.paths path here))
    by false e rest there = Contains-append_right (places_of_list ways l) (places_in ways lists) (place ways name path) (rest there)

-- a place among them is that of a listed path
pub listed_place : (ways : Ways) (lists : List PackageList) (q : Path) → AreIncreasing (names_of lists) → Contains (places_in ways lists) q → (name path : Path) × Contains (paths_of lists name) path × (place ways name path ≡ q)
listed_place ways [] q order has = absurd (omega (arith, has.1))
listed_place ways (l ∷ lists) q order has = elim (Contains-append_cases (places_of_list ways l) (places_in ways lists) q has) [
  | inl here ↦ (let x = unmapped (place ways l.name) l.paths q here in
      (l.name, x.0, subst (λ b. Contains (cond b l.paths (paths_of lists l.name)) x.0) (sym ((bytes_eq-Decides l.name l.name).1 refl)) x.1, x.2))
  | inr there ↦ (let x = listed_place ways lists q order.1 there in
      (x.0, x.1, later x.0 x.1 (has_name lists x.0) x.2, x.3))
]
  where
    later : (name path : Path) → (Contains (names_of lists) name ⊎ (Contains (names_of lists) name → ⊥)) → Contains (paths_of lists name) path → Contains (cond (bytes_eq name l.name) l.paths (paths_of lists name)) path
    later name path (inl named) listed =
        subst (λ b. Contains (cond b l.paths (paths_of lists name)) path) (sym (apart l.name name (names_of lists) order.0 named.0 named.1 ((bytes_eq-Decides name (get_or (names_of lists) named.0 [])).1 (sym named.2 ∙ get_or_any (names_of lists) named.0 name [] named.1)))) listed
    later name path (inr none) listed = absurd (let nothing = subst (λ ps. Contains ps path) (no_paths lists name none) listed in omega (arith, nothing.1))
