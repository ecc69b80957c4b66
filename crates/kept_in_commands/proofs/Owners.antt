-- A package that lists a path of a place does so still when another package's list is written.
use Rattle.std.proofs.Common.{◌≡◌, ◌≢◌, inl, inr, ℕ, zero, suc, List, [], ◌∷◌, ◌++◌, Contains, filter, map, refl, sym, ap, ◌∙◌, arith}
use Rattle.std.specs.List.{fold}
use Rattle.std.specs.Ordering.{match_ordering, nat_cmp}
use Rattle.std.specs.Cmp.Lexicographic.{slice_cmp}
use Rattle.std.specs.Str.{bytes_eq}
use Rattle.std.specs.declared.cmp.Ordering.{Ordering}
use Rattle.std.specs.declared.cmp.Ordering.TheVariants.{Less, Equal, Greater}
use Rattle.std.proofs.lemmas.List.Elements.{Contains-append_cases, Contains-append_left, Contains-append_right}
use Rattle.std.proofs.lemmas.Map.Lookups.{exact_bytes}
use Rattle.host_core.specs.Paths.{Path}
use Rattle.diversions.specs.Ways.{Ways, place}
use Rattle.file_lists.specs.Owners.{listed, owners_in, owners_of}
use Rattle.file_lists.specs.Taking.{without_all}
use Rattle.file_lists.specs.Writing.{left_paths, package_list, with_list, without_places}
use Rattle.file_lists.specs.Owners.{paths_of}
use Rattle.file_lists.specs.declared.paths.Listed.{Listed}
use Rattle.file_lists.specs.declared.paths.PackageList.{PackageList}

-- an owner in one list is of its name
named_in : (n : List ℕ) (paths : List Path) (x : Listed) → Contains (map (listed n) paths) x → x.name ≡ n
named_in n [] x there = absurd (omega (arith, there.1))
named_in n (p ∷ ps) x (zero, lt, at) = ap (λ (l : Listed). l.name) (sym at)
named_in n (p ∷ ps) x (suc k, lt, at) = named_in n ps x (k, omega (arith, lt), at)

module _ (ways : Ways) (q : Path) (x : Listed) where
  abbrev pub Owns : List PackageList → Type 0
  Owns lists = Contains (owners_of ways lists q) x

  name_in : (l : PackageList) → Contains (owners_in ways q l) x → x.name ≡ l.name
  name_in l there = named_in l.name (filter (λ path. bytes_eq (place ways l.name path) q) l.paths) x there

  more : (l : PackageList) (lists : List PackageList) → Owns lists → Owns (l ∷ lists)
  more l lists owns = Contains-append_right (owners_in ways q l) (owners_of ways lists q) x owns

  here : (l : PackageList) (lists : List PackageList) → Contains (owners_in ways q l) x → Owns (l ∷ lists)
  here l lists there = Contains-append_left (owners_in ways q l) (owners_of ways lists q) x there

  -- another package's list is written
  module _ (name : List ℕ) (other : x.name ≢ name) (paths : List Path) where
    pub owns_with : (lists : List PackageList) → Owns lists → Owns (with_list name paths lists)
    owns_with [] owns = absurd (omega (arith, owns.1))
    owns_with (l ∷ lists) owns = by (slice_cmp nat_cmp name l.name) refl (owns_with lists)
      where
        by : (o : Ordering) → slice_cmp nat_cmp name l.name ≡ o → (Owns lists → Owns (with_list name paths lists))
            → Owns (match_ordering o (package_list name paths ∷ l ∷ lists) (package_list name paths ∷ lists) (l ∷ with_list name paths lists))
        by Less e rest = more (package_list name paths) (l ∷ lists) owns
        by Equal e rest = more (package_list name paths) lists (elim (Contains-append_cases (owners_in ways q l) (owners_of ways lists q) x owns) [
          | inl own ↦ absurd (other (name_in l own ∙ sym (exact_bytes name l.name e)))
          | inr later ↦ later
        ])
        by Greater e rest = elim (Contains-append_cases (owners_in ways q l) (owners_of ways lists q) x owns) [
          | inl own ↦ here l (with_list name paths lists) own
          | inr later ↦ more l (with_list name paths lists) (rest later)
        ]

  -- places leave the lists of others
  pub owns_without : (places : List Path) (names : List (List ℕ)) (lists : List PackageList) → (Contains names x.name → ⊥) → Owns lists → Owns (without_all ways places names lists)
  owns_without places [] lists none owns = owns
  owns_without places (n ∷ names) lists none owns =
      owns_without places names (without_places ways places n lists) (λ later. none (Contains-append_right (n ∷ []) names x.name later))
      (owns_with n (λ same. none (zero, omega arith, sym same)) (left_paths ways places n (paths_of lists n)) lists owns)
