-- Another package owns a place exactly where one of the owners is one.
use Rattle.std.proofs.Common.{◌≡◌, ◌⊎◌, ◌<◌, inl, inr, ℕ, zero, suc, Bool, true, false, not, ◌||◌, cond, List, [], ◌∷◌, map, filter, length, get_or, refl, sym, ap, subst, ◌∙◌, arith, Contains}
use Rattle.std.specs.List.{list_any, flat_map}
use Rattle.std.specs.Str.{bytes_eq}
use Rattle.std.proofs.lemmas.Bool.{false≢true, true≢false}
use Rattle.std.proofs.lemmas.List.Folds.{list_any-append}
use Rattle.host_core.specs.Paths.{Path}
use Rattle.aliases.specs.Aliases.{Alias, resolved}
use Rattle.diversions.specs.Ways.{Ways, place}
use Rattle.file_lists.specs.Index.{Keyed, row_of, spot_of, AreKeys, IsComplete, owner_if, owners_by_path, owners_of_slot, joined}
use Rattle.file_lists.specs.Others.{has_other, is_other_at}
use Rattle.file_lists.specs.Owners.{has_other_owner, listed, owners_in, owners_of}
use Rattle.file_lists.specs.declared.paths.Listed.{Listed}
use Rattle.file_lists.specs.declared.paths.PackageList.{PackageList}
use Rattle.file_lists.specs.declared.spot.Spot.{Spot}
use Rattle.file_lists.proofs.Gathering.{Grid, cell, grid_of, by_rows, owner_stands}

either : (a b : Bool) → a || b ≡ true → (a ≡ true) ⊎ (b ≡ true)
either true b is = inl refl
either false b is = inr is

this_or : (a b : Bool) → a ≡ true → a || b ≡ true
this_or true b is = refl
this_or false b is = absurd (false≢true is)

or_that : (a b : Bool) → b ≡ true → a || b ≡ true
or_that true b is = refl
or_that false b is = is

pub refuted : (b : Bool) → (b ≡ true → ⊥) → b ≡ false
refuted true none = absurd (none refl)
refuted false none = refl

-- Spot by spot.

module _ (P : Listed → Bool) where
  in_row : (row : List (List Listed)) (number : ℕ) → list_any P (get_or row number []) ≡ true → list_any P (joined row) ≡ true
  in_row [] zero some = some
  in_row [] (suc number) some = some
  in_row (x ∷ row) zero some = list_any-append P x (joined row) ∙ this_or (list_any P x) (list_any P (joined row)) some
  in_row (x ∷ row) (suc number) some = list_any-append P x (joined row) ∙ or_that (list_any P x) (list_any P (joined row)) (in_row row number some)

  in_grid : (grid : Grid) (slot number : ℕ) → list_any P (cell grid (spot_of slot number)) ≡ true → list_any P (flat_map joined grid) ≡ true
  in_grid [] zero number some = in_row [] number some
  in_grid [] (suc slot) number some = in_row [] number some
  in_grid (row ∷ grid) zero number some = list_any-append P (joined row) (flat_map joined grid) ∙ this_or (list_any P (joined row)) (list_any P (flat_map joined grid)) (in_row row number some)
  in_grid (row ∷ grid) (suc slot) number some = list_any-append P (joined row) (flat_map joined grid) ∙ or_that (list_any P (joined row)) (list_any P (flat_map joined grid)) (in_grid grid slot number some)

  of_row : (row : List (List Listed)) → list_any P (joined row) ≡ true → (number : ℕ) × (list_any P (get_or row number []) ≡ true)
  of_row [] some = absurd (false≢true some)
  of_row (x ∷ row) some = elim (either (list_any P x) (list_any P (joined row)) (sym (list_any-append P x (joined row)) ∙ some)) [
    | inl here ↦ (zero, here)
    | inr later ↦ (let found = of_row row later in (suc found.0, found.1))
  ]

  of_grid : (grid : Grid) → list_any P (flat_map joined grid) ≡ true → (spot : Spot) × (list_any P (cell grid spot) ≡ true)
  of_grid [] some = absurd (false≢true some)
  of_grid (row ∷ grid) some = elim (either (list_any P (joined row)) (list_any P (flat_map joined grid)) (sym (list_any-append P (joined row) (flat_map joined grid)) ∙ some)) [
    | inl here ↦ (let found = of_row row here in (spot_of zero found.0, found.1))
    | inr later ↦ (let found = of_grid grid later in (spot_of (suc found.0.list) found.0.path, found.1))
  ]

  some_of : (xs : List Listed) → list_any P xs ≡ true → (x : Listed) × ((rest : List Listed) × (xs ≡ x ∷ rest))
  some_of [] some = absurd (false≢true some)
  some_of (x ∷ rest) some = (x, (rest, refl))

module _ (ways : Ways) (at : Path) (name : List ℕ) (lists : List PackageList) where
  -- one is at a spot
  pub other_told : (spot : Spot) → is_other_at ways at name lists spot ≡ true → has_other_owner ways lists name at ≡ true
  other_told spot is = ap (has_other name) (by_rows ways at lists) ∙ in_grid (λ owner. not (bytes_eq owner.name name)) (grid_of ways at lists) spot.list spot.path is

  -- none is at those that the index names
  pub none_indexed : (keys : List Path) (index : Keyed) → AreKeys ways at keys → index.aliases ≡ ways.aliases → IsComplete index lists
      → ((key : Path) → Contains keys key → (spot : Spot) → Contains (row_of index.rows key) spot → is_other_at ways at name lists spot ≡ false) → has_other_owner ways lists name at ≡ false
  none_indexed keys index are same complete none = refuted (has_other_owner ways lists name at) (λ some.
      (let found = of_grid (λ owner. not (bytes_eq owner.name name)) (grid_of ways at lists) (sym (ap (has_other name) (by_rows ways at lists)) ∙ some) in
      let spot = found.0 in
      let shape = some_of (λ owner. not (bytes_eq owner.name name)) (cell (grid_of ways at lists) spot) found.1 in
      let owner = owner_stands ways at lists spot.list spot.path shape.0 shape.1.0 shape.1.1 in
      let there = subst (λ (l : List Alias). Contains (row_of index.rows (resolved l owner.path)) spot) same (complete spot.list spot.path owner.path owner.stands) in
      true≢false (sym found.1 ∙ none (resolved ways.aliases owner.path) (are owner.name owner.path owner.lies) spot there)))

-- What stands at a spot.

of_slot : (ways : Ways) (at : Path) (lists : List PackageList) (slot : ℕ) (l : PackageList) → slot < length lists → l ≡ get_or lists slot l → owners_of_slot ways at lists slot ≡ owners_by_path ways at l
of_slot ways at [] slot l lt is = absurd (omega (arith, lt))
of_slot ways at (x ∷ lists) zero l lt is = ap (owners_by_path ways at) (sym is)
of_slot ways at (x ∷ lists) (suc slot) l lt is = of_slot ways at lists slot l (omega (arith, lt)) is

pub own_path : (ways : Ways) (at : Path) (name n : List ℕ) (path : Path) → bytes_eq n name ≡ true → has_other name (owner_if ways at n path) ≡ false
own_path ways at name n path same = by (bytes_eq (place ways n path) at)
  where
    by : (b : Bool) → has_other name (cond b (listed n path ∷ []) []) ≡ false
    by true = ap (λ b. not b || false) same
    by false = refl

own_row : (ways : Ways) (at : Path) (name n : List ℕ) (paths : List Path) (number : ℕ) → bytes_eq n name ≡ true → has_other name (get_or (map (owner_if ways at n) paths) number []) ≡ false
own_row ways at name n [] zero same = refl
own_row ways at name n [] (suc number) same = refl
own_row ways at name n (p ∷ paths) zero same = own_path ways at name n p same
own_row ways at name n (p ∷ paths) (suc number) same = own_row ways at name n paths number same

-- in the package's own list
pub own_at : (ways : Ways) (at : Path) (name : List ℕ) (lists : List PackageList) (spot : Spot) (l : PackageList) → spot.list < length lists → l ≡ get_or lists spot.list l → bytes_eq l.name name ≡ true → is_other_at ways at name lists spot ≡ false
own_at ways at name lists spot l lt is same = ap (λ (row : List (List Listed)). has_other name (get_or row spot.path [])) (of_slot ways at lists spot.list l lt is) ∙ own_row ways at name l.name l.paths spot.path same

-- Of one list.

module _ (ways : Ways) (at : Path) (name : List ℕ) where
  pub own_none : (n : List ℕ) → bytes_eq n name ≡ true → (paths : List Path) → has_other name (map (listed n) paths) ≡ false
  own_none n same [] = refl
  own_none n same (p ∷ paths) = ap (λ b. not b || has_other name (map (listed n) paths)) same ∙ own_none n same paths

  pub lies_told : (n : List ℕ) → bytes_eq n name ≡ false → (paths : List Path) (path : Path) → Contains paths path → bytes_eq (place ways n path) at ≡ true → has_other name (map (listed n) (filter (λ path. bytes_eq (place ways n path) at) paths)) ≡ true
  lies_told n other [] path has there = absurd (omega (arith, has.1))
  lies_told n other (p ∷ paths) path has there = by (bytes_eq (place ways n p) at) refl (λ h. lies_told n other paths path h there) has
    where
      by : (b : Bool) → bytes_eq (place ways n p) at ≡ b → (Contains paths path → has_other name (map (listed n) (filter (λ path. bytes_eq (place ways n path) at) paths)) ≡ true) → Contains (p ∷ paths) path → has_other name (map (listed n) (cond b (p ∷ (filter (λ path. bytes_eq (place ways n path) at) paths)) (filter (λ path. bytes_eq (place ways n path) at) paths))) ≡ true
      by true e rest h = ap (λ b. not b || has_other name (map (listed n) (filter (λ path. bytes_eq (place ways n path) at) paths))) other
      by false e rest (zero, lt, is) = absurd (true≢false (sym there ∙ ap (λ (q : Path). bytes_eq (place ways n q) at) (sym is) ∙ e))
      by false e rest (suc i, lt, is) = rest (i, omega (arith, lt), is)

  pub none_lies : (n : List ℕ) (paths : List Path) → ((path : Path) → Contains paths path → bytes_eq (place ways n path) at ≡ false) → has_other name (map (listed n) (filter (λ path. bytes_eq (place ways n path) at) paths)) ≡ false
  none_lies n [] none = refl
  none_lies n (p ∷ paths) none =
      ap (λ b. has_other name (map (listed n) (cond b (p ∷ filter (λ path. bytes_eq (place ways n path) at) paths) (filter (λ path. bytes_eq (place ways n path) at) paths)))) (none p (zero, omega arith, refl))
      ∙ none_lies n paths (λ q has. none q (suc has.0, omega (arith, has.1), has.2))

  -- list after list
  pub list_told : (lists : List PackageList) (l : PackageList) → Contains lists l → has_other name (owners_in ways at l) ≡ true → has_other_owner ways lists name at ≡ true
  list_told [] l has is = absurd (omega (arith, has.1))
  list_told (x ∷ lists) l (zero, lt, same) is =
      list_any-append (λ owner. not (bytes_eq owner.name name)) (owners_in ways at x) (owners_of ways lists at)
      ∙ this_or (has_other name (owners_in ways at x)) (has_other_owner ways lists name at) (ap (λ (y : PackageList). has_other name (owners_in ways at y)) same ∙ is)
  list_told (x ∷ lists) l (suc i, lt, same) is =
      list_any-append (λ owner. not (bytes_eq owner.name name)) (owners_in ways at x) (owners_of ways lists at)
      ∙ or_that (has_other name (owners_in ways at x)) (has_other_owner ways lists name at) (list_told lists l (i, omega (arith, lt), same) is)

  pub lists_none : (lists : List PackageList) → ((l : PackageList) → Contains lists l → has_other name (owners_in ways at l) ≡ false) → has_other_owner ways lists name at ≡ false
  lists_none [] none = refl
  lists_none (x ∷ lists) none =
      list_any-append (λ owner. not (bytes_eq owner.name name)) (owners_in ways at x) (owners_of ways lists at)
      ∙ ap (λ b. b || has_other_owner ways lists name at) (none x (zero, omega arith, refl)) ∙ lists_none lists (λ l has. none l (suc has.0, omega (arith, has.1), has.2))
