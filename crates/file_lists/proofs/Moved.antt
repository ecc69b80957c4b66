-- The index, where a list comes in among the others.
use Rattle.std.proofs.Common.{◌≡◌, ℕ, zero, suc, ◌+◌, ◌-◌, ◌<◌, ◌≤◌, ◌%◌, List, Option, Some, None, [], ◌∷◌, ◌++◌, map, take, drop, length, get_or, subst, sym, refl, ap, ◌∙◌, ⊎_elim, Contains, arith}
use Rattle.std.specs.List.{insert}
use Rattle.std.proofs.Math.ListN.{set}
use Rattle.std.proofs.lemmas.Bool.{cases_lt, cases_eq}
use Rattle.std.proofs.lemmas.Bool.Decides.{nat_tests}
use Rattle.std.proofs.lemmas.List.{length-map, get_or_default}
use Rattle.std.proofs.lemmas.List.Edits.{map_over_more}
use Rattle.host_core.specs.Paths.{Path}
use Rattle.aliases.specs.Aliases.{Alias, resolved}
use Rattle.file_lists.specs.declared.paths.PackageList.{PackageList}
use Rattle.file_lists.specs.declared.spot.Spot.{Spot}
use Rattle.file_lists.specs.Index.{Keyed, path_number, row_of, row_for, spot_of, list_moved, spot_moved, paths_of_slot, HasRoom, HaveRoom, IsNumbered, IsComplete, IsIndexed, KeepsRows, StandsAt}
use Rattle.file_lists.specs.Writing.{IsEntered}
use Rattle.file_lists.proofs.Indexes.{stays, slot_within}

-- numbers

stays_below : (at count x : ℕ) → x < at → list_moved at count x ≡ x
stays_below at count x lt = grind (arith, nat_tests)

moves_above : (at count x : ℕ) → at ≤ x → x < count → list_moved at count x ≡ x + 1
moves_above at count x le lt = grind (arith, nat_tests)

-- rows

moved_at : {X : Type 0} (f : X → X) (xs : List X) (k : ℕ) (d e : X) → k < length xs → get_or (map f xs) k e ≡ f (get_or xs k d)
moved_at f [] k d e lt = absurd (omega (arith, lt))
moved_at f (x ∷ xs) zero d e lt = refl
moved_at f (x ∷ xs) (suc k) d e lt = moved_at f xs k d e (omega (arith, lt))

moved_in : {X : Type 0} (f : X → X) (xs : List X) (x : X) → Contains xs x → Contains (map f xs) (f x)
moved_in f xs x c = (c.0, subst (λ (n : ℕ). c.0 < n) (sym (length-map xs f)) c.1, moved_at f xs c.0 x (f x) c.1 ∙ ap f c.2)

row_moved : (f : Spot → Spot) (rows : List (List Spot)) (k : ℕ) → get_or (map (map f) rows) k [] ≡ map f (get_or rows k [])
row_moved f [] zero = refl
row_moved f [] (suc k) = refl
row_moved f (r ∷ rows) zero = refl
row_moved f (r ∷ rows) (suc k) = row_moved f rows k

rows_moved : (f : Spot → Spot) (rows : List (List Spot)) (key : Path) → row_of (map (map f) rows) key ≡ map f (row_of rows key)
rows_moved f rows key = ap (λ (n : ℕ). get_or (map (map f) rows) (path_number key % n) []) (length-map rows (map f)) ∙ row_moved f rows (path_number key % length rows)

-- what stood in the row of a path's key stands there by its new number
moved_there : (at count : ℕ) (old mid : Keyed) (path : Path) (spot : Spot) → HasRoom at count old mid → Contains (row_for old path) spot → Contains (row_for mid path) (spot_moved at count spot)
moved_there at count old mid path spot room has =
    subst (λ (l : List Alias). Contains (row_of mid.rows (resolved l path)) (spot_moved at count spot)) (sym room.aliases)
    (subst (λ (rows : List (List Spot)). Contains (row_of rows (resolved old.aliases path)) (spot_moved at count spot)) (sym room.rows)
    (subst (λ (row : List Spot). Contains row (spot_moved at count spot)) (sym (rows_moved (spot_moved at count) old.rows (resolved old.aliases path))) (moved_in (spot_moved at count) (row_for old path) spot has)))

-- the paths of lists below the place, at it and above it

paths_below : (lists : List PackageList) (at s : ℕ) (l : PackageList) → s < at → at ≤ length lists → paths_of_slot (insert lists at l) s ≡ paths_of_slot lists s
paths_below [] at s l lt le = absurd (omega (arith, lt, le))
paths_below (x ∷ lists) zero s l lt le = absurd (omega (arith, lt))
paths_below (x ∷ lists) (suc i) zero l lt le = refl
paths_below (x ∷ lists) (suc i) (suc s) l lt le = paths_below lists i s l (omega (arith, lt)) (omega (arith, le))

paths_here : (lists : List PackageList) (at : ℕ) (l : PackageList) → at ≤ length lists → paths_of_slot (insert lists at l) at ≡ l.paths
paths_here [] zero l le = refl
paths_here [] (suc i) l le = absurd (omega (arith, le))
paths_here (x ∷ lists) zero l le = refl
paths_here (x ∷ lists) (suc i) l le = paths_here lists i l (omega (arith, le))

paths_above : (lists : List PackageList) (at s : ℕ) (l : PackageList) → at ≤ s → at ≤ length lists → paths_of_slot (insert lists at l) (suc s) ≡ paths_of_slot lists s
paths_above [] zero s l below le = refl
paths_above [] (suc i) s l below le = absurd (omega (arith, le))
paths_above (x ∷ lists) zero s l below le = refl
paths_above (x ∷ lists) (suc i) zero l below le = absurd (omega (arith, below))
paths_above (x ∷ lists) (suc i) (suc s) l below le = paths_above lists i s l (omega (arith, below)) (omega (arith, le))

module _ (lists : List PackageList) (at : ℕ) (l : PackageList) (within : at ≤ length lists) where
  complete_inserted : (old mid new : Keyed) → IsComplete old lists → HasRoom at (length lists) old mid → KeepsRows mid new → ((number : ℕ) (path : Path) → IsNumbered l.paths number path → Contains (row_for new path) (spot_of at number)) → IsComplete new (insert lists at l)
  complete_inserted old mid new complete room kept here s number path stands = ⊎_elim
      (λ (below : s < at).
      stays mid new path (spot_of s number) kept
      (subst (λ (n : ℕ). Contains (row_for mid path) (spot_of n number)) (stays_below at (length lists) s below)
      (moved_there at (length lists) old mid path (spot_of s number) room
      (complete s number path (subst (λ (ps : List Path). IsNumbered ps number path) (paths_below lists at s l below within) stands)))))
      (λ (from : at ≤ s). ⊎_elim
      (λ (same : s ≡ at). subst (λ (n : ℕ). Contains (row_for new path) (spot_of n number)) (sym same)
      (here number path (subst (λ (ps : List Path). IsNumbered ps number path) (paths_here lists at l within) (subst (λ (n : ℕ). StandsAt (insert lists at l) n number path) same stands))))
      (λ ne. above s from ne stands)
      (cases_eq s at))
      (cases_lt s at)
    where
      above : (s : ℕ) → at ≤ s → (s ≡ at → ⊥) → StandsAt (insert lists at l) s number path → Contains (row_for new path) (spot_of s number)
      above zero from ne stands = absurd (omega (arith, from, ne))
      above (suc s) from ne stands =
          let behind : at ≤ s = omega (arith, from, ne) in
          let stood = subst (λ (ps : List Path). IsNumbered ps number path) (paths_above lists at s l behind within) stands in
          stays mid new path (spot_of (suc s) number) kept
          (subst (λ (n : ℕ). Contains (row_for mid path) (spot_of n number)) (moves_above at (length lists) s behind (slot_within lists s number path stood) ∙ omega arith)
          (moved_there at (length lists) old mid path (spot_of s number) room (complete s number path stood)))

  pub indexed_inserted : (old mid new : Option Keyed) → IsIndexed old lists → HaveRoom at (length lists) old mid → IsEntered mid l.paths at new → IsIndexed new (insert lists at l)
  indexed_inserted old mid None indexed room entered = tt
  indexed_inserted old None (Some new) indexed room entered = absurd entered
  indexed_inserted None (Some mid) (Some new) indexed room entered = absurd room
  indexed_inserted (Some old) (Some mid) (Some new) indexed room entered = complete_inserted old mid new indexed room entered.0 entered.1

-- a loop that writes over each of a list
pub written_more : {X : Type 0} (f : X → X) (xs now ys : List X) (i : ℕ) (x y d : X) → now ≡ xs → i < length now → ys ≡ map f (take i xs) ++ drop i xs → length ys ≡ length now → x ≡ get_or ys i d → y ≡ f x → set ys i y ≡ map f (take (i + 1) xs) ++ drop (i + 1) xs
written_more f xs now ys i x y d same lt e len is made =
    ap (set ys i) made ∙ map_over_more f xs ys i x (subst (λ l. i < length l) same lt) e (is ∙ get_or_default ys i d x (omega (arith, lt, len)))
