-- The index by the keys of places.
use Rattle.std.proofs.Common.{◌≡◌, ◌≢◌, ◌⊎◌, ◌+◌, ◌<◌, ◌≤◌, ◌%◌, inl, inr, ℕ, zero, suc, Bool, true, false, List, [], ◌∷◌, take, length, get_or, refl, sym, ap, subst, ◌∙◌, arith, Contains}
use Rattle.std.proofs.Math.ListN.{set}
use Rattle.std.specs.Prelude.{nat_eq}
use Rattle.std.proofs.lemmas.Bool.{cases_lt, false≢true}
use Rattle.std.proofs.lemmas.List.{get_or-set_same, get_or-set_other, length-set, take_more}
use Rattle.std.proofs.lemmas.List.Elements.{Contains-append_cases}
use Rattle.std.proofs.lemmas.Bool.Decides.{Decides-eqb}
use Rattle.host_core.specs.Paths.{Path}
use Rattle.aliases.specs.Aliases.{Alias, resolved}
use Rattle.file_lists.specs.declared.paths.PackageList.{PackageList}
use Rattle.file_lists.specs.declared.spot.Spot.{Spot}
use Rattle.file_lists.specs.Index.{Keyed, path_number, row_of, row_for, spot_of, paths_of_slot, IsNumbered, StandsAt, IsComplete, KeepsRows}

-- a row that only grew
rows_grown : (rows : List (List Spot)) (at : ℕ) (row : List Spot) → at < length rows → ((s : Spot) → Contains (get_or rows at []) s → Contains row s) → (key : Path) (spot : Spot) → Contains (row_of rows key) spot → Contains (row_of (set rows at row) key) spot
rows_grown rows at row within more key spot has =
    subst (λ (n : ℕ). Contains (get_or (set rows at row) (path_number key % n) []) spot) (sym (length-set rows at row)) (by (nat_eq (path_number key % length rows) at) refl)
  where
    by : (b : Bool) → nat_eq (path_number key % length rows) at ≡ b → Contains (get_or (set rows at row) (path_number key % length rows) []) spot
    by true e =
        let same : path_number key % length rows ≡ at = (Decides-eqb (path_number key % length rows) at).0 e in
        subst (λ (k : ℕ). Contains (get_or (set rows at row) k []) spot) (sym same) (subst (λ (r : List Spot). Contains r spot) (sym (get_or-set_same rows at row [] within)) (more spot (subst (λ (k : ℕ). Contains (get_or rows k []) spot) same has)))
    by false e =
        let differs : path_number key % length rows ≢ at = λ same. false≢true (sym e ∙ (Decides-eqb (path_number key % length rows) at).1 same) in
        subst (λ (r : List Spot). Contains r spot) (sym (get_or-set_other rows at (path_number key % length rows) row [] differs)) has

pub rows_kept : (rows : List (List Spot)) (aliases : List Alias) (at : ℕ) (row : List Spot) → at < length rows → ((s : Spot) → Contains (get_or rows at []) s → Contains row s) → KeepsRows (record { rows = rows; aliases = aliases }) (record { rows = set rows at row; aliases = aliases })
rows_kept rows aliases at row within more = record { aliases = refl; rows = rows_grown rows at row within more }

-- the row of a key that was written
pub row_set : (rows : List (List Spot)) (at : ℕ) (row : List Spot) (key : Path) → at < length rows → at ≡ path_number key % length rows → row_of (set rows at row) key ≡ row
row_set rows at row key within is =
    ap (λ (n : ℕ). get_or (set rows at row) (path_number key % n) []) (length-set rows at row) ∙ ap (λ (k : ℕ). get_or (set rows at row) k []) (sym is) ∙ get_or-set_same rows at row [] within

pub kept_itself : (index : Keyed) → KeepsRows index index
kept_itself index = record { aliases = refl; rows = λ key spot has. has }

pub kept_then : (a b c : Keyed) → KeepsRows a b → KeepsRows b c → KeepsRows a c
kept_then a b c first second = record {
  aliases = second.aliases ∙ first.aliases;
  rows = λ key spot has. second.rows key spot (first.rows key spot has);
}

-- what stood in the row of a path's key stands there still
pub stays : (old new : Keyed) (path : Path) (spot : Spot) → KeepsRows old new → Contains (row_for old path) spot → Contains (row_for new path) spot
stays old new path spot kept has =
    subst (λ (l : List Alias). Contains (row_of new.rows (resolved l path)) spot) (sym kept.aliases) (kept.rows (resolved old.aliases path) spot has)

last_of : {X : Type 0} (xs : List X) (i : ℕ) (x q : X) → i < length xs → x ≡ get_or xs i x → Contains (take (i + 1) xs) q → Contains (take i xs) q ⊎ (x ≡ q)
last_of xs i x q lt is has = elim (Contains-append_cases (take i xs) (get_or xs i x ∷ []) q (subst (λ l. Contains l q) (take_more xs i x lt) has)) [
  | inl before ↦ inl before
  | inr here ↦ inr (is ∙ only (get_or xs i x) q here)
]
  where
    only : {X : Type 0} (y q : X) → Contains (y ∷ []) q → y ≡ q
    only y q (zero, less, same) = same
    only y q (suc k, less, same) = absurd (omega (arith, less))

-- one more of a list's items
pub each_more : {X : Type 0} (P : X → Type 0) (xs : List X) (i : ℕ) (x : X) → i < length xs → x ≡ get_or xs i x → ((q : X) → Contains (take i xs) q → P q) → P x → (q : X) → Contains (take (i + 1) xs) q → P q
each_more P xs i x lt is before here q has = elim (last_of xs i x q lt is has) [ inl b ↦ before q b | inr s ↦ subst P s here ]

-- one more path was entered
pub entered_more : (paths : List Path) (slot i : ℕ) (x : Path) (index more : Keyed) → x ≡ get_or paths i x → i < length paths → ((number : ℕ) (path : Path) → number < i → IsNumbered paths number path → Contains (row_for index path) (spot_of slot number)) → KeepsRows index more
    → Contains (row_for more x) (spot_of slot i) → (number : ℕ) (path : Path) → number < i + 1 → IsNumbered paths number path → Contains (row_for more path) (spot_of slot number)
entered_more paths slot i x index more is lt before kept here number path small named = elim (cases_lt number i) [
  | inl less ↦ stays index more path (spot_of slot number) kept (before number path less named)
  | inr ge ↦ (let same : i ≡ number = omega (arith, ge, small) in
      subst (λ (k : ℕ). Contains (row_for more path) (spot_of slot k)) same (subst (λ (q : Path). Contains (row_for more q) (spot_of slot i)) (is ∙ get_or_at paths i number x path lt same ∙ named.1) here))
]
  where
    get_or_at : (xs : List Path) (i k : ℕ) (a b : Path) → i < length xs → i ≡ k → get_or xs i a ≡ get_or xs k b
    get_or_at xs i k a b within same = any xs i a b within ∙ ap (λ (n : ℕ). get_or xs n b) same
      where
        any : (xs : List Path) (i : ℕ) (a b : Path) → i < length xs → get_or xs i a ≡ get_or xs i b
        any [] i a b within = absurd (omega (arith, within))
        any (y ∷ xs) zero a b within = refl
        any (y ∷ xs) (suc i) a b within = any xs i a b (omega (arith, within))

-- one more list was entered
pub complete_more : (lists : List PackageList) (slot : ℕ) (index more : Keyed) (paths : List Path) → paths ≡ paths_of_slot lists slot → ((s number : ℕ) (path : Path) → s < slot → StandsAt lists s number path → Contains (row_for index path) (spot_of s number)) → KeepsRows index more
    → ((number : ℕ) (path : Path) → IsNumbered paths number path → Contains (row_for more path) (spot_of slot number)) → (s number : ℕ) (path : Path) → s < slot + 1 → StandsAt lists s number path → Contains (row_for more path) (spot_of s number)
complete_more lists slot index more paths is before kept here s number path small stands = elim (cases_lt s slot) [
  | inl less ↦ stays index more path (spot_of s number) kept (before s number path less stands)
  | inr ge ↦ (let same : slot ≡ s = omega (arith, ge, small) in
      subst (λ (k : ℕ). Contains (row_for more path) (spot_of k number)) same (here number path (subst (λ (l : List Path). IsNumbered l number path) (sym is) (subst (λ (k : ℕ). StandsAt lists k number path) (sym same) stands))))
]

-- a list that isn't there has no paths
no_slot : (lists : List PackageList) (s : ℕ) → length lists ≤ s → paths_of_slot lists s ≡ []
no_slot [] s past = none s
  where
    none : (k : ℕ) → get_or {A = List Path} [] k [] ≡ []
    none zero = refl
    none (suc k) = refl
no_slot (l ∷ lists) zero past = absurd (omega (arith, past))
no_slot (l ∷ lists) (suc s) past = no_slot lists s (omega (arith, past))

-- a list that has a path is there
pub slot_within : (lists : List PackageList) (s number : ℕ) (path : Path) → StandsAt lists s number path → s < length lists
slot_within lists s number path stands = elim (cases_lt s (length lists)) [
  | inl less ↦ less
  | inr ge ↦ absurd (let none = subst (λ (l : List Path). IsNumbered l number path) (no_slot lists s ge) stands in omega (arith, none.0))
]

-- all lists were entered
pub complete_all : (lists : List PackageList) (slot : ℕ) (index : Keyed) → length lists ≤ slot → ((s number : ℕ) (path : Path) → s < slot → StandsAt lists s number path → Contains (row_for index path) (spot_of s number)) → IsComplete index lists
complete_all lists slot index past all s number path stands = elim (cases_lt s (length lists)) [
  | inl less ↦ all s number path (omega (arith, less, past)) stands
  | inr ge ↦ absurd (let none = subst (λ (l : List Path). IsNumbered l number path) (no_slot lists s ge) stands in omega (arith, none.0))
]

-- the paths of the list at i
pub slot_paths : (lists : List PackageList) (i : ℕ) (l : PackageList) → i < length lists → l ≡ get_or lists i l → l.paths ≡ paths_of_slot lists i
slot_paths [] i l lt is = absurd (omega (arith, lt))
slot_paths (x ∷ lists) zero l lt is = ap (λ (y : PackageList). y.paths) is
slot_paths (x ∷ lists) (suc i) l lt is = slot_paths lists i l (omega (arith, lt)) is
