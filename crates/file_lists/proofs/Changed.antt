-- Lists of which one is another.
use Rattle.std.proofs.Common.{◌≡◌, ◌<◌, ℕ, zero, suc, Bool, true, false, cond, List, [], ◌∷◌, map, length, get_or, Option, Some, None, refl, sym, ap, subst, ◌∙◌, arith, Contains}
use Rattle.std.proofs.Math.ListN.{set}
use Rattle.std.specs.List.{AllByRecursion, insert}
use Rattle.std.specs.Prelude.{nat_eq}
use Rattle.std.specs.Ordering.{nat_cmp, match_ordering, ordering_reverse}
use Rattle.std.specs.Cmp.Lexicographic.{slice_cmp}
use Rattle.std.specs.declared.cmp.Ordering.{Ordering}
use Rattle.std.specs.declared.cmp.Ordering.TheVariants.{Less, Equal, Greater}
use Rattle.std.proofs.lemmas.Bool.{false≢true}
use Rattle.std.proofs.lemmas.Bool.Decides.{Decides-eqb}
use Rattle.std.proofs.lemmas.Cmp.{tied_itself, nat_list_cmp_total}
use Rattle.std.proofs.lemmas.List.{map-set, get_or-set_same, get_or-set_other}
use Rattle.std.proofs.lemmas.Map.Lookups.{exact_bytes}
use Rattle.name_tables.specs.Order.{IsPlaceOf}
use Rattle.name_tables.proofs.Names.{either_before}
use Rattle.name_tables.proofs.Placed.{place_behind}
use Rattle.host_core.specs.Paths.{Path}
use Rattle.file_lists.specs.declared.paths.PackageList.{PackageList}
use Rattle.file_lists.specs.Increasing.{IsBefore, AreIncreasing}
use Rattle.file_lists.specs.Index.{Keyed, row_for, spot_of, paths_of_slot, IsNumbered, IsComplete, KeepsRows, IsIndexed}
use Rattle.file_lists.specs.Owners.{AreListPaths, AreLists, name_of, names_of}
use Rattle.file_lists.specs.Table.{IsAt}
use Rattle.file_lists.specs.Writing.{package_list, with_list, with_paths_at, IsEntered}
use Rattle.file_lists.proofs.Finding.{behind}
use Rattle.file_lists.proofs.Increasing.{all_at}
use Rattle.file_lists.proofs.Indexes.{stays}
use Rattle.file_lists.proofs.Tables.{within_names}

-- a name that is behind another compares as greater
greater : (name other : Path) → IsBefore other name → slice_cmp nat_cmp name other ≡ Greater
greater name other less = nat_list_cmp_total.antisymm name other ∙ ap ordering_reverse less

same_name : (name other : Path) → other ≡ name → slice_cmp nat_cmp name other ≡ Equal
same_name name other is = ap (slice_cmp nat_cmp name) is ∙ tied_itself nat_list_cmp_total name

-- the list of a name that stands there is the one that is changed
pub with_there : (lists : List PackageList) (name : List ℕ) (paths : List Path) (at : ℕ) → AreIncreasing (names_of lists) → IsAt lists name at → with_paths_at at paths lists ≡ with_list name paths lists
with_there [] name paths at order is = absurd (omega (arith, is.0))
with_there (l ∷ lists) name paths zero order is =
    ap (λ (n : List ℕ). package_list n paths ∷ lists) is.1 ∙ sym (ap (λ o. match_ordering o (package_list name paths ∷ l ∷ lists) (package_list name paths ∷ lists) (l ∷ with_list name paths lists)) (same_name name l.name is.1))
with_there (l ∷ lists) name paths (suc i) order is =
    let lt : i < length lists = omega (arith, is.0) in
    let less = subst (IsBefore l.name) is.1 (all_at (IsBefore l.name) (names_of lists) i [] order.0 (within_names lists i lt)) in
    ap (λ (ls : List PackageList). l ∷ ls) (with_there lists name paths i order.1 (lt, is.1))
    ∙ sym (ap (λ o. match_ordering o (package_list name paths ∷ l ∷ lists) (package_list name paths ∷ lists) (l ∷ with_list name paths lists)) (greater name l.name less))

-- a list that comes in
pub with_inserted : (lists : List PackageList) (name : List ℕ) (paths : List Path) (at : ℕ) → IsPlaceOf name_of lists name at → (IsAt lists name at → ⊥) → insert lists at (package_list name paths) ≡ with_list name paths lists
with_inserted [] name paths zero is other = refl
with_inserted [] name paths (suc i) is other = absurd (omega (arith, is.within))
with_inserted (l ∷ lists) name paths zero is other =
    let less = either_before l.name name (λ same. other (omega arith, same)) (is.here (omega arith)) in
    sym (ap (λ o. match_ordering o (package_list name paths ∷ l ∷ lists) (package_list name paths ∷ lists) (l ∷ with_list name paths lists)) less)
with_inserted (l ∷ lists) name paths (suc i) is other =
    ap (λ (ls : List PackageList). l ∷ ls) (with_inserted lists name paths i (place_behind name_of l lists name i is) (λ there. other (omega (arith, there.0), there.1)))
    ∙ sym (ap (λ o. match_ordering o (package_list name paths ∷ l ∷ lists) (package_list name paths ∷ lists) (l ∷ with_list name paths lists)) (greater name l.name (is.before zero (omega arith))))

-- they are lists as before

among_with : (P : List ℕ → Type 0) (lists : List PackageList) (name : List ℕ) (paths : List Path) → AllByRecursion P (names_of lists) → P name → AllByRecursion P (names_of (with_list name paths lists))
among_with P [] name paths all here = (here, tt)
among_with P (l ∷ lists) name paths all here = by (slice_cmp nat_cmp name l.name) (among_with P lists name paths all.1 here)
  where
    by : (o : Ordering) → AllByRecursion P (names_of (with_list name paths lists)) → AllByRecursion P (names_of (match_ordering o (package_list name paths ∷ l ∷ lists) (package_list name paths ∷ lists) (l ∷ with_list name paths lists)))
    by Less rest = (here, all)
    by Equal rest = (here, all.1)
    by Greater rest = (all.0, rest)

later_than : (name other : Path) (names : List Path) → IsBefore name other → AllByRecursion (IsBefore other) names → AllByRecursion (IsBefore name) names
later_than name other [] less all = tt
later_than name other (n ∷ names) less all = (nat_list_cmp_total.trans name other n less all.0, later_than name other names less all.1)

with_increasing : (lists : List PackageList) (name : List ℕ) (paths : List Path) → AreIncreasing (names_of lists) → AreIncreasing (names_of (with_list name paths lists))
with_increasing [] name paths order = (tt, tt)
with_increasing (l ∷ lists) name paths order = by (slice_cmp nat_cmp name l.name) refl (with_increasing lists name paths order.1)
  where
    by : (o : Ordering) → slice_cmp nat_cmp name l.name ≡ o → AreIncreasing (names_of (with_list name paths lists)) → AreIncreasing (names_of (match_ordering o (package_list name paths ∷ l ∷ lists) (package_list name paths ∷ lists) (l ∷ with_list name paths lists)))
    by Less e rest = ((e, later_than name l.name (names_of lists) e order.0), order)
    by Equal e rest = (subst (λ (n : List ℕ). AllByRecursion (IsBefore n) (names_of lists)) (sym (exact_bytes name l.name e)) order.0, order.1)
    by Greater e rest = (among_with (IsBefore l.name) lists name paths order.0 (behind l.name name e), rest)

with_paths_of : (lists : List PackageList) (name : List ℕ) (paths : List Path) → AllByRecursion (λ l. AreListPaths l.paths) lists → AreListPaths paths → AllByRecursion (λ l. AreListPaths l.paths) (with_list name paths lists)
with_paths_of [] name paths all here = (here, tt)
with_paths_of (l ∷ lists) name paths all here = by (slice_cmp nat_cmp name l.name) (with_paths_of lists name paths all.1 here)
  where
    by : (o : Ordering) → AllByRecursion (λ l. AreListPaths l.paths) (with_list name paths lists) → AllByRecursion (λ l. AreListPaths l.paths) (match_ordering o (package_list name paths ∷ l ∷ lists) (package_list name paths ∷ lists) (l ∷ with_list name paths lists))
    by Less rest = (here, all)
    by Equal rest = (here, all.1)
    by Greater rest = (all.0, rest)

pub with_lists : (lists : List PackageList) (name : List ℕ) (paths : List Path) → AreLists lists → AreListPaths paths → AreLists (with_list name paths lists)
with_lists lists name paths are ok = record { names = with_increasing lists name paths are.names; paths = with_paths_of lists name paths are.paths ok }

-- The index of lists of which one has other paths.

paths_there : (lists : List PackageList) (at s : ℕ) (paths : List Path) → at < length lists → (b : Bool) → nat_eq s at ≡ b → paths_of_slot (with_paths_at at paths lists) s ≡ cond b paths (paths_of_slot lists s)
paths_there lists at s paths lt true e =
    let same = (Decides-eqb s at).0 e in
    ap (λ (l : List (List Path)). get_or l s []) (map-set (λ (l : PackageList). l.paths) lists at (package_list (get_or (names_of lists) at []) paths))
    ∙ ap (λ (k : ℕ). get_or (set (map (λ (l : PackageList). l.paths) lists) at paths) k []) same ∙ get_or-set_same (map (λ (l : PackageList). l.paths) lists) at paths [] (within_paths lists at lt)
  where
    within_paths : (ls : List PackageList) (i : ℕ) → i < length ls → i < length (map (λ (l : PackageList). l.paths) ls)
    within_paths [] i less = less
    within_paths (l ∷ ls) zero less = omega arith
    within_paths (l ∷ ls) (suc i) less = (let rest = within_paths ls i (omega (arith, less)) in omega (arith, rest))
paths_there lists at s paths lt false e =
    ap (λ (l : List (List Path)). get_or l s []) (map-set (λ (l : PackageList). l.paths) lists at (package_list (get_or (names_of lists) at []) paths))
    ∙ get_or-set_other (map (λ (l : PackageList). l.paths) lists) at s paths [] (λ same. false≢true (sym e ∙ (Decides-eqb s at).1 same))

complete_with : (lists : List PackageList) (at : ℕ) (paths : List Path) (old new : Keyed) → at < length lists → IsComplete old lists → KeepsRows old new → ((number : ℕ) (path : Path) → IsNumbered paths number path → Contains (row_for new path) (spot_of at number)) → IsComplete new (with_paths_at at paths lists)
complete_with lists at paths old new lt complete kept here s number path stands = by (nat_eq s at) refl
  where
    by : (b : Bool) → nat_eq s at ≡ b → Contains (row_for new path) (spot_of s number)
    by true e = subst (λ (k : ℕ). Contains (row_for new path) (spot_of k number)) (sym ((Decides-eqb s at).0 e)) (here number path (subst (λ (l : List Path). IsNumbered l number path) (paths_there lists at s paths lt true e) stands))
    by false e = stays old new path (spot_of s number) kept (complete s number path (subst (λ (l : List Path). IsNumbered l number path) (paths_there lists at s paths lt false e) stands))

pub indexed_with : (lists : List PackageList) (at : ℕ) (paths : List Path) (old new : Option Keyed) → at < length lists → IsIndexed old lists → IsEntered old paths at new → IsIndexed new (with_paths_at at paths lists)
indexed_with lists at paths old None lt indexed entered = tt
indexed_with lists at paths None (Some new) lt indexed entered = absurd entered
indexed_with lists at paths (Some old) (Some new) lt indexed entered = complete_with lists at paths old new lt indexed entered.0 entered.1
