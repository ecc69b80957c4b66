-- Lists by their names.
use Rattle.std.proofs.Common.{◌≡◌, ◌<◌, ◌⊎◌, inl, inr, ℕ, zero, suc, Bool, true, false, cond, List, [], ◌∷◌, ◌++◌, length, get_or, refl, sym, ap, subst, ◌∙◌, arith, Contains}
use Rattle.std.proofs.Math.ListN.{set}
use Rattle.std.specs.List.{AllByRecursion, list_any}
use Rattle.std.specs.Str.{bytes_eq}
use Rattle.std.proofs.lemmas.Bool.{true≢false, false≢true}
use Rattle.std.proofs.lemmas.List.{get_or-map}
use Rattle.std.proofs.lemmas.Map.Views.{Contains-from_any}
use Rattle.std.proofs.lemmas.List.Folds.{list_any_at}
use Rattle.std.proofs.lemmas.Slice.Eq.{bytes_eq-Decides}
use Rattle.host_core.specs.Paths.{Path}
use Rattle.file_lists.specs.declared.paths.PackageList.{PackageList}
use Rattle.file_lists.specs.Increasing.{IsBefore, AreIncreasing}
use Rattle.file_lists.specs.Owners.{AreListPaths, AreLists, names_of, paths_of}
use Rattle.file_lists.specs.Table.{IsSet}
use Rattle.file_lists.specs.Writing.{package_list}
use Rattle.file_lists.proofs.Increasing.{all_at, not_before_itself}

pub within_names : (lists : List PackageList) (i : ℕ) → i < length lists → i < length (names_of lists)
within_names [] i less = less
within_names (l ∷ lists) zero less = omega arith
within_names (l ∷ lists) (suc i) less = (let rest = within_names lists i (omega (arith, less)) in omega (arith, rest))

-- the name of the list at i
pub name_at : (lists : List PackageList) (i : ℕ) (l : PackageList) → i < length lists → l ≡ get_or lists i l → get_or (names_of lists) i [] ≡ l.name
name_at lists i l lt is = get_or-map (λ (x : PackageList). x.name) lists i l [] lt ∙ ap (λ (x : PackageList). x.name) (sym is)

-- of names in order the first isn't among the others
pub apart : (name other : List ℕ) (names : List (List ℕ)) → AllByRecursion (λ n. IsBefore name n) names → (i : ℕ) → i < length names → bytes_eq other (get_or names i []) ≡ true → bytes_eq other name ≡ false
apart name other names below i lt is = at (bytes_eq other name) refl
  where
    at : (b : Bool) → bytes_eq other name ≡ b → bytes_eq other name ≡ false
    at true e = absurd (not_before_itself name (subst (IsBefore name) (sym ((bytes_eq-Decides other (get_or names i [])).0 is) ∙ (bytes_eq-Decides other name).0 e) (all_at (λ n. IsBefore name n) names i [] below lt)))
    at false e = e

-- the list at i has other paths
pub paths_set : (lists : List PackageList) (i : ℕ) (paths : List Path) (name : List ℕ) → AreIncreasing (names_of lists) → i < length lists
    → paths_of (set lists i (package_list (get_or (names_of lists) i []) paths)) name ≡ cond (bytes_eq name (get_or (names_of lists) i [])) paths (paths_of lists name)
paths_set [] i paths name order lt = absurd (omega (arith, lt))
paths_set (l ∷ lists) zero paths name order lt = at (bytes_eq name l.name)
  where
    at : (b : Bool) → cond b paths (paths_of lists name) ≡ cond b paths (cond b l.paths (paths_of lists name))
    at true = refl
    at false = refl
paths_set (l ∷ lists) (suc i) paths name order lt =
    ap (cond (bytes_eq name l.name) l.paths) (paths_set lists i paths name order.1 (omega (arith, lt)))
    ∙ at (bytes_eq name l.name) (bytes_eq name (get_or (names_of lists) i [])) (λ e. apart l.name name (names_of lists) order.0 i (within_names lists i (omega (arith, lt))) e)
  where
    at : (b c : Bool) → (c ≡ true → b ≡ false) → cond b l.paths (cond c paths (paths_of lists name)) ≡ cond c paths (cond b l.paths (paths_of lists name))
    at true true differs = absurd (true≢false (differs refl))
    at true false differs = refl
    at false c differs = refl

all_set : {X : Type 0} (P : X → Type 0) (xs : List X) (i : ℕ) (x : X) → AllByRecursion P xs → P x → AllByRecursion P (set xs i x)
all_set P [] i x all here = tt
all_set P (y ∷ xs) zero x all here = (here, all.1)
all_set P (y ∷ xs) (suc i) x all here = (all.0, all_set P xs i x all.1 here)

names_set : (lists : List PackageList) (i : ℕ) (paths : List Path) → names_of (set lists i (package_list (get_or (names_of lists) i []) paths)) ≡ names_of lists
names_set [] i paths = refl
names_set (l ∷ lists) zero paths = refl
names_set (l ∷ lists) (suc i) paths = ap (λ (ns : List (List ℕ)). l.name ∷ ns) (names_set lists i paths)

pub lists_set : (lists : List PackageList) (i : ℕ) (paths : List Path) (name : List ℕ) → name ≡ get_or (names_of lists) i [] → AreLists lists → AreListPaths paths → AreLists (set lists i (package_list name paths))
lists_set lists i paths name is are ok = subst (λ (n : List ℕ). AreLists (set lists i (package_list n paths))) (sym is) record {
  names = subst AreIncreasing (sym (names_set lists i paths)) are.names;
  paths = all_set (λ (l : PackageList). AreListPaths l.paths) lists i (package_list (get_or (names_of lists) i []) paths) are.paths ok;
}

pub is_set : (lists : List PackageList) (i : ℕ) (paths : List Path) (name : List ℕ) → name ≡ get_or (names_of lists) i [] → AreLists lists → i < length lists → IsSet i paths lists (set lists i (package_list name paths))
is_set lists i paths name is are lt = subst (λ (n : List ℕ). IsSet i paths lists (set lists i (package_list n paths))) (sym is) record {
  names = names_set lists i paths;
  each = λ n. paths_set lists i paths n are.names lt;
}

-- of lists in order that at i has the paths of its name
pub paths_at : (lists : List PackageList) (i : ℕ) (d : PackageList) → AreIncreasing (names_of lists) → i < length lists → paths_of lists (get_or (names_of lists) i []) ≡ (get_or lists i d).paths
paths_at [] i d order lt = absurd (omega (arith, lt))
paths_at (l ∷ lists) zero d order lt = ap (λ b. cond b l.paths (paths_of lists l.name)) ((bytes_eq-Decides l.name l.name).1 refl)
paths_at (l ∷ lists) (suc i) d order lt =
    let name = get_or (names_of lists) i [] in
    ap (λ b. cond b l.paths (paths_of lists name)) (apart l.name name (names_of lists) order.0 i (within_names lists i (omega (arith, lt))) ((bytes_eq-Decides name name).1 refl))
    ∙ paths_at lists i d order.1 (omega (arith, lt))

-- a name that has no list has no paths
pub no_paths : (lists : List PackageList) (name : List ℕ) → (Contains (names_of lists) name → ⊥) → paths_of lists name ≡ []
no_paths [] name none = refl
no_paths (l ∷ lists) name none = at (bytes_eq name l.name) refl (no_paths lists name (λ has. none (suc has.0, omega (arith, has.1), has.2)))
  where
    at : (b : Bool) → bytes_eq name l.name ≡ b → paths_of lists name ≡ [] → cond b l.paths (paths_of lists name) ≡ []
    at true e rest = absurd (none (zero, omega arith, sym ((bytes_eq-Decides name l.name).0 e)))
    at false e rest = rest

-- a name is one of theirs, or isn't
pub has_name : (lists : List PackageList) (name : List ℕ) → Contains (names_of lists) name ⊎ (Contains (names_of lists) name → ⊥)
has_name lists name = at (list_any (bytes_eq name) (names_of lists)) refl
  where
    at : (b : Bool) → list_any (bytes_eq name) (names_of lists) ≡ b → Contains (names_of lists) name ⊎ (Contains (names_of lists) name → ⊥)
    at true e = inl (Contains-from_any (λ x y s. (bytes_eq-Decides x y).0 s) name (names_of lists) e)
    at false e = inr (λ has. false≢true (sym e ∙ list_any_at (bytes_eq name) (names_of lists) has.0 name has.1 ((bytes_eq-Decides name (get_or (names_of lists) has.0 name)).1 (sym has.2))))

-- lists without paths

pub empty_paths : (lists : List PackageList) (name : List ℕ) → AllByRecursion (λ l. l.paths ≡ []) lists → paths_of lists name ≡ []
empty_paths [] name none = refl
empty_paths (l ∷ lists) name none = at (bytes_eq name l.name) (empty_paths lists name none.1)
  where
    at : (b : Bool) → paths_of lists name ≡ [] → cond b l.paths (paths_of lists name) ≡ []
    at true rest = none.0
    at false rest = rest

empty_lists : (lists : List PackageList) → AllByRecursion (λ l. l.paths ≡ []) lists → AllByRecursion (λ l. AreListPaths l.paths) lists
empty_lists [] none = tt
empty_lists (l ∷ lists) none = (subst AreListPaths (sym none.0) record { order = tt; room = tt }, empty_lists lists none.1)

pub lists_empty : (lists : List PackageList) → AreIncreasing (names_of lists) → AllByRecursion (λ l. l.paths ≡ []) lists → AreLists lists
lists_empty lists order none = record { names = order; paths = empty_lists lists none }

pub empty_more : (lists : List PackageList) (l : PackageList) → AllByRecursion (λ l. l.paths ≡ []) lists → l.paths ≡ [] → AllByRecursion (λ l. l.paths ≡ []) (lists ++ l ∷ [])
empty_more [] l none is = (is, tt)
empty_more (x ∷ lists) l none is = (none.0, empty_more lists l none.1 is)
