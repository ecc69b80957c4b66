-- Paths of a list without some.
use Rattle.std.proofs.Common.{◌≡◌, ◌+◌, ◌<◌, ℕ, Bool, true, false, cond, List, [], ◌∷◌, ◌++◌, filter, take, length, get_or, sym, ap, ◌∙◌}
use Rattle.std.specs.List.{AllByRecursion}
use Rattle.std.specs.Str.{bytes_eq}
use Rattle.std.proofs.lemmas.List.Elements.{filter_more}
use Rattle.host_core.specs.Paths.{Path}
use Rattle.file_lists.specs.declared.paths.PackageList.{PackageList}
use Rattle.file_lists.specs.Increasing.{IsBefore, AreIncreasing}
use Rattle.file_lists.specs.Owners.{IsListable, AreListPaths, AreLists, paths_of}

-- one path more, which stays or doesn't
pub left_more : (test : Path → Bool) (paths : List Path) (i : ℕ) (x : Path) (old new : List Path) → i < length paths → x ≡ get_or paths i x → old ≡ filter test (take i paths) → new ≡ old ++ cond (test x) (x ∷ []) [] → new ≡ filter test (take (i + 1) paths)
left_more test paths i x old new lt is so_far more =
    more ∙ ap (λ (l : List Path). l ++ cond (test x) (x ∷ []) []) so_far ∙ ap (λ (y : Path). filter test (take i paths) ++ cond (test y) (y ∷ []) []) is ∙ sym (filter_more test paths i x lt)

all_left : (P : Path → Type 0) (test : Path → Bool) (paths : List Path) → AllByRecursion P paths → AllByRecursion P (filter test paths)
all_left P test [] all = tt
all_left P test (p ∷ paths) all = by (test p) (all_left P test paths all.1)
  where
    by : (b : Bool) → AllByRecursion P (filter test paths) → AllByRecursion P (cond b (p ∷ filter test paths) (filter test paths))
    by true rest = (all.0, rest)
    by false rest = rest

increasing_left : (test : Path → Bool) (paths : List Path) → AreIncreasing paths → AreIncreasing (filter test paths)
increasing_left test [] order = tt
increasing_left test (p ∷ paths) order = by (test p) (increasing_left test paths order.1)
  where
    by : (b : Bool) → AreIncreasing (filter test paths) → AreIncreasing (cond b (p ∷ filter test paths) (filter test paths))
    by true rest = (all_left (IsBefore p) test paths order.0, rest)
    by false rest = rest

list_paths_of : (lists : List PackageList) (name : List ℕ) → AllByRecursion (λ l. AreListPaths l.paths) lists → AreListPaths (paths_of lists name)
list_paths_of [] name all = record { order = tt; room = tt }
list_paths_of (l ∷ lists) name all = by (bytes_eq name l.name) (list_paths_of lists name all.1)
  where
    by : (b : Bool) → AreListPaths (paths_of lists name) → AreListPaths (cond b l.paths (paths_of lists name))
    by true rest = all.0
    by false rest = rest

-- what is left of a list is a list
pub left_list_paths : (lists : List PackageList) (name : List ℕ) (test : Path → Bool) → AreLists lists → AreListPaths (filter test (paths_of lists name))
left_list_paths lists name test are =
    let before = list_paths_of lists name are.paths in
    record { order = increasing_left test (paths_of lists name) before.order; room = all_left IsListable test (paths_of lists name) before.room }
