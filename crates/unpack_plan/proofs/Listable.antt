-- Paths that a list may have.
use Rattle.std.proofs.Common.{◌≡◌, ℕ, Bool, true, false, not, cond, List, [], ◌∷◌, ◌++◌}
use Rattle.std.specs.Prelude.{◌&&◌}
use Rattle.std.specs.List.{AllByRecursion}
use Rattle.std.specs.Str.{bytes_eq}
use Rattle.std.specs.Prelude.{codes}
use Rattle.std.proofs.lemmas.Bool.{and_parts}
use Rattle.host_core.specs.Paths.{Path, is_path_text, has_room, has_reserved_suffix, is_below_administration, is_ship_text}
use Rattle.host_core.proofs.ShipNames.{ships}
use Rattle.file_lists.specs.Owners.{AreListPaths, AreLists, IsListable, paths_of}
use Rattle.file_lists.specs.declared.paths.PackageList.{PackageList}

pub ship_listable : (p : Path) → is_ship_text p ≡ true → IsListable p
ship_listable p is =
    let text = and_parts (is_path_text p) (has_room p && (not (bytes_eq p (codes "/")) && (not (has_reserved_suffix p) && not (is_below_administration p)))) is in
    record {
      is = (ships p is).path;
      room = (and_parts (has_room p) (not (bytes_eq p (codes "/")) && (not (has_reserved_suffix p) && not (is_below_administration p))) text.1).0;
    }

pub listable_more : (paths : List Path) (p : Path) → AllByRecursion IsListable paths → IsListable p → AllByRecursion IsListable (paths ++ p ∷ [])
listable_more [] p all one = (one, tt)
listable_more (q ∷ paths) p all one = (all.0, listable_more paths p all.1 one)

list_paths : (lists : List PackageList) (name : List ℕ) → AllByRecursion (λ l. AreListPaths l.paths) lists → AreListPaths (paths_of lists name)
list_paths [] name all = record { order = tt; room = tt }
list_paths (l ∷ lists) name all = by (list_paths lists name all.1) (bytes_eq name l.name)
  where
    by : AreListPaths (paths_of lists name) → (b : Bool) → AreListPaths (cond b l.paths (paths_of lists name))
    by rest true = all.0
    by rest false = rest

-- what a package lists
pub listed_are : (lists : List PackageList) (name : List ℕ) → AreLists lists → AreListPaths (paths_of lists name)
listed_are lists name are = list_paths lists name are.paths
