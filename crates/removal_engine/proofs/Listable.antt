-- Paths of conffiles can stand in a list.
use Rattle.std.proofs.Common.{◌≡◌, true, not, List, [], ◌∷◌, ◌++◌}
use Rattle.std.specs.Prelude.{◌&&◌, codes}
use Rattle.std.specs.List.{AllByRecursion}
use Rattle.std.specs.Str.{bytes_eq}
use Rattle.std.proofs.lemmas.Bool.{and_parts}
use Rattle.host_core.specs.Paths.{Path, is_path_text, has_room, has_reserved_suffix, is_below_administration, is_ship_text}
use Rattle.host_core.proofs.ShipNames.{ships}
use Rattle.file_lists.specs.Owners.{IsListable}

pub ship_listable : (p : Path) → is_ship_text p ≡ true → IsListable p
ship_listable p is =
    let text = and_parts (is_path_text p) (has_room p && (not (bytes_eq p (codes "/")) && (not (has_reserved_suffix p) && not (is_below_administration p)))) is in
    record {
      is = (ships p is).path;
      room = (and_parts (has_room p) (not (bytes_eq p (codes "/")) && (not (has_reserved_suffix p) && not (is_below_administration p))) text.1).0;
    }

pub listable_more : (paths : List Path) (p : Path) → AllByRecursion IsListable paths → IsListable p → AllByRecursion IsListable (paths ++ p ∷ [])
listable_more [] p all one = (one, tt)
listable_more (q ∷ paths) p all one = (all.0, listable_more paths p all.1 one)
