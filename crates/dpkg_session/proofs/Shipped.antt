-- Places of shipped paths are shipped paths.
use Rattle.std.proofs.Common.{◌≡◌, Bool, true, false, List, [], ◌∷◌, Option, Some, None, refl}
use Rattle.std.specs.Prelude.{cond}
use Rattle.std.specs.Str.{bytes_eq}
use Rattle.aliases.specs.Aliases.{Alias, followed, resolved}
use Rattle.diversions.specs.Entries.{IsTable, entry_of}
use Rattle.diversions.specs.Places.{target_of}
use Rattle.diversions.specs.Ways.{Ways, diversion_of_place, entry_at, or_else, truename}
use Rattle.diversions.specs.declared.entry.Diversion.{Diversion}
use Rattle.host_core.specs.Paths.{Path, is_ship_text}

-- with the aliases above it followed
pub resolved_shipped : (aliases : List Alias) (path : Path) → is_ship_text path ≡ true → is_ship_text (resolved aliases path) ≡ true
resolved_shipped aliases path ship = at (is_ship_text (followed aliases path)) refl
  where
    at : (b : Bool) → is_ship_text (followed aliases path) ≡ b → is_ship_text (cond b (followed aliases path) path) ≡ true
    at true is = is
    at false is = ship

-- the target of an entry
named_shipped : (entries : List Diversion) (path : Path) → IsTable entries → is_ship_text path ≡ true → is_ship_text (target_of (entry_of entries path) path) ≡ true
named_shipped [] path table ship = ship
named_shipped (d ∷ entries) path table ship = at (named_shipped entries path table.3 ship) (bytes_eq path d.path)
  where
    at : is_ship_text (target_of (entry_of entries path) path) ≡ true → (b : Bool) → is_ship_text (target_of (cond b (Some d) (entry_of entries path)) path) ≡ true
    at later true = table.0.target.path
    at later false = later

placed_shipped : (aliases : List Alias) (entries : List Diversion) (place path : Path) → IsTable entries → is_ship_text path ≡ true → is_ship_text (target_of (entry_at aliases entries place) path) ≡ true
placed_shipped aliases [] place path table ship = ship
placed_shipped aliases (d ∷ entries) place path table ship = at (placed_shipped aliases entries place path table.3 ship) (bytes_eq (resolved aliases d.path) place)
  where
    at : is_ship_text (target_of (entry_at aliases entries place) path) ≡ true → (b : Bool) → is_ship_text (target_of (cond b (Some d) (entry_at aliases entries place)) path) ≡ true
    at later true = table.0.target.path
    at later false = later

either_shipped : (one other : Option Diversion) (path : Path) → is_ship_text (target_of one path) ≡ true → is_ship_text (target_of other path) ≡ true → is_ship_text (target_of (or_else one other) path) ≡ true
either_shipped (Some d) other path first second = first
either_shipped None other path first second = second

-- each target of a table is a shipped path
pub truename_shipped : (ways : Ways) (path : Path) → IsTable ways.entries → is_ship_text path ≡ true → is_ship_text (truename ways path) ≡ true
truename_shipped ways path table ship =
    resolved_shipped ways.aliases (target_of (diversion_of_place ways path) path)
    (either_shipped (entry_of ways.entries path) (entry_at ways.aliases ways.entries (resolved ways.aliases path)) path
    (named_shipped ways.entries path table ship) (placed_shipped ways.aliases ways.entries (resolved ways.aliases path) path table ship))
