-- Entries by the places of their paths.
use Rattle.std.proofs.Common.{◌≡◌, ℕ, Bool, true, false, cond, List, [], ◌∷◌, Option, Some, None, refl, sym, ap, ◌∙◌}
use Rattle.std.specs.Str.{bytes_eq}
use Rattle.host_core.specs.Paths.{Path, is_ship_text}
use Rattle.aliases.specs.Aliases.{Alias, followed, resolved}
use Rattle.aliases.proofs.Following.{resolved_empty}
use Rattle.diversions.specs.declared.entry.Diversion.{Diversion}
use Rattle.diversions.specs.Entries.{IsTable, entry_of}
use Rattle.diversions.specs.Places.{target_of, target_for}
use Rattle.diversions.specs.Places as listed
use Rattle.diversions.specs.Targets.{entry_aimed, entry_named, entry_to}
use Rattle.diversions.specs.Ways.{Ways, entry_at, or_else, diversion_of_place, place, truename}
use Rattle.diversions.proofs.Tables.{turned}

entry_at_empty : (entries : List Diversion) (p : Path) → entry_at [] entries p ≡ entry_of entries p
entry_at_empty [] p = refl
entry_at_empty (d ∷ entries) p =
    ap (λ (q : Path). cond (bytes_eq q p) (Some d) (entry_at [] entries p)) (resolved_empty [] d.path refl) ∙ ap (λ b. cond b (Some d) (entry_at [] entries p)) (turned d.path p)
    ∙ ap (λ (o : Option Diversion). cond (bytes_eq p d.path) (Some d) o) (entry_at_empty entries p)

entry_aimed_empty : (entries : List Diversion) (p : Path) → entry_aimed [] entries p ≡ entry_named entries p
entry_aimed_empty [] p = refl
entry_aimed_empty (d ∷ entries) p =
    ap (λ (q : Path). cond (bytes_eq q p) (Some d) (entry_aimed [] entries p)) (resolved_empty [] d.target refl) ∙ ap (λ b. cond b (Some d) (entry_aimed [] entries p)) (turned d.target p)
    ∙ ap (λ (o : Option Diversion). cond (bytes_eq p d.target) (Some d) o) (entry_aimed_empty entries p)

pub named_to : (ways : Ways) (p : Path) → ways.aliases ≡ [] → entry_named ways.entries p ≡ entry_to ways p
named_to ways p none = sym (ap (λ (l : List Alias). entry_aimed l ways.entries (resolved l p)) none ∙ ap (entry_aimed [] ways.entries) (resolved_empty [] p refl) ∙ entry_aimed_empty ways.entries p)

pub none_behind : (aliases : List Alias) (entries : List Diversion) (p : Path) → aliases ≡ [] → entry_of entries p ≡ None → None ≡ entry_at aliases entries (resolved aliases p)
none_behind aliases entries p none is =
    sym (ap (λ (l : List Alias). entry_at l entries (resolved l p)) none ∙ ap (entry_at [] entries) (resolved_empty [] p refl) ∙ entry_at_empty entries p ∙ is)

-- by its listed name, or by its place
pub by_name : (ways : Ways) (p : Path) (d : Diversion) → Some d ≡ entry_of ways.entries p → Some d ≡ diversion_of_place ways p
by_name ways p d is = ap (λ (o : Option Diversion). or_else o (entry_at ways.aliases ways.entries (resolved ways.aliases p))) is

pub by_place : (ways : Ways) (p : Path) → None ≡ entry_of ways.entries p → entry_at ways.aliases ways.entries (resolved ways.aliases p) ≡ diversion_of_place ways p
by_place ways p is = ap (λ (o : Option Diversion). or_else o (entry_at ways.aliases ways.entries (resolved ways.aliases p))) is

-- where there are no aliases

diversion_empty : (entries : List Diversion) (p : Path) → diversion_of_place (record { entries = entries; aliases = [] }) p ≡ entry_of entries p
diversion_empty entries p = at (entry_of entries p) (ap (entry_at [] entries) (resolved_empty [] p refl) ∙ entry_at_empty entries p)
  where
    at : (o : Option Diversion) → entry_at [] entries (resolved [] p) ≡ o → or_else o (entry_at [] entries (resolved [] p)) ≡ o
    at (Some d) is = refl
    at None is = is

pub place_empty : (entries : List Diversion) (name : List ℕ) (p : Path) → place (record { entries = entries; aliases = [] }) name p ≡ listed.place entries name p
place_empty entries name p = resolved_empty [] _ refl ∙ ap (λ (o : Option Diversion). target_for o name p) (diversion_empty entries p)

pub truename_empty : (entries : List Diversion) (p : Path) → truename (record { entries = entries; aliases = [] }) p ≡ listed.truename entries p
truename_empty entries p = resolved_empty [] _ refl ∙ ap (λ (o : Option Diversion). target_of o p) (diversion_empty entries p)

-- what may be shipped

-- the place of a path that may be shipped may be shipped
pub resolved_ships : (aliases : List Alias) (path : Path) → is_ship_text path ≡ true → is_ship_text (resolved aliases path) ≡ true
resolved_ships aliases path ships = by (is_ship_text (followed aliases path)) refl
  where
    by : (b : Bool) → is_ship_text (followed aliases path) ≡ b → is_ship_text (cond b (followed aliases path) path) ≡ true
    by true is = is
    by false is = ships

-- an entry's target is shipped
abbrev Ships : Path → Option Diversion → Type 0
Ships path o = is_ship_text (target_of o path) ≡ true

named_ships : (entries : List Diversion) (path : Path) → IsTable entries → is_ship_text path ≡ true → Ships path (entry_of entries path)
named_ships [] path table ships = ships
named_ships (d ∷ entries) path table ships = by (bytes_eq path d.path) (named_ships entries path table.3 ships)
  where
    by : (b : Bool) → Ships path (entry_of entries path) → Ships path (cond b (Some d) (entry_of entries path))
    by true rest = table.0.target.path
    by false rest = rest

placed_ships : (aliases : List Alias) (entries : List Diversion) (place path : Path) → IsTable entries → is_ship_text path ≡ true → Ships path (entry_at aliases entries place)
placed_ships aliases [] place path table ships = ships
placed_ships aliases (d ∷ entries) place path table ships = by (bytes_eq (resolved aliases d.path) place) (placed_ships aliases entries place path table.3 ships)
  where
    by : (b : Bool) → Ships path (entry_at aliases entries place) → Ships path (cond b (Some d) (entry_at aliases entries place))
    by true rest = table.0.target.path
    by false rest = rest

-- a truename is shipped, where the path is
pub true_ships : (ways : Ways) (path : Path) → IsTable ways.entries → is_ship_text path ≡ true → is_ship_text (truename ways path) ≡ true
true_ships ways path table ships =
    resolved_ships ways.aliases (target_of (diversion_of_place ways path) path)
    (by (entry_of ways.entries path) (entry_at ways.aliases ways.entries (resolved ways.aliases path)) (named_ships ways.entries path table ships) (placed_ships ways.aliases ways.entries (resolved ways.aliases path) path table ships))
  where
    by : (o p : Option Diversion) → Ships path o → Ships path p → Ships path (or_else o p)
    by (Some d) p first second = first
    by None p first second = second
