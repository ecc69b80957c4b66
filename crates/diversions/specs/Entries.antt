-- Which entries a table of diversions may have (dpkg-divert(1)).
use Rattle.std.specs.Prelude.{◌≡◌, ◌≢◌, ℕ, Bool, true, false, List, [], ◌∷◌, not, filter, cond, Option, Some, None}
use Rattle.std.specs.List.{list_any}
use Rattle.std.specs.Str.{IsUtf8, bytes_eq}
use Rattle.host_core.specs.Paths.{Path, is_ship_text}
use Rattle.texts.specs.PackageNames.{is_package_name}
use Rattle.diversions.specs.declared.entry.Owner.{Owner}
use Rattle.diversions.specs.declared.entry.Owner.TheVariants.{Local, Package}
use Rattle.diversions.specs.declared.entry.Diversion.{Diversion}

-- whether one of these entries diverts the path
abbrev pub is_diverted : List Diversion → Path → Bool
is_diverted entries path = list_any (λ d. bytes_eq path d.path) entries

-- whether one of these entries has the path as its target
abbrev pub is_target : List Diversion → Path → Bool
is_target entries path = list_any (λ d. bytes_eq path d.target) entries

-- the entry that diverts a path
abbrev pub entry_of : List Diversion → Path → Option Diversion
entry_of [] path = None
entry_of (d ∷ entries) path = cond (bytes_eq path d.path) (Some d) (entry_of entries path)

-- all entries but that of a path
abbrev pub without : Path → List Diversion → List Diversion
without path entries = filter (λ d. not (bytes_eq path d.path)) entries

-- the administrator, or a package by its name
abbrev pub is_owner : Owner → Bool
is_owner Local = true
is_owner (Package name) = is_package_name name

-- the text of a path that a package may ship
pub record IsShipLine (line : List ℕ) : Type 0 where
  pub text : IsUtf8 line
  pub path : is_ship_text line ≡ true

-- two paths and an owner, as an entry has them
pub record IsWellFormed (d : Diversion) : Type 0 where
  pub path : IsShipLine d.path
  pub target : IsShipLine d.target
  pub owner : is_owner d.owner ≡ true

-- an entry by itself: from one path to another
pub record IsEntry (d : Diversion) : Type 0 where
  pub path : IsShipLine d.path
  pub target : IsShipLine d.target
  pub owner : is_owner d.owner ≡ true
  pub other : d.target ≢ d.path

-- the path stands in none of these entries, neither as diverted nor as target
pub record IsFree (entries : List Diversion) (path : Path) : Type 0 where
  pub not_diverted : is_diverted entries path ≡ false
  pub no_target : is_target entries path ≡ false

-- each is an entry, and no path stands in two of them
abbrev pub IsTable : List Diversion → Type 0
IsTable [] = Unit {0}
IsTable (d ∷ entries) = IsEntry d × IsFree entries d.path × IsFree entries d.target × IsTable entries
