-- What is wrong with the lines of `conffiles` (Policy 10.7.1).
use Rattle.std.specs.Prelude.{◌≡◌, ℕ, List, [], Contains}
use Rattle.std.specs.Str.{IsUtf8}
use Rattle.host_core.specs.Paths.{Path}
use Rattle.host_core.specs.World.{World}
use Rattle.package_tree.specs.Conffiles.{entries_at, HasNoEntry, IsFirstEntry, IsOdd}
use Rattle.package_tree.specs.Debian.{conffiles_path}
use Rattle.package_tree.specs.ShipMap.{ShipsFile}
use Rattle.package_tree.specs.Shipped.{AreInOrder, HasNoPath, IsShipLine, IsShipped}
use Rattle.package_tree.specs.declared.conffile_lines.Entry.{Entry}
use Rattle.package_tree.specs.declared.conffile_lines.Entry.TheVariants.{Blank, Plain, Flagged, Odd}
use Rattle.package_tree.specs.declared.fault.LineName.{LineName}
use Rattle.package_tree.specs.declared.fault.LineName.TheVariants.{Text, Number}

-- a plain line isn't the path of a shipped file, or a flagged path isn't one that a package may ship
abbrev pub IsAstray : World → Entry → Type 0
IsAstray w Blank = ⊥
IsAstray w (Plain path) = ShipsFile w path → ⊥
IsAstray w (Flagged path) = IsShipLine path → ⊥
IsAstray w Odd = ⊥

-- what a line names
abbrev pub named_by : Entry → List ℕ
named_by Blank = []
named_by (Plain path) = path
named_by (Flagged path) = path
named_by Odd = []

-- a fault gives what the line names, or the line's number where that is no text
abbrev pub IsNameOf : Entry → ℕ → LineName → Type 0
IsNameOf entry number (Text text) = IsUtf8 text × (text ≡ named_by entry)
IsNameOf entry number (Number line) = (IsUtf8 (named_by entry) → ⊥) × (line ≡ number)

-- so is the first such line named
abbrev pub IsFirstAstray : World → List Entry → LineName → Type 0
IsFirstAstray w entries name = (entry : Entry) × (number : ℕ) × IsFirstEntry (IsAstray w) entries number entry × IsNameOf entry number name

-- a path stands in both lists
abbrev pub IsOfBoth : List Path → List Path → Path → Type 0
IsOfBoth ps qs q = Contains ps q × Contains qs q

-- a path that is to go with the upgrade is shipped
abbrev pub IsFlaggedAndShipped : World → Path → Type 0
IsFlaggedAndShipped w q = Contains (entries_at (w conffiles_path)) (Flagged q) × IsShipped w q

-- nothing is wrong with any line
pub record HasGoodLines (w : World) : Type 0 where
  pub named : HasNoEntry (IsAstray w) (entries_at (w conffiles_path))
  pub flagged : HasNoPath (IsFlaggedAndShipped w)
  pub words : HasNoEntry IsOdd (entries_at (w conffiles_path))

-- the paths that lines of one kind name, in path order; a second mention counts for nothing
pub record AreNamed (kind : List ℕ → Entry) (entries : List Entry) (paths : List Path) : Type 0 where
  pub only : (q : Path) → Contains paths q → Contains entries (kind q)
  pub whole : (q : Path) → Contains entries (kind q) → Contains paths q
  pub order : AreInOrder paths
