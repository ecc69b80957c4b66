-- What a reading of a tree has found on its way.
use Rattle.std.specs.Prelude.{◌≡◌, ◌≤◌, true, ℕ, List, Contains, length}
use Rattle.std.specs.List.{filter, list_any}
use Rattle.std.specs.Str.{IsUtf8}
use Rattle.std.specs.BTreeSet.{contains_text}
use Rattle.host_core.specs.World.{World}
use Rattle.package_tree.specs.ConffileFaults.{HasGoodLines, IsOfBoth}
use Rattle.package_tree.specs.ControlLimit.{IsOverOther}
use Rattle.package_tree.specs.LineNames.{is_named}
use Rattle.package_tree.specs.OtherFiles.{AreOthers, names_of}
use Rattle.package_tree.specs.Package.{is_trimmed, AreTrimmed}
use Rattle.package_tree.specs.ShipMap.{paths_of, is_file_in, AreFiles, IsTooLarge}
use Rattle.package_tree.specs.Shipped.{AreInOrder, ArePathTexts, HasNoPath, IsShipLine}
use Rattle.package_tree.specs.declared.conffile_lines.Entry.{Entry}
use Rattle.package_tree.specs.declared.line_names.LineKind.TheVariants.{Plain, Flagged}
use Rattle.package_tree.specs.declared.reading.Found.{Found}
use Rattle.package_tree.specs.declared.reading.Lines.{Lines}

-- these lines, what the plain ones name, and the flagged paths that a package may ship, in path order
pub record AreLinesOf (all : List Entry) (lines : Lines) : Type 0 where
  pub entries : lines.entries.items ≡ all
  pub plain : (q : List ℕ) → IsUtf8 q → contains_text lines.plain q ≡ list_any (is_named Plain q) all
  pub order : AreInOrder lines.flagged.items
  pub only : (q : List ℕ) → Contains lines.flagged.items q → list_any (is_named Flagged q) all ≡ true
  pub whole : (q : List ℕ) → IsShipLine q → list_any (is_named Flagged q) all ≡ true → Contains lines.flagged.items q

-- no path of a line ends in a blank
pub record AreTrimmedLines (lines : Lines) : Type 0 where
  pub plain : (q : List ℕ) → contains_text lines.plain q ≡ true → is_trimmed q ≡ true
  pub flagged : AreTrimmed lines.flagged.items

-- nothing is wrong with what the tree ships, and that and the other files were found
pub record IsFound (w : World) (found : Found) : Type 0 where
  pub lines : HasGoodLines w
  pub room : HasNoPath (IsTooLarge w)
  pub files : AreFiles w found.files.items
  pub others : AreOthers w found.others.items
  pub small : HasNoPath (IsOverOther w)

-- the parts fit one another, whatever the host told
pub record IsWhole (lines : Lines) (found : Found) : Type 0 where
  pub order : AreInOrder (paths_of found.files.items)
  pub texts : ArePathTexts (paths_of found.files.items)
  pub few : length found.files.items ≤ 65536
  pub conffiles : found.conffiles.items ≡ paths_of (filter (is_file_in (contains_text lines.plain)) found.files.items)
  pub flagged : AreInOrder lines.flagged.items
  pub apart : HasNoPath (IsOfBoth lines.flagged.items (paths_of found.files.items))
  pub others : AreInOrder (names_of found.others.items)
