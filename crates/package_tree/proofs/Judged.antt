-- What is told of the lines and of the shipped paths.
use Rattle.std.proofs.Common.{List, Option}
use Rattle.std.specs.Prelude.{MatchOption}
use Rattle.host_core.specs.Paths.{Path}
use Rattle.host_core.specs.World.{World}
use Rattle.package_tree.specs.Conffiles.{entries_at, HasNoEntry}
use Rattle.package_tree.specs.ConffileFaults.{IsAstray, IsFirstAstray, IsFlaggedAndShipped, IsOfBoth}
use Rattle.package_tree.specs.Debian.{conffiles_path}
use Rattle.package_tree.specs.PathFaults.{AreGoodPaths}
use Rattle.package_tree.specs.Reading.{AreLinesOf}
use Rattle.package_tree.specs.ShipMap.{AreFiles, IsExcess, IsTooLarge}
use Rattle.package_tree.specs.Shipped.{ArePathTexts, HasNoPath, IsFirstPath}
use Rattle.package_tree.specs.declared.conffile_lines.Entry.{Entry}
use Rattle.package_tree.specs.declared.fault.LineName.{LineName}
use Rattle.package_tree.specs.declared.collecting.Excess.{Excess}
use Rattle.package_tree.specs.declared.reading.Lines.{Lines}
use Rattle.package_tree.specs.declared.shipped.Shipped.{Shipped}
use Rattle.package_tree.proofs.Firsts.{ship_line}
use Rattle.package_tree.proofs.Filtered.{flagged_line, line_flagged}

abbrev pub Astray : World → List Entry → Option LineName → Type 0
Astray w entries found = MatchOption found (HasNoEntry (IsAstray w) entries) (IsFirstAstray w entries)

abbrev pub Shared : List Path → List Path → Option Path → Type 0
Shared flagged paths found = MatchOption found (HasNoPath (IsOfBoth flagged paths)) (IsFirstPath (IsOfBoth flagged paths))

abbrev pub Large : World → List Shipped → Option Excess → Type 0
Large w files found = MatchOption found (AreFiles w files × HasNoPath (IsTooLarge w)) (IsExcess w)

pub flagged_shipped : (w : World) (paths : List Path) (lines : Lines) → AreGoodPaths w paths → ArePathTexts paths → AreLinesOf (entries_at (w conffiles_path)) lines → (q : Path) → IsFlaggedAndShipped w q → IsOfBoth lines.flagged.items paths q
flagged_shipped w paths lines good texts are q is = (are.whole q (ship_line w paths good.0 good.1 texts q is.1) (flagged_line q (entries_at (w conffiles_path)) is.0), good.1.whole q is.1)

pub shipped_flagged : (w : World) (paths : List Path) (lines : Lines) → AreGoodPaths w paths → AreLinesOf (entries_at (w conffiles_path)) lines → (q : Path) → IsOfBoth lines.flagged.items paths q → IsFlaggedAndShipped w q
shipped_flagged w paths lines good are q is = (line_flagged q (entries_at (w conffiles_path)) (are.only q is.0), good.1.only q is.1)

pub first_as : (P Q : Path → Type 0) (path : Path) → ((q : Path) → Q q → P q) → (P path → Q path) → IsFirstPath P path → IsFirstPath Q path
first_as P Q path back there first = record { holds = there first.holds; first = λ q is before. first.first q (back q is) before }
