-- What a verification of a package against its tree tells.
use Rattle.std.specs.Prelude.{◌≡◌, ◌+◌, ◌&&◌, not, ℕ, Bool, List, [], ◌++◌, Option, Some, None, codes, map, count_by, flat_map, if◌then◌else◌}
use Rattle.std.specs.Str.{bytes_eq}
use Rattle.host_core.specs.Host.{Needs, State, faults}
use Rattle.host_core.specs.World.{World}
use Rattle.diversions.specs.Ways.{Ways}
use Rattle.file_lists.specs.declared.paths.PackageList.{PackageList}
use Rattle.file_lists.specs.Followed.{AreWhole}
use Rattle.package_tree.specs.declared.package.Package.{Package}
use Rattle.package_tree.specs.declared.shipped.Shipped.{Shipped}
use Rattle.status_records.specs.Records.{record_in}
use Rattle.status_records.specs.declared.record.Record.{Record}
use Rattle.shown_lines.specs.Lines.{line}
use Rattle.inquiries.specs.Read.{HasFollowed, Sight}
use Rattle.verification.specs.Looks.{Look}
use Rattle.verification.specs.Shipped.{looked_paths, shipped_lines}
use Rattle.verification.specs.Verified.{cut_lines, has_files, unknown_lines}

-- the package has its files, and is recorded with this version
abbrev pub is_compared : Record → List ℕ → Bool
is_compared r version = has_files r.state && bytes_eq r.version version

-- `refused PKG WrongState`, where it hasn't its files
abbrev pub state_line : Record → List ℕ
state_line r = line (codes "refused " ++ (r.name ++ codes " WrongState"))

-- `refused PKG OtherVersion RECORDED`
abbrev pub version_line : Record → List ℕ
version_line r = line (codes "refused " ++ (r.name ++ (codes " OtherVersion " ++ r.version)))

-- why a package isn't compared, or that work on it was cut off
abbrev pub standing_lines : Record → List ℕ → List ℕ
standing_lines r version = if not (has_files r.state) then state_line r else if bytes_eq r.version version then cut_lines r else version_line r

abbrev pub recorded_lines : Option Record → List ℕ → List ℕ
recorded_lines None version = []
recorded_lines (Some r) version = standing_lines r version

-- what is told of the package itself
abbrev pub heading_lines : List Record → Package → List ℕ
heading_lines table p = unknown_lines table p.name ++ recorded_lines (record_in table p.name) p.version

-- what is compared: all that the tree ships, where the package is recorded with its version and has its files
abbrev pub compared_files : Option Record → Package → List Shipped
compared_files None p = []
compared_files (Some r) p = if is_compared r p.version then p.files else []

-- The text that is told: of the records and diversions that stand there, and the aliases of the root, with one look at each path
-- that is compared. The device failed as often as a look did.
pub record IsCompared (p : Package) (old new : State) (text : List ℕ) : Type 0 where
  pub table : List Record
  pub lists : List PackageList
  pub ways : Ways
  pub sight : Sight
  pub read : Needs new (λ w. HasFollowed table lists ways sight w × AreWhole w (looked_paths p.files) ways.aliases)
  pub looks : List (Look Shipped)
  pub each : map (λ l. l.at) looks ≡ compared_files (record_in table p.name) p
  pub failed : faults new ≡ faults old + count_by (λ l. l.failed) looks
  pub told : Needs new (λ w. text ≡ heading_lines table p ++ flat_map (shipped_lines ways p.name w) looks)
