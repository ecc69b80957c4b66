-- What a verification of packages tells.
use Rattle.std.specs.Prelude.{◌≡◌, ◌+◌, ◌==◌, ◌||◌, ℕ, length, Bool, true, false, List, [], ◌∷◌, ◌++◌, Option, Some, None, codes, is_some, map, filter, count_by, flat_map, if◌then◌else◌}
use Rattle.std.specs.List.{list_any}
use Rattle.std.specs.Str.{bytes_eq}
use Rattle.host_core.specs.Host.{Needs, State, faults}
use Rattle.host_core.specs.Paths.{Path}
use Rattle.host_core.specs.World.{World}
use Rattle.host_core.specs.declared.node.Node.{Node}
use Rattle.diversions.specs.Ways.{place, Ways}
use Rattle.file_lists.specs.Owners.{AreLists, paths_of}
use Rattle.file_lists.specs.declared.paths.PackageList.{PackageList}
use Rattle.status_records.specs.Records.{record_in}
use Rattle.status_records.specs.Paragraphs.{record_word}
use Rattle.status_records.specs.Words.{flag_word, state_word}
use Rattle.status_records.specs.declared.record.Record.{Record}
use Rattle.status_records.specs.declared.words.State.TheVariants.{NotInstalled, ConfigFiles, HalfInstalled, Unpacked, HalfConfigured, Installed}
use Rattle.status_records.specs.declared.words.State.{State as APackageState}
use Rattle.shown_lines.specs.Lines.{line}
use Rattle.queries.specs.Records.{is_settled}
use Rattle.inquiries.specs.Read.{HasFollowed, Sight}
use Rattle.verification.specs.Looks.{AddsEach, Look}
use Rattle.verification.specs.Sums.{sums_at, sums_path}
use Rattle.verification.specs.Differences.{difference_at, difference_lines, known_digest}
use Rattle.verification.specs.declared.difference.Difference.{Difference}
use Rattle.verification.specs.declared.difference.Difference.TheVariants.{Unread}

-- no names stand for all packages
abbrev pub is_wanted : List (List ℕ) → List ℕ → Bool
is_wanted names name = (length names == 0) || list_any (bytes_eq name) names

-- the records that are verified, in the order of their names
abbrev pub wanted : List (List ℕ) → List Record → List Record
wanted names table = filter (λ r. is_wanted names r.name) table

-- `refused NAME Unknown`, of a name without a record
abbrev pub unknown_lines : List Record → List ℕ → List ℕ
unknown_lines table name = if is_some (record_in table name) then [] else line (codes "refused " ++ (name ++ codes " Unknown"))

-- `cut PKG STATE FLAG`, of a package with which work was cut off
abbrev pub cut_lines : Record → List ℕ
cut_lines r = if is_settled r.flag r.state then [] else line (codes "cut " ++ (r.name ++ (codes " " ++ (state_word (record_word r) ++ (codes " " ++ flag_word r.flag)))))

-- the states in which a package has its files
abbrev pub has_files : APackageState → Bool
has_files NotInstalled = false
has_files ConfigFiles = false
has_files HalfInstalled = false
has_files Unpacked = true
has_files HalfConfigured = true
has_files Installed = true

-- a listed path, with the record of the package that lists it
abbrev pub Listing : Type 0
Listing = Record × Path

-- the paths of a package that has its files, in the order of its list
abbrev pub listings_of : List PackageList → Record → List Listing
listings_of lists r = if has_files r.state then map (λ path. (r, path)) (paths_of lists r.name) else []

-- what it told: the difference, or that there is no knowing
abbrev pub told_by : Bool → Option Node → Option (List ℕ) → Option Difference
told_by true _ known = Some Unread
told_by false node known = difference_at node known

-- its line, if it has one: what stands at the path's place is compared with what is known of the path, by `md5sums` as it is seen
abbrev pub look_lines : Ways → Sight → World → Look Listing → List ℕ
look_lines ways sight w l =
    let r = l.at.0 in
    let path = l.at.1 in
    difference_lines path r.name (told_by l.failed (w (place ways r.name path)) (known_digest r.conffiles (sums_at (sight w (sums_path r.name))) path))

-- names without a record, packages with which work was cut off, and then each path that differs
abbrev pub verified_text : List (List ℕ) → List Record → Ways → Sight → World → List (Look Listing) → List ℕ
verified_text names table ways sight w looks =
    flat_map (unknown_lines table) names ++ (flat_map cut_lines (wanted names table) ++ flat_map (look_lines ways sight w) looks)

-- at each of these listed paths one look was taken, and text was added by what the looks told
abbrev pub AddsLooks : Ways → Sight → List Listing → State → State → List ℕ → List ℕ → Type 0
AddsLooks ways sight = AddsEach (look_lines ways sight)

-- The text that is told: of the records, lists and diversions that stand there, and the aliases of the root, with one look at each listed
-- path of the packages that are verified. The device failed as often as a look did.
pub record IsVerified (names : List (List ℕ)) (old new : State) (text : List ℕ) : Type 0 where
  pub table : List Record
  pub lists : List PackageList
  pub ways : Ways
  pub sight : Sight
  pub read : Needs new (HasFollowed table lists ways sight)
  pub order : AreLists lists
  pub looks : List (Look Listing)
  pub each : map (λ l. l.at) looks ≡ flat_map (listings_of lists) (wanted names table)
  pub failed : faults new ≡ faults old + count_by (λ l. l.failed) looks
  pub told : Needs new (λ w. text ≡ verified_text names table ways sight w looks)
