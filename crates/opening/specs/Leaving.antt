-- What opening an administration changes.
use Rattle.std.specs.Prelude.{◌≡◌, ◌⊎◌, Bool, true, false, List, [], ◌∷◌, None, codes}
use Rattle.std.specs.List.{list_any}
use Rattle.std.specs.Str.{bytes_eq}
use Rattle.host_core.specs.Paths.{Path}
use Rattle.host_core.specs.World.{World, IsDirectory}
use Rattle.info_format.specs.Stage.{IsNaming}
use Rattle.status_db.specs.Noting.{IsMerging}
use Rattle.status_db.specs.Held.{HasRecords}
use Rattle.status_records.specs.declared.record.Record.{Record}
use Rattle.administration.specs.Directories.{new_directory}
use Rattle.administration.specs.Places.{home_path, info_path, updates_path, tmp_path, is_within}

abbrev pub root_path : Path
root_path = []

abbrev pub var_path : Path
var_path = codes "/var"

abbrev pub lib_path : Path
lib_path = codes "/var/lib"

-- the directories of the administration, and those above it
abbrev pub ways : List Path
ways = var_path ∷ lib_path ∷ home_path ∷ updates_path ∷ info_path ∷ []

abbrev pub is_way : Path → Bool
is_way q = list_any (bytes_eq q) ways

-- one of them that was missing, and is there now; its access is set last
pub record IsNewWay (q : Path) (old now : World) : Type 0 where
  pub way : is_way q ≡ true
  pub missing : old q ≡ None
  pub made : IsDirectory (now q)

-- those of them that were made have mode 755
abbrev pub HasMadeWays : World → World → Type 0
HasMadeWays old new = (q : Path) → is_way q ≡ true → (new q ≡ old q) ⊎ ((old q ≡ None) × (new q ≡ new_directory))

-- At each moment: missing directories of the administration were made, of what a unit had left in `tmp.ci` some may be
-- gone, and nothing else has changed.
pub record IsOpening (old now : World) : Type 0 where
  pub rest : (q : Path) → is_within tmp_path q ≡ false → (now q ≡ old q) ⊎ IsNewWay q old now
  pub left : (q : Path) → is_within tmp_path q ≡ true → (now q ≡ old q) ⊎ (now q ≡ None)

-- the same, or all that was opened, and the notes are being merged into the status file, which changes no record
pub data IsReading (old now : World) : Type 0 where
  opening : IsOpening old now → IsReading old now
  merging : (read : World) (table : List Record) → IsOpening old read → HasRecords read table → IsMerging table read now → IsReading old now

-- before that names in `info` were brought to format 0, or are being brought
pub record IsOpeningOrMerging (old now : World) : Type 0 where
  pub begun : World
  pub names : IsNaming old begun
  pub reading : IsReading begun now
