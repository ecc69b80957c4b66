-- Whose interests are kept.
use Rattle.std.specs.Prelude.{ℕ, Bool, if◌then◌else◌, List, [], Option, Some, None}
use Rattle.std.specs.List.{flat_map}
use Rattle.host_core.specs.World.{World}
use Rattle.info_format.specs.Names.{architecture_of, long_front}
use Rattle.status_records.specs.declared.record.Record.{Record}
use Rattle.trigger_interests.specs.Interests.{declared, interests_by}
use Rattle.trigger_interests.specs.declared.interests.Interest.{Interest}
use Rattle.trigger_journal.specs.Ahead.{has_files}

abbrev pub label_by : List ℕ → Option (List ℕ) → List ℕ
label_by name None = name
label_by name (Some architecture) = long_front name architecture

-- a package as dpkg names it there: with its architecture where several of it may be installed
abbrev pub label_of : Record → List ℕ
label_of r = label_by r.name (architecture_of r)

-- those of a package with files, by its file `triggers`; another has none
abbrev pub entries_by : World → Record → List Interest
entries_by w r = if has_files r.state then interests_by (label_of r) (declared w r.name) else []

-- those of packages, in the order of the records
abbrev pub entries_of : World → List Record → List Interest
entries_of w records = flat_map (entries_by w) records
