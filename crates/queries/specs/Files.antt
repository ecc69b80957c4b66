-- What is told of the file lists: a package's list, and who owns a place.
use Rattle.std.specs.Prelude.{ℕ, List, [], ◌++◌, Option, codes, option_map, if◌then◌else◌}
use Rattle.std.specs.List.{flat_map}
use Rattle.host_core.specs.Paths.{Path}
use Rattle.diversions.specs.Ways.{Ways}
use Rattle.file_lists.specs.Owners.{listed, paths_of, owners_of}
use Rattle.file_lists.specs.declared.paths.PackageList.{PackageList}
use Rattle.file_lists.specs.declared.paths.Listed.{Listed}
use Rattle.status_records.specs.Records.{record_in}
use Rattle.status_records.specs.declared.record.Record.{Record}
use Rattle.shown_lines.specs.Lines.{line}
use Rattle.name_patterns.specs.Patterns.{matches}
use Rattle.queries.specs.Asked.{by_name}
use Rattle.queries.specs.Paths.{path_text, path_line}

-- a list: `/.`, and then its paths
abbrev pub listing_text : List Path → List ℕ
listing_text paths = codes "/.\n" ++ flat_map path_line paths

-- the list of a package that has a record
abbrev pub files_text : List Record → List PackageList → List ℕ → Option (List ℕ)
files_text records lists name = option_map (λ r. listing_text (paths_of lists name)) (record_in records name)

-- `PKG: LISTED`
abbrev pub search_line : Listed → List ℕ
search_line l = line (l.name ++ (codes ": " ++ path_text l.path))

-- each listed path that lies at a place
abbrev pub search_text : Ways → List PackageList → Path → List ℕ
search_text ways lists at = flat_map search_line (owners_of ways lists at)

-- the line of a listed path that matches a pattern
abbrev pub matching_lines : List ℕ → List ℕ → Path → List ℕ
matching_lines pattern name path = if matches pattern (path_text path) then search_line (listed name path) else []

-- those of one package's list
abbrev pub matching_in : List ℕ → List PackageList → Record → List ℕ
matching_in pattern lists r = flat_map (matching_lines pattern r.name) (paths_of lists r.name)

-- each listed path that matches a pattern, package after package in the order of names
abbrev pub matching_text : List ℕ → List Record → List PackageList → List ℕ
matching_text pattern records lists = flat_map (matching_in pattern lists) (by_name records)
