-- What a package lists once its files are removed, and which of its paths go (Policy 6.8).
use Rattle.std.specs.Prelude.{List, [], cond}
use Rattle.host_core.specs.Paths.{Path}
use Rattle.diversions.specs.Ways.{Ways}
use Rattle.file_lists.specs.Owners.{AreListPaths, paths_of}
use Rattle.file_lists.specs.declared.paths.PackageList.{PackageList}
use Rattle.file_removal.specs.declared.leaving.Leaving.{Leaving}
use Rattle.list_changes.specs.Leaving.{leaving_of}
use Rattle.list_changes.specs.NewList.{IsWithParents}
use Rattle.status_records.specs.declared.record.Record.{Record}
use Rattle.removal_engine.specs.Records.{entry_paths, goes_at_once, kept_entries}
use Rattle.removal_engine.specs.declared.scripts.Stored.{Stored}

-- the conffiles above which directories stay listed to the last step of a purge: all of the record's, unless nothing is left of the package
abbrev pub housed : Record → Stored → List Path
housed r stored = cond (goes_at_once r stored) [] (entry_paths r.conffiles)

-- the conffiles that stay, and the directories above all of them, in order; no path where nothing is left of the package
pub record IsToCome (r : Record) (stored : Stored) (paths : List Path) : Type 0 where
  pub are_paths : AreListPaths paths
  pub are : IsWithParents (entry_paths (kept_entries r.conffiles)) (housed r stored) paths

-- Of the listed paths those go that aren't in the list to come, but for conffiles.
abbrev pub leaving_files : Ways → List PackageList → Record → (to_come : List Path) → List Leaving
leaving_files ways lists r to_come = leaving_of ways lists r.name to_come (entry_paths r.conffiles) (paths_of lists r.name)

-- Behind a purge nothing is listed: each of these paths goes that isn't a conffile, nor another package's.
abbrev pub leaving_directories : Ways → List PackageList → Record → (listed : List Path) → List Leaving
leaving_directories ways lists r listed = leaving_of ways lists r.name [] (entry_paths r.conffiles) listed
