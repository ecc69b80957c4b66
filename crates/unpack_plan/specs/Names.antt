-- Names that only the installer writes, and at which nothing is left after an unpack (Policy 6.6, step 11).
use Rattle.std.specs.Prelude.{◌++◌, ℕ, Bool, true, false, not, cond, List, [], ◌∷◌, Option, Some, None, map, filter}
use Rattle.std.specs.List.{flat_map}
use Rattle.host_core.specs.Paths.{Path}
use Rattle.host_core.specs.Suffixes.{suffix_text}
use Rattle.host_core.specs.declared.suffix.Suffix.TheVariants.{New}
use Rattle.diversions.specs.Ways.{place, Ways}
use Rattle.file_check.specs.Ships.{is_conffile}
use Rattle.file_removal.specs.declared.leaving.Leaving.{Leaving}
use Rattle.package_files.specs.declared.work.Work.{Work}
use Rattle.list_changes.specs.Clearable.{clearable}
use Rattle.status_records.specs.declared.record.Record.{Record}
use Rattle.status_records.specs.declared.words.State.{State}
use Rattle.status_records.specs.declared.words.State.TheVariants as state
use Rattle.unpack_plan.specs.Lists.{entry_paths}
use Rattle.unpack_plan.specs.Records.{entries_of, pending_of}

-- the conffiles that the record found tells of, settled or not
abbrev pub known_conffiles : Option Record → List Path
known_conffiles found = entry_paths (entries_of found) ++ map (λ d. d.path) (pending_of found)

-- where the package's own conffile waited to be settled (Policy 10.7)
abbrev pub waiting_name : Ways → List ℕ → Path → Path
waiting_name ways name path = place ways name path ++ suffix_text New

-- the same of each of these paths that isn't shipped as a conffile any more
abbrev pub left_names : Ways → List ℕ → (conffiles paths : List Path) → List Path
left_names ways name conffiles paths = map (waiting_name ways name) (filter (λ q. not (is_conffile conffiles q)) paths)

-- where what stood at the places of works is kept meanwhile
abbrev pub backups : List Work → List Path
backups works = map (λ x. x.backup) works

-- a unit of the package was cut behind its first file: it marks the package so
abbrev pub is_marked : State → Bool
is_marked state.NotInstalled = false
is_marked state.ConfigFiles = false
is_marked state.HalfInstalled = true
is_marked state.Unpacked = false
is_marked state.HalfConfigured = false
is_marked state.Installed = false

abbrev pub was_cut : Option Record → Bool
was_cut None = false
was_cut (Some r) = is_marked r.state

-- beside the place of an old path that goes: where a conffile waited that the cut unit shipped
abbrev pub gone_name : Leaving → List Path
gone_name x = cond x.goes (clearable ((x.place ++ suffix_text New) ∷ [])) []

abbrev pub gone_names : List Leaving → List Path
gone_names leaving = flat_map gone_name leaving

-- the same behind a unit that was cut alone
abbrev pub cut_names : Option Record → List Leaving → List Path
cut_names found leaving = cond (was_cut found) (gone_names leaving) []

abbrev pub cleared_names : Ways → List ℕ → Option Record → (conffiles : List Path) → List Work → List Leaving → List Path
cleared_names ways name found conffiles works leaving =
    (backups works ++ left_names ways name conffiles (known_conffiles found)) ++ cut_names found leaving
