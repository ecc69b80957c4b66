-- Names beside the places of a package at which nothing is left behind a removal or a purge (Policy 6.8, 10.7.3).
use Rattle.std.specs.Prelude.{ℕ, not, cond, List, [], ◌∷◌, ◌++◌, map, filter, codes, nat_eq}
use Rattle.std.specs.List.{flat_map, list_any}
use Rattle.std.specs.Str.{bytes_eq}
use Rattle.host_core.specs.Paths.{Path, reserved_suffixes}
use Rattle.host_core.specs.Suffixes.{suffix_text}
use Rattle.host_core.specs.declared.suffix.Suffix.TheVariants.{New, Tmp, Inst}
use Rattle.diversions.specs.Ways.{place, Ways}
use Rattle.file_lists.specs.Owners.{paths_of, has_other_owner}
use Rattle.file_lists.specs.declared.paths.PackageList.{PackageList}
use Rattle.list_changes.specs.Clearable.{clearable}
use Rattle.status_records.specs.declared.entries.PendingDigest.{PendingDigest}
use Rattle.status_records.specs.declared.record.Record.{Record}
use Rattle.removal_engine.specs.Records.{entry_paths}

-- what an unpack leaves beside a place where it is stopped
abbrev pub unpack_names : Path → List Path
unpack_names at = (at ++ suffix_text Inst) ∷ (at ++ suffix_text Tmp) ∷ []

-- the same of each listed path that isn't a conffile
abbrev pub stopped_names : Ways → List ℕ → (conffiles listed : List Path) → List Path
stopped_names ways name conffiles listed =
    flat_map (λ path. cond (list_any (bytes_eq path) conffiles) [] (clearable (unpack_names (place ways name path)))) listed

-- where conffiles wait to be settled: a removal clears these names before the paths, since one may be all that is left in a directory
abbrev pub waiting_names : Ways → List ℕ → List PendingDigest → List Path
waiting_names ways name pending = flat_map (λ d. clearable ((place ways name d.path ++ suffix_text New) ∷ [])) pending

-- the names that a removal clears behind the paths
abbrev pub cleared_names : Ways → List PackageList → Record → List Path
cleared_names ways lists r = stopped_names ways r.name (entry_paths r.conffiles) (paths_of lists r.name)

-- a number sign in front of what stands behind the last slash
abbrev pub signed : Path → Path
signed [] = 35 ∷ []
signed (b ∷ rest) = cond (list_any (nat_eq 47) (b ∷ rest)) (b ∷ signed rest) (35 ∷ b ∷ rest)

-- what editors and the installer leave beside a conffile, and itself
abbrev pub side_names : Path → List Path
side_names x = x ∷ (x ++ codes "~") ∷ (x ++ codes "%") ∷ (signed x ++ codes "#") ∷ map (λ suffix. x ++ suffix) reserved_suffixes

-- those of these names that can be cleared and are no place of another package's list
abbrev pub ownerless : Ways → List PackageList → List ℕ → List Path → List Path
ownerless ways lists name names = filter (λ q. not (has_other_owner ways lists name q)) (clearable names)

-- the side names of one conffile: none where another list has its place
abbrev pub side_names_at : Ways → List PackageList → List ℕ → (at : Path) → List Path
side_names_at ways lists name at = cond (has_other_owner ways lists name at) [] (ownerless ways lists name (side_names at))

-- the names that a purge clears
abbrev pub purged_names : Ways → List PackageList → Record → List Path
purged_names ways lists r = flat_map (λ e. side_names_at ways lists r.name (place ways r.name e.path)) r.conffiles
