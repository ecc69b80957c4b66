-- What is wanted of packages, as dpkg's `--get-selections` prints it.
use Rattle.std.specs.Prelude.{ℕ, Bool, true, false, List, [], ◌++◌, ◌-◌, ◌/◌, codes, length, max, replicate, if◌then◌else◌}
use Rattle.std.specs.List.{flat_map}
use Rattle.shown_lines.specs.Lines.{shown}
use Rattle.status_records.specs.Words.{want_word}
use Rattle.status_records.specs.declared.record.Record.{Record}
use Rattle.status_records.specs.declared.words.Want.{Want}
use Rattle.status_records.specs.declared.words.Want.TheVariants.{Unknown, Install, Hold, Deinstall, Purge}
use Rattle.queries.specs.Asked.{told_of}
use Rattle.queries.specs.declared.asked.Told.{Told}

-- The word stands in column 48, tabs of eight columns before it, behind a name with room for one of them; else one tab does.
abbrev pub tabs_behind : List ℕ → List ℕ
tabs_behind name = replicate (max 1 (6 - length name / 8)) 9

-- `PKG`, tabs, `WANT`
abbrev pub selection_line : Record → List ℕ
selection_line r = shown r.name ++ (tabs_behind r.name ++ (want_word r.want ++ codes "\n"))

-- something is wanted of a package
abbrev pub is_wanted : Want → Bool
is_wanted Unknown = false
is_wanted Install = true
is_wanted Hold = true
is_wanted Deinstall = true
is_wanted Purge = true

-- the line of such a package
abbrev pub selection_lines : Record → List ℕ
selection_lines r = if is_wanted r.want then selection_line r else []

-- the lines of all such packages, of those whose names match
abbrev pub selections_text : List (List ℕ) → List Record → Told
selections_text patterns records = told_of (flat_map selection_lines) patterns records
