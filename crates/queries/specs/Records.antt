-- What is told of the records: their states, and what the status file says of a package.
use Rattle.std.specs.Prelude.{◌&&◌, ℕ, Bool, true, false, not, List, [], ◌++◌, Option, codes, option_map, if◌then◌else◌}
use Rattle.std.specs.List.{flat_map}
use Rattle.shown_lines.specs.Lines.{line}
use Rattle.record_formats.specs.Tables.{table_text}
use Rattle.record_formats.specs.Values.{formatted_text}
use Rattle.record_formats.specs.declared.layouts.Layout.{Layout}
use Rattle.record_formats.specs.declared.layouts.Layout.TheVariants.{Lines, Table, Format}
use Rattle.recorded_packages.specs.Packages.{is_foreign, root_architecture}
use Rattle.status_records.specs.Paragraphs.{record_text, record_word}
use Rattle.status_records.specs.Records.{record_in}
use Rattle.status_records.specs.Triggers.{has_triggers}
use Rattle.status_records.specs.Words.{flag_word, state_word}
use Rattle.status_records.specs.declared.record.Record.{Record}
use Rattle.status_records.specs.declared.words.Flag.{Flag}
use Rattle.status_records.specs.declared.words.Flag.TheVariants.{Ok, Reinstreq}
use Rattle.status_records.specs.declared.words.State.{State}
use Rattle.status_records.specs.declared.words.State.TheVariants.{NotInstalled, ConfigFiles, HalfInstalled, Unpacked, HalfConfigured, Installed}
use Rattle.queries.specs.Asked.{by_name, told_of}
use Rattle.queries.specs.declared.asked.Told.{Told}

-- told of a package that has to be installed again
abbrev pub reinstreq_mark : Flag → List ℕ
reinstreq_mark Ok = codes ""
reinstreq_mark Reinstreq = codes " reinstreq"

-- `PKG VERSION STATE`, and ` reinstreq` where that is set
abbrev pub list_line : Record → List ℕ
list_line r = line (r.name ++ (codes " " ++ (r.version ++ (codes " " ++ (state_word (record_word r) ++ reinstreq_mark r.flag)))))

-- packages as they are told: by a line each, by dpkg's table, or by a format
abbrev pub told_in : Layout → Option (List ℕ) → List Record → List ℕ
told_in Lines root entries = flat_map list_line entries
told_in Table root entries = table_text root entries
told_in (Format pieces) root entries = formatted_text root pieces entries

-- those whose names match
abbrev pub list_text : Layout → List (List ℕ) → List Record → Told
list_text layout patterns records = told_of (told_in layout (root_architecture records)) patterns records

-- the states that a finished command leaves (Policy 6.6)
abbrev pub is_final : State → Bool
is_final NotInstalled = false
is_final ConfigFiles = true
is_final HalfInstalled = false
is_final Unpacked = false
is_final HalfConfigured = false
is_final Installed = true

-- nothing has to be done: installed ok or config-files ok
abbrev pub is_settled : Flag → State → Bool
is_settled Ok state = is_final state
is_settled Reinstreq state = false

-- and no triggers are to be processed, by it or for it
abbrev pub is_done : Record → Bool
is_done r = is_settled r.flag r.state && not (has_triggers r.triggers)

-- `PKG STATE FLAG`
abbrev pub audit_line : Record → List ℕ
audit_line r = line (r.name ++ (codes " " ++ (state_word (record_word r) ++ (codes " " ++ flag_word r.flag))))

-- the line of a package with which something has to be done, or that is of another architecture than its root
abbrev pub audit_lines : Option (List ℕ) → Record → List ℕ
audit_lines root r = if is_done r && not (is_foreign root r) then [] else audit_line r

-- the lines of all such packages
abbrev pub audit_text : List Record → List ℕ
audit_text records = flat_map (audit_lines (root_architecture records)) (by_name records)

-- the record of a package as the status file has it
abbrev pub status_text : List Record → List ℕ → Option (List ℕ)
status_text records name = option_map record_text (record_in records name)
