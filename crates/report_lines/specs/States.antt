-- The line of a touched package: its record at the unit's end (Policy 6.6 names the states).
use Rattle.std.specs.Prelude.{ℕ, List, ◌++◌, Option, Some, None, codes}
use Rattle.status_records.specs.Words.{want_word, flag_word, state_word}
use Rattle.status_records.specs.Paragraphs.{record_word}
use Rattle.status_records.specs.declared.record.Record.{Record}
use Rattle.shown_lines.specs.Lines.{line}
use Rattle.unit_reports.specs.declared.report.Touched.{Touched}

-- version, want, flag and state of a record, or that there is none
abbrev pub state_text : Option Record → List ℕ
state_text None = codes "none"
state_text (Some r) = r.version ++ (codes " " ++ (want_word r.want ++ (codes " " ++ (flag_word r.flag ++ (codes " " ++ state_word (record_word r))))))

-- `state PKG VERSION WANT FLAG STATE` or `state PKG none`
abbrev pub state_line : Touched → List ℕ
state_line t = line (codes "state " ++ (t.package ++ (codes " " ++ state_text t.entry)))
