-- dpkg's table of packages (`dpkg -l`), as it is printed where standard output is no terminal: no value is cut.
use Rattle.std.specs.Prelude.{ℕ, List, [], ◌∷◌, ◌++◌, Option, true, codes, fold, length, map, max, replicate}
use Rattle.std.specs.List.{flat_map}
use Rattle.control_fields.specs.declared.field.Field.{Field}
use Rattle.status_records.specs.Paragraphs.{paragraph_of}
use Rattle.status_records.specs.declared.record.Record.{Record}
use Rattle.record_formats.specs.Values.{abbreviation, line_in, padded, qualified_name, summary}
use Rattle.record_formats.specs.declared.rows.Row.{Row}
use Rattle.record_formats.specs.declared.rows.Widths.{Widths}

-- the row of a package, whose paragraph has these fields
abbrev pub row_from : Option (List ℕ) → Record → List Field → Row
row_from root r fields = record {
  standing = abbreviation r;
  name = qualified_name root r fields;
  version = r.version;
  architecture = line_in (codes "architecture") fields;
  summary = summary r fields;
}

unfoldable pub row_of : Option (List ℕ) → Record → Row
row_of root r = row_from root r (paragraph_of r)

-- each column is as wide as its widest value, in bytes, and no narrower than this
abbrev pub least : Widths
least = record { name = 14; version = 12; architecture = 12; summary = 33 }

abbrev pub widened : Widths → Row → Widths
widened w row = record {
  name = max w.name (length row.name);
  version = max w.version (length row.version);
  architecture = max w.architecture (length row.architecture);
  summary = max w.summary (length row.summary);
}

abbrev pub widths_of : List Row → Widths
widths_of rows = fold widened least rows

-- a value in its column
abbrev pub cell : ℕ → List ℕ → List ℕ
cell width text = padded width true text ++ codes " "

-- three columns, and what stands behind them
abbrev pub cells : Widths → List ℕ → List ℕ → List ℕ → List ℕ → List ℕ
cells w name version architecture rest = cell w.name name ++ (cell w.version version ++ (cell w.architecture architecture ++ (rest ++ codes "\n")))

abbrev pub row_text : Widths → Row → List ℕ
row_text w row = row.standing ++ (codes " " ++ cells w row.name row.version row.architecture row.summary)

-- what the letters stand for
abbrev pub key_text : List ℕ
key_text = codes "Desired=Unknown/Install/Remove/Purge/Hold\n| Status=Not/Inst/Conf-files/Unpacked/halF-conf/Half-inst/trig-aWait/Trig-pend\n|/ Err?=(none)/Reinst-required (Status,Err: uppercase=bad)\n"

abbrev pub title_text : Widths → List ℕ
title_text w = codes "||/ " ++ cells w (codes "Name") (codes "Version") (codes "Architecture") (codes "Description")

-- strokes below a title
abbrev pub strokes : ℕ → List ℕ
strokes width = replicate width 61

abbrev pub rule_text : Widths → List ℕ
rule_text w =
    codes "+++-" ++ (strokes w.name ++ (codes "-" ++ (strokes w.version ++ (codes "-" ++ (strokes w.architecture ++ (codes "-" ++ (strokes w.summary ++ codes "\n")))))))

-- the lines of a table
abbrev pub lines_text : List Row → List ℕ
lines_text rows = key_text ++ (title_text (widths_of rows) ++ (rule_text (widths_of rows) ++ flat_map (row_text (widths_of rows)) rows))

-- no line where there is no row
abbrev pub rows_text : List Row → List ℕ
rows_text [] = []
rows_text (row ∷ rows) = lines_text (row ∷ rows)

-- the table of records
abbrev pub table_text : Option (List ℕ) → List Record → List ℕ
table_text root records = rows_text (map (row_of root) records)
