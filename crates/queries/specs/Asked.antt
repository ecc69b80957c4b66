-- Which packages a question is about, by patterns for their names.
use Rattle.std.specs.Prelude.{ℕ, Bool, true, List, [], ◌∷◌, ◌++◌, codes, filter, if◌then◌else◌}
use Rattle.std.specs.List.{flat_map, list_all, list_any}
use Rattle.name_patterns.specs.Patterns.{matches}
use Rattle.shown_lines.specs.Lines.{line}
use Rattle.status_records.specs.Records.{place_record}
use Rattle.status_records.specs.declared.record.Record.{Record}
use Rattle.queries.specs.declared.asked.Told.{Told}

-- records in the order of their names' bytes
abbrev pub by_name : List Record → List Record
by_name [] = []
by_name (r ∷ rs) = place_record r (by_name rs)

-- all packages without a pattern, else those whose names one of them matches
abbrev pub is_asked : List (List ℕ) → List ℕ → Bool
is_asked [] name = true
is_asked (p ∷ ps) name = list_any (λ pattern. matches pattern name) (p ∷ ps)

-- those records, in the order of their names
abbrev pub asked : List (List ℕ) → List Record → List Record
asked patterns records = filter (λ r. is_asked patterns r.name) (by_name records)

-- a pattern matches the name of a package
abbrev pub is_found : List Record → List ℕ → Bool
is_found records pattern = list_any (λ r. matches pattern r.name) records

-- `refused PATTERN Unknown`, of one that matches none
abbrev pub unfound_lines : List Record → List ℕ → List ℕ
unfound_lines records pattern = if is_found records pattern then [] else line (codes "refused " ++ (pattern ++ codes " Unknown"))

abbrev pub unfound_text : List (List ℕ) → List Record → List ℕ
unfound_text patterns records = flat_map (unfound_lines records) patterns

-- what is told of the packages asked for, behind the patterns that match none
abbrev pub told_of : (List Record → List ℕ) → List (List ℕ) → List Record → Told
told_of told patterns records = record { text = unfound_text patterns records ++ told (asked patterns records); complete = list_all (is_found records) patterns }
