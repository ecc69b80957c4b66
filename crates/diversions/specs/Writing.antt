-- The file `diversions` as it is written.
use Rattle.std.specs.Prelude.{ℕ, List, [], ◌∷◌, ◌++◌}
use Rattle.std.specs.List.{flat_map}
use Rattle.host_core.specs.Nodes.{own_access}
use Rattle.host_core.specs.declared.node.Node.{Node}
use Rattle.host_core.specs.declared.node.Node.TheVariants.{File}
use Rattle.diversions.specs.declared.entry.Diversion.{Diversion}
use Rattle.diversions.specs.Lines.{entry_lines, lines_of}

-- each line with its newline
abbrev pub text_of : List (List ℕ) → List ℕ
text_of lines = flat_map (λ line. line ++ 10 ∷ []) lines

abbrev pub entry_text : Diversion → List ℕ
entry_text d = text_of (entry_lines d)

abbrev pub table_text : List Diversion → List ℕ
table_text entries = text_of (lines_of entries)

-- the file of a table
abbrev pub table_file : List Diversion → Node
table_file entries = File (table_text entries) (own_access 0o644)
