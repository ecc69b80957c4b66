-- Paths as they are told.
use Rattle.std.specs.Prelude.{ℕ, List, codes, if◌then◌else◌}
use Rattle.std.specs.Str.{bytes_eq}
use Rattle.shown_lines.specs.Lines.{line}
use Rattle.host_core.specs.Paths.{Path}

-- the root as `/`, any other path as it is
abbrev pub path_text : Path → List ℕ
path_text path = if bytes_eq path (codes "") then codes "/" else path

-- a line of it
abbrev pub path_line : Path → List ℕ
path_line path = line (path_text path)
