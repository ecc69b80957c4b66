-- What tells why a root can't be opened.
use Rattle.std.specs.Prelude.{ℕ, List, ◌++◌, codes, nat_eq, if◌then◌else◌}
use Rattle.std.specs.List.{starts_with}
use Rattle.std.specs.Fmt.{decimal}
use Rattle.administration.specs.declared.fault.AdministrationFault.{AdministrationFault}
use Rattle.administration.specs.declared.fault.AdministrationFault.TheVariants.{Damaged, Device, NoMemory, Declined}
use Rattle.report_lines.specs.Faults.{path_text}
use Rattle.shown_lines.specs.Lines.{line}

-- what a line of a file of the administration is to have: a list, the diversions, or records
abbrev pub line_expectation : List ℕ → List ℕ
line_expectation file =
    if starts_with nat_eq file (codes "/var/lib/dpkg/info/") then codes "an absolute path, or /. for the root"
    else if starts_with nat_eq file (codes "/var/lib/dpkg/diversions") then codes "three lines for each diversion: a path, its target, and a package or :"
    else codes "a field of a package's record, \"Name: value\", once and with a value that can be read; packages of one architecture"

-- what is to stand there as a whole
abbrev pub whole_expectation : List ℕ → List ℕ
whole_expectation file =
    if starts_with nat_eq file (codes "/var/lib/dpkg/info/") then codes "a file of a package whose name has no architecture"
    else codes "a file or directory as dpkg has it there"

-- line 0 is said of a file or directory as a whole
abbrev pub expectation : List ℕ → ℕ → List ℕ
expectation file line = if nat_eq line 0 then whole_expectation file else line_expectation file

-- a line of a file by the file's full path under the root, and its number
abbrev pub damaged_line : List ℕ → ℕ → List ℕ
damaged_line file at = line (codes "damaged " ++ (path_text file ++ (codes " " ++ decimal at)))

-- `damaged FILE LINE`, the file by its full path under the root, and what was expected there; `broken device`, `broken memory` or
-- `broken declined`
abbrev pub opening_line : AdministrationFault → List ℕ
opening_line (Damaged file at) = damaged_line file at ++ (codes "expected: " ++ (expectation file at ++ codes "\n"))
opening_line Device = codes "broken device\n"
opening_line NoMemory = codes "broken memory\n"
opening_line Declined = codes "broken declined\n"
