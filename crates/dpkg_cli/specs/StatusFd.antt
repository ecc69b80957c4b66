-- What a frontend reads on the descriptor of `--status-fd` (dpkg(1)).
use Rattle.std.specs.Prelude.{◌&&◌, ℕ, Bool, not, List, ◌++◌, codes, nat_eq, if◌then◌else◌}
use Rattle.std.specs.List.{starts_with}
use Rattle.std.specs.Str.{bytes_eq}
use Rattle.dpkg_cli.specs.Stages.{stage_name}
use Rattle.dpkg_cli.specs.declared.stages.Stage.{Stage}

-- the state of a package
abbrev pub status_line : List ℕ → List ℕ → List ℕ
status_line package_name state = codes "status: " ++ (package_name ++ (codes ": " ++ (state ++ codes "\n")))

-- what is told of a state that was noted: dpkg tells of a package that goes that its configuration files are left, before it tells
-- that it is gone, unless that was told in the unit
abbrev pub status_lines : Bool → List ℕ → List ℕ → List ℕ
status_lines told package_name state =
    if bytes_eq state (codes "not-installed") && not told then status_line package_name (codes "config-files") ++ status_line package_name state
    else status_line package_name state

-- why the unit of a package failed, or was refused, by the rest of the line of its reply: of triggers that were abandoned dpkg tells no name
abbrev pub why_of : List ℕ → List ℕ
why_of rest = if starts_with nat_eq rest (codes "TriggerCycle ") then codes "triggers looping, abandoned" else rest

abbrev pub error_line : List ℕ → List ℕ → List ℕ
error_line package_name why = codes "status: " ++ (package_name ++ (codes " : error : " ++ (why ++ codes "\n")))

-- what is begun with a package
abbrev pub processing_line : Stage → List ℕ → List ℕ
processing_line stage package_name = codes "processing: " ++ (stage_name stage ++ (codes ": " ++ (package_name ++ codes "\n")))
