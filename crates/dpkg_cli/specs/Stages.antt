-- What is done with a package, as dpkg tells it (`processing: STAGE: PKG`), by what its record says before.
use Rattle.std.specs.Prelude.{◌&&◌, ◌||◌, ℕ, Bool, true, false, not, List, Option, Some, None, codes, if◌then◌else◌}
use Rattle.std.specs.Str.{bytes_eq}
use Rattle.dpkg_cli.specs.declared.stages.Phase.{Phase}
use Rattle.dpkg_cli.specs.declared.stages.Phase.TheVariants as phase
use Rattle.dpkg_cli.specs.declared.stages.Stage.{Stage}
use Rattle.dpkg_cli.specs.declared.stages.Stage.TheVariants.{Install, Upgrade, Configure, Remove, Purge, Trigproc, Disappear}

abbrev pub stage_name : Stage → List ℕ
stage_name Install = codes "install"
stage_name Upgrade = codes "upgrade"
stage_name Configure = codes "configure"
stage_name Remove = codes "remove"
stage_name Purge = codes "purge"
stage_name Trigproc = codes "trigproc"
stage_name Disappear = codes "disappear"

-- of a package in this state no files are there but its configuration files
abbrev pub is_gone : List ℕ → Bool
is_gone state = bytes_eq state (codes "not-installed") || bytes_eq state (codes "config-files")

abbrev pub has_triggers : List ℕ → Bool
has_triggers state = bytes_eq state (codes "triggers-pending") || bytes_eq state (codes "triggers-awaited")

-- it is wanted to go
abbrev pub is_to_go : List ℕ → Bool
is_to_go want = bytes_eq want (codes "deinstall") || bytes_eq want (codes "purge")

abbrev pub unpacking_stage : List ℕ → Stage
unpacking_stage before = if is_gone before then Install else Upgrade

-- one that has triggers to process is configured already
abbrev pub configuring_stage : List ℕ → Stage
configuring_stage before = if bytes_eq before (codes "triggers-pending") then Trigproc else Configure

abbrev pub removing_stage : List ℕ → Stage
removing_stage before = if bytes_eq before (codes "config-files") then Purge else Remove

-- what is selected goes, and then triggers are processed
abbrev pub selected_stage : List ℕ → List ℕ → Stage
selected_stage want before = if is_to_go want then removing_stage before else Trigproc

-- what a unit begins with, by what the command goes through, what is wanted of the package then, and its state before
abbrev pub first_stage : Phase → List ℕ → List ℕ → Option Stage
first_stage phase.Unpacking want before = Some (unpacking_stage before)
first_stage phase.Configuring want before = Some (configuring_stage before)
first_stage phase.Removing want before = Some (removing_stage before)
first_stage phase.RemovingSelected want before = Some (selected_stage want before)
first_stage phase.Processing want before = Some Trigproc
first_stage phase.Other want before = None

-- behind the removal its configuration files go, which are left until then
abbrev pub is_purge_behind : Stage → List ℕ → Bool
is_purge_behind Remove before = bytes_eq before (codes "config-files")
is_purge_behind _ before = false

-- that its configuration files are left was told in the unit
abbrev pub is_left_told : Option Stage → List ℕ → Bool
is_left_told None before = false
is_left_told (Some stage) before = bytes_eq before (codes "config-files")

-- what begins with a note of this state, behind the stage that the unit is in: triggers are noted without one
abbrev pub begun_stage : Option Stage → Phase → List ℕ → List ℕ → List ℕ → Option Stage
begun_stage None during want before now = if has_triggers now then None else first_stage during want before
begun_stage (Some stage) during want before now = if is_purge_behind stage before then Some Purge else None

-- another package goes while one is unpacked: all its files were taken over, unless it is removed in favour of that one
abbrev pub disappears : List ℕ → List ℕ → Bool
disappears before now = bytes_eq now (codes "not-installed") && not (is_gone before || bytes_eq before (codes "half-installed"))
