-- Faults and refusals in the program's own words: by name, then their fields.
use Rattle.std.specs.Prelude.{ℕ, List, ◌++◌, Option, Some, None, codes, if◌then◌else◌}
use Rattle.std.specs.Fmt.{decimal}
use Rattle.std.specs.Str.{bytes_eq}
use Rattle.control_fields.specs.declared.fault.ControlFault.{ControlFault}
use Rattle.control_fields.specs.declared.fault.ControlFault.TheVariants as control
use Rattle.package_tree.specs.declared.fault.FieldName.{FieldName}
use Rattle.package_tree.specs.declared.fault.FieldName.TheVariants as field
use Rattle.package_tree.specs.declared.fault.LineName.{LineName}
use Rattle.package_tree.specs.declared.fault.LineName.TheVariants as named
use Rattle.package_tree.specs.declared.fault.TreeFault.{TreeFault}
use Rattle.package_tree.specs.declared.fault.TreeFault.TheVariants.{Twice, NoRoom, NoControl, Control, FieldMissing, FieldBad, PathBad, Reserved, ConffileNotShipped, ConffileShipped, ConffileFlag, TooLarge, TooMany, Device, NoMemory, Declined}
use Rattle.relation_fields.specs.Printing.{print_clause}
use Rattle.relation_fields.specs.RelationFields.{relation_name}
use Rattle.diversions.specs.declared.refusal.Refusal.{Refusal as ItsRefusal}
use Rattle.diversions.specs.declared.refusal.Refusal.TheVariants as diverted
use Rattle.unit_reports.specs.declared.refusal.Rule.{Rule}
use Rattle.unit_reports.specs.declared.refusal.Rule.TheVariants.{Tree, OverrideLine, OwnerUnknown, ConffileDiverted, Architecture, PreDepends, Conflicts, ConflictEssential, Dependents, Breaks, Divert, Unknown, WrongState, Reinstreq, NothingToRemove, Essential, Depends, BrokenBy, ConffileKind, DependedOn}
use Rattle.undo_rows.specs.declared.fall.StepFault.{StepFault}
use Rattle.undo_rows.specs.declared.fall.StepFault.TheVariants as step

-- a fault of control text, with its line
abbrev pub control_text : ControlFault → List ℕ
control_text (control.NoColon line) = codes "NoColon " ++ decimal line
control_text (control.BadName line) = codes "BadName " ++ decimal line
control_text (control.Twice line) = codes "Twice " ++ decimal line
control_text (control.OrphanContinuation line) = codes "OrphanContinuation " ++ decimal line
control_text (control.NotUtf8 line) = codes "NotUtf8 " ++ decimal line
control_text control.NoMemory = codes "NoMemory"
control_text (control.Second line) = codes "Second " ++ decimal line

-- a field of the control file (Policy 5.3)
abbrev pub field_word : FieldName → List ℕ
field_word field.Package = codes "Package"
field_word field.Version = codes "Version"
field_word field.Essential = codes "Essential"
field_word (field.Relation relation) = relation_name relation

-- a path under the root; the root itself is kept as the empty text
abbrev pub path_text : List ℕ → List ℕ
path_text path = if bytes_eq path (codes "") then codes "/" else path

-- what a line of `DEBIAN/conffiles` names: its text, or the number of one that isn't text
abbrev pub line_text : LineName → List ℕ
line_text (named.Text text) = text
line_text (named.Number number) = decimal number

-- a tree's fault; of an archive without room the path at which it was to be unpacked, as of a step that was declined
abbrev pub tree_text : TreeFault → List ℕ
tree_text Twice = codes "Twice"
tree_text (NoRoom path) = codes "Declined " ++ path_text path
tree_text NoControl = codes "NoControl"
tree_text (Control fault) = codes "Control " ++ control_text fault
tree_text (FieldMissing name) = codes "FieldMissing " ++ field_word name
tree_text (FieldBad name) = codes "FieldBad " ++ field_word name
tree_text (PathBad path) = codes "PathBad " ++ path_text path
tree_text (Reserved path) = codes "Reserved " ++ path_text path
tree_text (ConffileNotShipped name) = codes "ConffileNotShipped " ++ line_text name
tree_text (ConffileShipped path) = codes "ConffileShipped " ++ path_text path
tree_text (ConffileFlag line) = codes "ConffileFlag " ++ decimal line
tree_text (TooLarge path) = codes "TooLarge " ++ path_text path
tree_text TooMany = codes "TooMany 65536"
tree_text Device = codes "Device"
tree_text NoMemory = codes "NoMemory"
tree_text Declined = codes "Declined"

-- why a diversion isn't added or taken away
abbrev pub divert_word : ItsRefusal → List ℕ
divert_word diverted.SamePath = codes "SamePath"
divert_word diverted.Directory = codes "Directory"
divert_word diverted.AlreadyDiverted = codes "AlreadyDiverted"
divert_word diverted.TargetDiverted = codes "TargetDiverted"
divert_word diverted.Conffile = codes "Conffile"
divert_word diverted.NotDiverted = codes "NotDiverted"
divert_word diverted.OtherOwner = codes "OtherOwner"
divert_word diverted.TargetExists = codes "TargetExists"
divert_word diverted.NoParent = codes "NoParent"

-- the rule of a refusal with its detail: a path, a line, an architecture, a clause of relations (Policy 7.1) or another package; of a tree's fault the
-- fault is the rule
abbrev pub rule_text : Rule → List ℕ
rule_text (Tree fault) = tree_text fault
rule_text (OverrideLine line) = codes "OverrideLine " ++ decimal line
rule_text (OwnerUnknown path) = codes "OwnerUnknown " ++ path
rule_text (ConffileDiverted path) = codes "ConffileDiverted " ++ path
rule_text (Architecture own) = codes "Architecture " ++ own
rule_text (PreDepends clause) = codes "PreDepends " ++ print_clause clause
rule_text (Conflicts other) = codes "Conflicts " ++ other
rule_text (ConflictEssential other) = codes "ConflictEssential " ++ other
rule_text (Dependents other) = codes "Dependents " ++ other
rule_text (Breaks other) = codes "Breaks " ++ other
rule_text (Divert refusal) = divert_word refusal
rule_text Unknown = codes "Unknown"
rule_text WrongState = codes "WrongState"
rule_text Reinstreq = codes "Reinstreq"
rule_text NothingToRemove = codes "NothingToRemove"
rule_text Essential = codes "Essential"
rule_text (Depends clause) = codes "Depends " ++ print_clause clause
rule_text (BrokenBy other) = codes "BrokenBy " ++ other
rule_text (ConffileKind path) = codes "ConffileKind " ++ path_text path
rule_text (DependedOn other) = codes "DependedOn " ++ other

-- the target of a diversion, and the package that diverts to it, where one is named
abbrev pub target_text : List ℕ → Option (List ℕ) → List ℕ
target_text path None = codes "DiversionTarget " ++ path_text path
target_text path (Some diverter) = codes "DiversionTarget " ++ (path_text path ++ (codes " " ++ diverter))

-- the step fault of the files with its path, and the package with which the path clashes; of a step that was declined its path
abbrev pub step_text : StepFault → List ℕ
step_text (step.LinkParent path) = codes "LinkParent " ++ path_text path
step_text (step.NoParent path) = codes "NoParent " ++ path_text path
step_text (step.DirInWay path) = codes "DirInWay " ++ path_text path
step_text (step.Clash path owner) = codes "Clash " ++ (path_text path ++ (codes " " ++ owner))
step_text (step.DiversionTarget path diverter) = target_text path diverter
step_text (step.Declined path) = codes "Declined " ++ path_text path
