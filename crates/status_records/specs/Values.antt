-- Which values of fields can be read.
use Rattle.std.specs.Prelude.{◌≡◌, ℕ, true, List, [], codes, if◌then◌else◌}
use Rattle.std.specs.Option.{option_map_or}
use Rattle.std.specs.Str.{bytes_eq}
use Rattle.control_fields.specs.Names.{lower, value_of, IsYesOrNo}
use Rattle.control_fields.specs.declared.field.Field.{Field}
use Rattle.texts.specs.PackageNames.{is_package_name}
use Rattle.version_order.specs.Versions.{IsVersion}
use Rattle.relation_fields.specs.RelationFields.{relation_called, IsRelation}
use Rattle.status_records.specs.declared.values.Kind.{Kind}
use Rattle.status_records.specs.declared.values.Kind.TheVariants.{PackageName, StatusWords, VersionText, Yes, ConffileLines, PendingLines, TriggerNames, YesOrNo, Relation, Any}
use Rattle.status_records.specs.Words.{IsStatusText}
use Rattle.status_records.specs.ConffileFields.{IsConffileField, IsPendingField}
use Rattle.status_records.specs.TriggerNames.{are_trigger_names}

-- what the value of a relation field has to be, and of one that isn't looked at
abbrev pub relation_kind : List ℕ → Kind
relation_kind name = option_map_or Relation (relation_called name) Any

-- what the value of a field has to be that comes from a control file
abbrev pub control_kind : List ℕ → Kind
control_kind name = if bytes_eq name (codes "essential") then YesOrNo else relation_kind name

-- what the value of a field has to be, by the field's name in lower case
abbrev pub kind_of : List ℕ → Kind
kind_of name =
    if bytes_eq name (codes "package") then PackageName
    else if bytes_eq name (codes "status") then StatusWords
    else if bytes_eq name (codes "version") then VersionText
    else if bytes_eq name (codes "config-version") then VersionText
    else if bytes_eq name (codes "removed-since") then Yes
    else if bytes_eq name (codes "conffiles") then ConffileLines
    else if bytes_eq name (codes "new-conffiles") then PendingLines
    else if bytes_eq name (codes "triggers-pending") then TriggerNames
    else if bytes_eq name (codes "triggers-awaited") then TriggerNames
    else control_kind name

-- the value of a simple field, which stands on one line (Policy 5.1)
abbrev pub IsSimple : (List ℕ → Type 0) → Field → Type 0
IsSimple IsValue f = (f.more ≡ []) × IsValue f.first

-- Package has the name of a package (Policy 5.6.7), Status its three words, Version and Config-Version a version (Policy
-- 5.6.12). Removed-Since, a field of this project's own, is `yes`, Essential `yes` or `no` (Policy 5.6.9). Conffiles and
-- New-Conffiles have a line for each conffile, Triggers-Pending and Triggers-Awaited names on one line. Relations may go on over several lines (Policy 7.1). Other fields are taken
-- as they are.
abbrev pub IsReadableAs : Kind → Field → Type 0
IsReadableAs PackageName f = IsSimple (λ text. is_package_name text ≡ true) f
IsReadableAs StatusWords f = IsSimple IsStatusText f
IsReadableAs VersionText f = IsSimple IsVersion f
IsReadableAs Yes f = IsSimple (λ text. text ≡ codes "yes") f
IsReadableAs ConffileLines f = IsConffileField f
IsReadableAs PendingLines f = IsPendingField f
IsReadableAs TriggerNames f = IsSimple (λ text. are_trigger_names text ≡ true) f
IsReadableAs YesOrNo f = IsYesOrNo f
IsReadableAs (Relation relation) f = IsRelation relation (value_of f)
IsReadableAs Any f = Unit {0}

-- the value of a field can be read
abbrev pub IsReadable : Field → Type 0
IsReadable f = IsReadableAs (kind_of (lower f.name)) f

-- the value of a field of a control file that a record keeps can be read
abbrev pub IsReadableControl : Field → Type 0
IsReadableControl f = IsReadableAs (control_kind (lower f.name)) f
