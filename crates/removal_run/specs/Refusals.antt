-- Why nothing is removed of a package (Policy 3.8, 6.8).
use Rattle.std.specs.Prelude.{◌&&◌, ℕ, Bool, true, false, not, List, [], ◌∷◌, Option, Some, None, is_none, filter, if◌then◌else◌}
use Rattle.recorded_packages.specs.Packages.{is_reinstreq}
use Rattle.stated_relations.specs.Relations.{is_essential}
use Rattle.status_records.specs.Records.{record_in}
use Rattle.status_records.specs.declared.record.Record.{Record}
use Rattle.status_records.specs.declared.words.State.{State}
use Rattle.status_records.specs.declared.words.State.TheVariants.{NotInstalled, ConfigFiles, HalfInstalled, Unpacked, HalfConfigured, Installed}
use Rattle.unit_reports.specs.Units.{IsRefusedUnit}
use Rattle.unit_reports.specs.declared.refusal.Refusal.{Refusal}
use Rattle.unit_reports.specs.declared.refusal.Rule.{Rule}
use Rattle.unit_reports.specs.declared.refusal.Rule.TheVariants.{Unknown, NothingToRemove, Reinstreq, Essential}
use Rattle.unit_reports.specs.declared.report.Unit.{Unit as AUnit}
use Rattle.removal_run.specs.Extents.{purges}
use Rattle.removal_run.specs.declared.extents.Extents.{Extents}

abbrev pub is_config_files : State → Bool
is_config_files NotInstalled = false
is_config_files ConfigFiles = true
is_config_files HalfInstalled = false
is_config_files Unpacked = false
is_config_files HalfConfigured = false
is_config_files Installed = false

-- The first that holds: of a removed package a removal, but no purge, has nothing to do; a package that has to be installed again first
-- isn't removed; nor is an essential one, unless it is removed already.
abbrev pub rule_of_record : Bool → Record → Option Rule
rule_of_record purge r =
    if is_config_files r.state && not purge then Some NothingToRemove
    else if is_reinstreq r.flag then Some Reinstreq
    else if not (is_config_files r.state) && is_essential r.fields then Some Essential
    else None

-- a package without a record isn't known
abbrev pub rule_of : Bool → Option Record → Option Rule
rule_of purge None = Some Unknown
rule_of purge (Some r) = rule_of_record purge r

abbrev pub rule_for : Bool → List Record → List ℕ → Option Rule
rule_for purge records name = rule_of purge (record_in records name)

-- the rule by how much goes of the package
abbrev pub rule_under : Extents → List Record → List ℕ → Option Rule
rule_under extents records name = rule_for (purges extents records name) records name

-- the names that no rule refuses, in their order
abbrev pub accepted : Extents → List Record → List (List ℕ) → List (List ℕ)
accepted extents records names = filter (λ n. is_none (rule_under extents records n)) names

abbrev pub refused_first : List ℕ → Option Rule → List Refusal → List Refusal
refused_first name None others = others
refused_first name (Some rule) others = record { rule = rule; «package» = name } ∷ others

-- the other names, in their order, each with its rule
abbrev pub refusals : Extents → List Record → List (List ℕ) → List Refusal
refusals extents records [] = []
refusals extents records (name ∷ names) = refused_first name (rule_under extents records name) (refusals extents records names)

-- a refused unit for each
abbrev pub AreRefused : List Refusal → List AUnit → Type 0
AreRefused [] [] = Unit {0}
AreRefused [] (u ∷ us) = ⊥
AreRefused (r ∷ rs) [] = ⊥
AreRefused (r ∷ rs) (u ∷ us) = IsRefusedUnit r.rule r.package u × AreRefused rs us
