-- What is refused before anything is configured, in the order in which the names are given.
use Rattle.std.specs.Prelude.{◌≡◌, ℕ, Bool, true, false, List, [], ◌∷◌, ◌++◌, Option, Some, None}
use Rattle.std.specs.List.{filter_map}
use Rattle.status_records.specs.Records.{record_in}
use Rattle.status_records.specs.declared.record.Record.{Record}
use Rattle.status_records.specs.declared.words.Flag.{Flag}
use Rattle.status_records.specs.declared.words.Flag.TheVariants as flag
use Rattle.unit_reports.specs.Units.{IsRefusedUnit}
use Rattle.unit_reports.specs.declared.refusal.Refusal.{Refusal}
use Rattle.unit_reports.specs.declared.refusal.Rule.{Rule}
use Rattle.unit_reports.specs.declared.refusal.Rule.TheVariants.{Unknown, WrongState, Reinstreq}
use Rattle.unit_reports.specs.declared.report.Unit.{Unit as AUnit}
use Rattle.configure_run.specs.Asked.{is_unconfigured}

-- the package has to be installed again first
abbrev pub rule_by_flag : Flag → Option Rule
rule_by_flag flag.Ok = None
rule_by_flag flag.Reinstreq = Some Reinstreq

-- its state is asked before that: it is neither unpacked nor half-configured
abbrev pub rule_by_state : Bool → Flag → Option Rule
rule_by_state false flag = Some WrongState
rule_by_state true flag = rule_by_flag flag

-- the first rule that refuses a package by its record, if one does
abbrev pub early_rule : Option Record → Option Rule
early_rule None = Some Unknown
early_rule (Some r) = rule_by_state (is_unconfigured r.state) r.flag

abbrev pub refusal_by : List ℕ → Option Rule → Option Refusal
refusal_by name None = None
refusal_by name (Some rule) = Some (record { rule = rule; «package» = name })

abbrev pub early_refusal : List Record → List ℕ → Option Refusal
early_refusal records name = refusal_by name (early_rule (record_in records name))

-- the refusals of these names, in their order
abbrev pub early_refusals : List Record → List (List ℕ) → List Refusal
early_refusals records names = filter_map (early_refusal records) names

-- a refused unit for each of these refusals
abbrev pub AreRefused : List Refusal → List AUnit → Type 0
AreRefused [] [] = Unit {0}
AreRefused [] (u ∷ us) = ⊥
AreRefused (r ∷ rs) [] = ⊥
AreRefused (r ∷ rs) (u ∷ us) = IsRefusedUnit r.rule r.«package» u × AreRefused rs us

-- the first of these, where memory was wanting for the others
pub record AreSomeRefused (refusals : List Refusal) (us : List AUnit) : Type 0 where
  pub done : List Refusal
  pub rest : List Refusal
  pub are : refusals ≡ done ++ rest
  pub refused : AreRefused done us

-- one refused unit more, if there is a refusal
abbrev pub HasRefused : Option Refusal → List AUnit → List AUnit → Type 0
HasRefused None old new = new ≡ old
HasRefused (Some r) old new = (u : AUnit) × (new ≡ old ++ u ∷ []) × IsRefusedUnit r.rule r.«package» u
