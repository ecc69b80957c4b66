-- What no rule refuses can be removed.
use Rattle.std.proofs.Common.{◌≡◌, ◌&&◌, ℕ, Bool, true, false, not, List, Option, Some, None, refl, sym, ap, ◌∙◌}
use Rattle.std.specs.Prelude.{if◌then◌else◌}
use Rattle.std.proofs.lemmas.Bool.{true≢false}
use Rattle.recorded_packages.specs.Packages.{is_reinstreq}
use Rattle.stated_relations.specs.Relations.{is_essential}
use Rattle.removal_engine.specs.Extents.{BeginsFrom}
use Rattle.removal_engine.specs.Units.{IsRemovable}
use Rattle.status_records.specs.Records.{record_in}
use Rattle.status_records.specs.declared.record.Record.{Record}
use Rattle.status_records.specs.declared.words.State.{State}
use Rattle.unit_reports.specs.declared.refusal.Rule.{Rule}
use Rattle.unit_reports.specs.declared.refusal.Rule.TheVariants.{NothingToRemove, Reinstreq, Essential}
use Rattle.removal_run.specs.Refusals.{is_config_files, rule_for, rule_of}
use Rattle.removal_run.specs.Units.{extent_of}

some_rule : (rule : Rule) → ◌≡◌ {A = Option Rule} (Some rule) None → ⊥
some_rule rule e = cc

first : (a b c : Bool) → (if a then Some NothingToRemove else if b then Some Reinstreq else if c then Some Essential else None) ≡ None → a ≡ false
first true b c e = absurd (some_rule NothingToRemove e)
first false b c e = refl

begins : (s : State) (purge : Bool) → (is_config_files s && not purge) ≡ false → BeginsFrom (extent_of purge) s
begins s true e = tt
begins s false e = λ is. true≢false (sym (ap (λ x. is_config_files x && true) is) ∙ e)

by_record : (purge : Bool) (records : List Record) (name : List ℕ) (o : Option Record) → record_in records name ≡ o → rule_of purge o ≡ None → IsRemovable (extent_of purge) records name
by_record purge records name None is e = absurd cc
by_record purge records name (Some r) is e =
    let unrefused = first (is_config_files r.state && not purge) (is_reinstreq r.flag) (not (is_config_files r.state) && is_essential r.fields) e in
    record { entry = r; found = is; begins = begins r.state purge unrefused }

pub is_removable : (purge : Bool) (records : List Record) (name : List ℕ) → rule_for purge records name ≡ None → IsRemovable (extent_of purge) records name
is_removable purge records name e = by_record purge records name (record_in records name) refl e
