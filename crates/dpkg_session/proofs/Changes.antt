-- What changes of records carry over.
use Rattle.std.proofs.Common.{◌≡◌, ℕ, Bool, true, false, cond, List, [], ◌∷◌, Option, Some, None, IsTrue, is_some, refl, sym, ap, subst}
use Rattle.std.specs.List.{AllByRecursion}
use Rattle.std.specs.Str.{bytes_eq}
use Rattle.host_core.specs.Host.{State}
use Rattle.administration.specs.Places.{diversions_path, temporary}
use Rattle.opening.specs.Parts.{names_of}
use Rattle.status_db.proofs.NotedWorlds.{found_named}
use Rattle.status_records.specs.Records.{record_in}
use Rattle.status_records.specs.declared.record.Record.{Record}
use Rattle.unit_reports.specs.Held.{Held}
use Rattle.unit_reports.specs.declared.report.Unit.{Unit as AUnit}
use Rattle.unit_runs.specs.Turns.{TurnsTo}
use Rattle.record_changes.specs.Activated.{changed}
use Rattle.record_changes.specs.Run.{IsChangeRun}
use Rattle.record_changes.specs.Turns.{IsTurn}
use Rattle.record_changes.specs.Units.{IsLeftAlone, IsRecorded, IsChange, entry_of}
use Rattle.record_changes.specs.declared.change.Change.{Change}
use Rattle.record_changes.specs.declared.change.Change.TheVariants.{Want, Activate, Abandon, Await}
use Rattle.record_changes.specs.declared.change.RecordChange.{RecordChange}
use Rattle.dpkg_session.proofs.Carries.{Carries, carries_here, carries_still, carries_then, leaves_info}
use Rattle.dpkg_session.proofs.Displaced.{Leaves}
use Rattle.dpkg_session.proofs.Keeping.{keeps_same, unnamed_of}
use Rattle.dpkg_session.proofs.Known.{IsOneOf, all_put}

abbrev or_record : Record → Option Record → Record
or_record r None = r
or_record r (Some other) = other

-- one that is found among them
found_one : (names : List (List ℕ)) (rs : List Record) (name : List ℕ) (r : Record) → AllByRecursion (IsOneOf names) rs → record_in rs name ≡ Some r → IsOneOf names r
found_one names [] name r all found = absurd cc
found_one names (x ∷ rs) name r all found = by (bytes_eq x.name name) (found_one names rs name r all.1) found
  where
    by : (b : Bool) → (record_in rs name ≡ Some r → IsOneOf names r) → cond b (Some x) (record_in rs name) ≡ Some r → IsOneOf names r
    by true rest is = subst (IsOneOf names) (ap (or_record x) is) all.0
    by false rest is = rest is

-- a changed record stands under its name
changed_one : (names : List (List ℕ)) (change : Change) (r : Record) → IsOneOf names r → IsOneOf names (changed change r)
changed_one names (Want want) r one = record { stands = one.stands; named = one.named }
changed_one names (Activate triggers) r one = record { stands = one.stands; named = one.named }
changed_one names (Abandon trigger) r one = record { stands = refl; named = one.named }
changed_one names (Await others) r one = record { stands = one.stands; named = one.named }

recorded_leaves : (asked : RecordChange) (r : Record) (before after : Held) (s t : State) → entry_of asked before.records.records ≡ Some r → IsRecorded asked r before after s t
    → Leaves (names_of before.records.records) before.records.records after.records.records s t
recorded_leaves asked r before after s t found is =
    let names = names_of before.records.records in
    let records = before.records.records in
    record {
      falls = is.silent.honest;
      keeps = λ h. unnamed_of asked.name s.world t.world (found_named asked.name records (ap is_some found)) (keeps_same asked.name s.world t.world (λ q inside. (is.noted h).rest q inside.unnoted));
      named = λ all.
          let one = found_one names records asked.name r all found in
          subst (AllByRecursion (IsOneOf names)) (sym is.records) (all_put (IsOneOf names) (changed asked.change r) records (changed_one names asked.change r one) all);
    }

alone_carries : (before after : Held) (s t : State) → IsLeftAlone before after s t → Carries before after s t
alone_carries before after s t alone = carries_still before after s t alone.held (λ h. subst (λ (x : State). IsTrue x.honest) alone.here h) (λ h. ap (λ (x : State). x.world) alone.here)

one_carries : (asked : RecordChange) (before after : Held) (u : AUnit) (s t : State) → IsChange asked before after u s t → Carries before after s t
one_carries asked before after u s t (IsChange.unknown none refused alone) = alone_carries before after s t alone
one_carries asked before after u s t (IsChange.made r found same done alone) = alone_carries before after s t alone
one_carries asked before after u s t (IsChange.noted r found other done is) = record {
  falls = is.silent.honest;
  order = λ ready. is.order;
  ways = is.ways;
  file = λ h. (is.noted h).rest diversions_path refl;
  spare = λ h. (is.noted h).rest (temporary diversions_path) refl;
  info = λ h ready info. leaves_info before after s t (recorded_leaves asked r before after s t found is) is.order h info;
}

turns_carry : (start : List RecordChange) (before : Held) (s : State) (us : List AUnit) (left : List RecordChange) (after : Held) (t : State) → TurnsTo IsTurn start before s us left after t → Carries before after s t
turns_carry start before s us left after t TurnsTo.begun = carries_here before s
turns_carry start before s us left after t (TurnsTo.turned done u mid_left later mid ends m end come turn) =
    carries_then before mid after s m t (turns_carry start before s done mid_left mid m come) (one_carries turn.asked mid after u m t turn.is)

pub changes_carry : (changes : List RecordChange) (us : List AUnit) (before after : Held) (s t : State) → IsChangeRun changes us before after s t → Carries before after s t
changes_carry changes us before after s t run = turns_carry changes before s us [] after t run
