-- Changes of records, one after another: the next opening can read all at each moment.
use Rattle.std.proofs.Common.{◌≡◌, ◌⊎◌, inl, inr, ℕ, Bool, true, false, cond, List, [], ◌∷◌, Option, Some, None, refl, sym, ap, subst, ◌∙◌}
use Rattle.std.specs.Str.{bytes_eq}
use Rattle.host_core.specs.Events.{Event}
use Rattle.host_core.specs.Host.{State}
use Rattle.host_core.proofs.Moments.{since_weaker_if}
use Rattle.host_core.specs.World.{World, KeepsBut}
use Rattle.diversions.specs.Ways.{Ways}
use Rattle.file_lists.specs.Info.{AreLoose}
use Rattle.held_administration.specs.Order.{record_names}
use Rattle.record_changes.specs.Activated.{changed}
use Rattle.record_changes.specs.Run.{HasRun}
use Rattle.record_changes.specs.Turns.{IsAmidTurn, IsTurn}
use Rattle.record_changes.specs.Units.{IsAmidChange, IsChange, entry_of, recorded}
use Rattle.record_changes.specs.declared.change.Change.{Change}
use Rattle.record_changes.specs.declared.change.Change.TheVariants.{Want, Activate, Abandon, Await}
use Rattle.record_changes.specs.declared.change.RecordChange.{RecordChange}
use Rattle.status_db.specs.Held.{HasRecords, is_record_place}
use Rattle.status_records.specs.Records.{record_in}
use Rattle.status_records.specs.declared.record.Record.{Record}
use Rattle.unit_reports.specs.Held.{Held}
use Rattle.unit_reports.specs.declared.report.Unit.{Unit as AUnit}
use Rattle.unit_stages.proofs.Order.{noting_loose}
use Rattle.reopening.proofs.Parts.{AreOf, IsOneOf, calm_noted, of_put}
use Rattle.reopening.proofs.Sounds.{Goes, IsSound, goes_same, held_sound, still_opens}
use Rattle.reopening.proofs.Turns.{Ends, Runs, turns_end}
use Rattle.reopening.proofs.Units.{IsHeld, held_opens, of_own}
use Rattle.reopening.specs.Opens.{CanBeOpened}

abbrev or_record : Record → Option Record → Record
or_record r None = r
or_record r (Some other) = other

-- one that is found among them
found_one : (names : List (List ℕ)) (rs : List Record) (name : List ℕ) (r : Record) → AreOf names rs → record_in rs name ≡ Some r → IsOneOf names r
found_one names [] name r all found = absurd cc
found_one names (x ∷ rs) name r all found = by (bytes_eq x.name name) (found_one names rs name r all.1) found
  where
    by : (b : Bool) → (record_in rs name ≡ Some r → IsOneOf names r) → cond b (Some x) (record_in rs name) ≡ Some r → IsOneOf names r
    by true rest is = subst (IsOneOf names) (ap (or_record x) is) all.0
    by false rest is = rest is

-- a changed record stands under its name
changed_one : (names : List (List ℕ)) (change : Change) (r : Record) → IsOneOf names r → IsOneOf names (changed change r)
changed_one names (Want want) r one = record { stands = one.stands; named = one.named }
changed_one names (Activate triggers) r one = record { stands = one.stands; named = one.named }
changed_one names (Abandon trigger) r one = record { stands = refl; named = one.named }
changed_one names (Await others) r one = record { stands = one.stands; named = one.named }

module _ (asked : RecordChange) (before : Held) (old now : World) (sound : IsSound before old) where
  abbrev names : List (List ℕ)
  names = record_names before.records.records

  -- records of these packages, where nothing but records has changed
  held_since : (rs : List Record) → AreOf names rs → KeepsBut is_record_place old now → HasRecords now rs → IsHeld names before.ways rs now
  held_since rs all rest has = (let calm = calm_noted old now rest in
      record { all = all; base = old; safe = sound.safe; quiet = calm.quiet; empty = λ q within. calm.tmp q within ∙ sound.empty q within; has = has })

  recorded_of : (r : Record) → entry_of asked before.records.records ≡ Some r → AreOf names (recorded asked r before.records.records)
  recorded_of r found =
      let own = of_own before.records.records sound.standing in
      let one = found_one names before.records.records asked.name r own found in
      of_put names (changed asked.change r) before.records.records (changed_one names asked.change r one) own

  change_opens : (so_far : List Event) → IsAmidChange asked before old so_far now → CanBeOpened now
  change_opens so_far (inl still) = still_opens before old now sound still.same
  change_opens so_far (inr is) = by is.noting.records
    where
      loose : AreLoose now
      loose = noting_loose before.records before.lists old sound.order (recorded asked is.r before.records.records) now is.noting

      by : HasRecords now before.records.records ⊎ HasRecords now (recorded asked is.r before.records.records) → CanBeOpened now
      by (inl has) = held_opens names before.ways before.records.records now (held_since before.records.records (of_own before.records.records sound.standing) is.noting.rest has) is.noting.opens loose
      by (inr has) = held_opens names before.ways (recorded asked is.r before.records.records) now (held_since (recorded asked is.r before.records.records) (recorded_of is.r is.found) is.noting.rest has) is.noting.opens loose

change_goes : (asked : RecordChange) (before after : Held) (u : AUnit) (s t : State) → IsChange asked before after u s t → Goes before after s t
change_goes asked before after u s t (IsChange.unknown none refused alone) = goes_same before after s t alone.held alone.here
change_goes asked before after u s t (IsChange.made r found same done alone) = goes_same before after s t alone.held alone.here
change_goes asked before after u s t (IsChange.noted r found other done is) = record {
  falls = is.silent.honest;
  sound = λ h sound. (let there = is.order h in
      let records = before.records.records in
      let held = held_since asked before s.world t.world sound (recorded asked r records) (recorded_of asked before s.world t.world sound r found) (is.noted h).rest (subst (HasRecords t.world) is.records there.kept.holds) in
      held_sound (record_names records) after t.world
      (subst (λ (l : Ways). IsHeld (record_names records) l after.records.records t.world) (sym is.ways) (subst (λ (rs : List Record). IsHeld (record_names records) before.ways rs t.world) (sym is.records) held)) there);
}

turn_runs : (left : List RecordChange) (before : Held) (u : AUnit) (later : List RecordChange) (after : Held) (s t : State) → IsTurn left before u later after s t → Runs before after s t
turn_runs left before u later after s t turn = record {
  goes = change_goes turn.asked before after u s t turn.is;
  opened = λ sound. since_weaker_if _ _ s t (λ h so_far now amid. change_opens turn.asked before s.world now (sound (turn.moments.honest h)) so_far amid) turn.moments;
}

next_opens : (left later : List RecordChange) (before : Held) (old : World) (so_far : List Event) (now : World) → IsSound before old → IsAmidTurn left later before old so_far now → CanBeOpened now
next_opens left later before old so_far now sound next = change_opens next.0 before old now sound so_far next.3

pub changes_end : (changes : List RecordChange) (us : List AUnit) (last : Option AUnit) (before : Held) (s t : State) → HasRun changes us last before s t → Ends before s t
changes_end changes us last before s t has = turns_end IsTurn turn_runs IsAmidTurn next_opens changes has.left has.left before has.after s has.end t us has.turns has.since
