-- Where the record that is left says that the package has its files, nothing has gone yet at any moment that reads so.
use Rattle.std.specs.Prelude.{◌≡◌, ◌⊎◌, Bool, true, false, List, Option, Some, None, IsTrue}
use Rattle.std.proofs.Common.{refl, sym, ◌∙◌, ap, subst, inl, inr}
use Rattle.host_core.specs.Paths.{Path}
use Rattle.host_core.specs.World.{World, Avoids, Change, changed}
use Rattle.host_core.specs.Events.{Event, IsDeniedIn, changes_of}
use Rattle.host_core.specs.Host.{AtEachMomentOf, State}
use Rattle.host_core.specs.Loss.{IsLike, ScriptsAvoid}
use Rattle.host_core.specs.Unsynced.{is_temporary, IsSettled}
use Rattle.host_core.proofs.Moments.{since_weaker}
use Rattle.host_core.proofs.Scripts.{changed_kept}
use Rattle.administration.specs.Places.{home_path, is_within, status_path}
use Rattle.held_administration.specs.Order.{IsInOrder}
use Rattle.status_db.specs.Held.{HasRecords, is_record_place}
use Rattle.status_db.specs.Notes.{note_path}
use Rattle.status_db.specs.Recorded.{Recorded}
use Rattle.status_db.proofs.NotedWorlds.{records_same}
use Rattle.status_records.specs.Records.{record_in}
use Rattle.status_records.specs.declared.record.Record.{Record}
use Rattle.status_records.specs.declared.words.State.TheVariants.{ConfigFiles, HalfInstalled}
use Rattle.opening.proofs.OneTable.{one_records}
use Rattle.removal_engine.specs.Records.{config_files, losing_files, purged, without_files}
use Rattle.removal_engine.specs.Scripts.{stored_in}
use Rattle.removal_engine.specs.Units.{Given, IsAmidUnit, IsRemovable}
use Rattle.removal_engine.specs.declared.scripts.Stored.{Stored}
use Rattle.scattered_losses.specs.Apart.{IsApart}
use Rattle.scattered_losses.specs.Scattered.{LosesScattered}
use Rattle.scattered_losses.proofs.Parted.{left_first}
use Rattle.stop_laws.specs.Left.{IsRecorded}
use Rattle.stop_laws.specs.RemovalSteps.{HasBegunPurge, IsAtStep, IsLostRecord, IsPurgedRecord}
use Rattle.stop_laws.proofs.Places.{outside_records}
use Rattle.removal_losses.specs.Standing.{HasItsFiles}

-- what is noted once files go

one_entry : (a b : Record) → Some a ≡ Some b → a ≡ b
one_entry a b same = cc same

some_none : (a : Record) → Some a ≡ None → ⊥
some_none a same = cc same

not_losing : (r : Record) (o : Option Record) → HasItsFiles o → o ≡ Some r → (r.state ≡ HalfInstalled) ⊎ (r.state ≡ ConfigFiles) → ⊥
not_losing r o has is (inl half) = has.whole (ap (λ (x : Record). x.state) (one_entry has.entry r (sym has.is ∙ is)) ∙ half)
not_losing r o has is (inr removed) = has.stays (ap (λ (x : Record). x.state) (one_entry has.entry r (sym has.is ∙ is)) ∙ removed)

not_gone : (o : Option Record) → HasItsFiles o → o ≡ None → ⊥
not_gone o has none = some_none has.entry (sym has.is ∙ none)

not_lost : (r : Record) (o : Option Record) → HasItsFiles o → IsLostRecord r o → ⊥
not_lost r o has (inl without) = not_losing (without_files r) o has without (inl refl)
not_lost r o has (inr (inl left)) = not_losing (config_files r) o has left (inr refl)
not_lost r o has (inr (inr none)) = not_gone o has none

module _ (g : Given) (r : Record) (stored : Stored) (declined : Path → Type 0) (old : World) where
  purged_state : (c : Record) (listed : List Path) (change : Change) (start : World) → HasBegunPurge g r stored declined old c listed change start → (purged c).state ≡ ConfigFiles
  purged_state c listed change start (HasBegunPurge.found state is at scripted) = ap (λ (x : Record). (purged x).state) is ∙ state
  purged_state c listed change start (HasBegunPurge.left is comes lost) = ap (λ (x : Record). (purged x).state) is

  not_purged : (c : Record) (listed : List Path) (change : Change) (start : World) → HasBegunPurge g r stored declined old c listed change start → (o : Option Record) → HasItsFiles o → IsPurgedRecord c o → ⊥
  not_purged c listed change start begun o has (inl is) = not_losing (purged c) o has is (inr (purged_state c listed change start begun))
  not_purged c listed change start begun o has (inr none) = not_gone o has none

  -- of a moment at which the records are those that are left
  module _ (left now : World) (recorded : IsRecorded g.name HasItsFiles left) (like : IsLike is_record_place left now) where
    read_now : HasRecords now recorded.table
    read_now = records_same left now recorded.table (like.whole status_path refl refl) (λ n lt. like.whole (note_path n) refl refl) recorded.records

    -- another record is read then
    read_otherwise : (P : Option Record → Type 0) → ((o : Option Record) → HasItsFiles o → P o → ⊥) → IsRecorded g.name P now → ⊥
    read_otherwise P never other = one_records now recorded.table other.table read_now other.records (λ same.
        never (record_in other.table g.name) (subst HasItsFiles (ap (λ l. record_in l g.name) same) recorded.own) other.own)

    at_step : (kept : Path → Bool) (q : Path) → kept q ≡ true → is_within home_path q ≡ false → (change : Change) → Avoids kept change → IsAtStep g r stored declined old change now → now q ≡ old q
    at_step kept q here out change avoids (IsAtStep.begun first scripted) = scripted q out ∙ changed_kept kept change old avoids q here
    at_step kept q here out change avoids (IsAtStep.losing noted going) = absurd (read_otherwise _ (λ o has is. not_losing (losing_files r) o has is (inl refl)) noted)
    at_step kept q here out change avoids (IsAtStep.lost noted gone) = absurd (read_otherwise _ (not_lost r) noted)
    at_step kept q here out change avoids (IsAtStep.purging purges c listed noted early late split start begun since) = absurd (read_otherwise _ (not_purged c listed early start begun) noted)

-- what stop_laws says of each moment
abbrev pub StepsLeft : Type 0
StepsLeft = (g : Given) (removable : IsRemovable g.extent g.before.records g.name) (d : Recorded) (old now : World) (so_far : List Event) → IsInOrder d g.before.lists old → d.records ≡ g.before.records → IsAmidUnit g old so_far now
    → IsAtStep g removable.entry (stored_in g.name old) (IsDeniedIn so_far) old (changes_of so_far) now

-- THE LAW: no file has gone before its record told so
pub files_left : StepsLeft → (kept : Path → Bool) (g : Given) (removable : IsRemovable g.extent g.before.records g.name) (d : Recorded) (begun old new : State) (left : World) (q : Path) → IsTrue new.honest → IsSettled new.events → ScriptsAvoid kept begun new
    → ((p : Path) → is_record_place p ≡ true → kept p ≡ true) → kept q ≡ true → is_within home_path q ≡ false → is_temporary q ≡ false → IsInOrder d g.before.lists old.world → d.records ≡ g.before.records
    → IsApart is_record_place old new → AtEachMomentOf (IsAmidUnit g) old new → LosesScattered begun old new left → IsRecorded g.name HasItsFiles left → left q ≡ old.world q
files_left law kept g removable d begun old new left q h settled scripts within here out proper order same apart amid loses recorded =
    left_first kept is_record_place q begun old new left h settled scripts within here (outside_records q out) proper apart.turns apart.apart loses
    (since_weaker (IsAmidUnit g old.world) (λ so_far now. IsLike is_record_place left now → Avoids kept (changes_of so_far) → now q ≡ old.world q) old new
    (λ so_far now is like avoids. at_step g removable.entry (stored_in g.name old.world) (IsDeniedIn so_far) old.world left now recorded like kept q here out (changes_of so_far) avoids (law g removable d old.world now so_far order same is)) amid)
