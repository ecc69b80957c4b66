-- Where the package isn't marked no file of it has changed at any moment that reads so.
use Rattle.std.specs.Prelude.{◌≡◌, Bool, true, false, List, IsTrue}
use Rattle.std.proofs.Common.{refl, ap, sym, ◌∙◌, inl, inr}
use Rattle.host_core.specs.Paths.{Path}
use Rattle.host_core.specs.World.{World, Avoids, Change, changed}
use Rattle.host_core.specs.Events.{Event, changes_of}
use Rattle.host_core.specs.Host.{AtEachMomentOf, State}
use Rattle.host_core.specs.Loss.{IsLike, ScriptsAvoid}
use Rattle.host_core.specs.Unsynced.{is_temporary, IsSettled}
use Rattle.host_core.proofs.Moments.{since_weaker}
use Rattle.host_core.proofs.Scripts.{changed_kept}
use Rattle.administration.specs.Places.{home_path, is_within, status_path}
use Rattle.opening.proofs.OneTable.{one_records}
use Rattle.scattered_losses.specs.Apart.{IsApart}
use Rattle.scattered_losses.specs.Scattered.{LosesScattered}
use Rattle.scattered_losses.proofs.Parted.{left_first}
use Rattle.status_db.specs.Held.{HasRecords, is_record_place}
use Rattle.status_db.specs.Notes.{note_path}
use Rattle.status_db.proofs.NotedWorlds.{records_same}
use Rattle.status_records.specs.Records.{record_in}
use Rattle.unpack_engine.specs.Units.{Given, IsAmidUnit}
use Rattle.unpack_laws.specs.InHand.{unit_name}
use Rattle.unpack_laws.specs.Marked.{IsMarkedAmid, IsMarkedSo, IsNotedSo, IsRestored}
use Rattle.unpack_laws.specs.Whole.{IsTargetBack}
use Rattle.unpack_laws.proofs.Passing.{outside_records}
use Rattle.unpack_losses.specs.Standing.{IsLeftUnmarked, IsNoRemainder}

module _ (g : Given) (old left now : World) (change : Change) (unmarked : IsLeftUnmarked g left) (like : IsLike is_record_place left now) where
  read_now : HasRecords now unmarked.table
  read_now = records_same left now unmarked.table (like.whole status_path refl refl) (λ n lt. like.whole (note_path n) refl refl) unmarked.records

  not_marked : IsMarkedSo g old now change → ⊥
  not_marked m = one_records now unmarked.table m.table read_now m.records (λ same.
      unmarked.unmarked m.incoming m.is_incoming (ap (λ l. record_in l (unit_name g)) same ∙ m.own))

  not_noted : IsNotedSo g old now change → ⊥
  not_noted n = one_records now unmarked.table n.table read_now n.records (λ same.
      unmarked.unnoted n.fresh n.is_fresh (ap (λ l. record_in l (unit_name g)) same ∙ n.own))

  restored_so : (q : Path) → IsNoRemainder g q → IsRestored g old now change q → now q ≡ changed change old q
  restored_so q plain (IsRestored.scripted is) = is
  restored_so q plain (IsRestored.target x has at (IsTargetBack.stood is)) = ap now at ∙ is ∙ ap (changed change old) (sym at)
  restored_so q plain (IsRestored.target x has at (IsTargetBack.stayed access early late made node split was is)) = absurd (plain.directory x has access node at)
  restored_so q plain (IsRestored.beside x has (inl at) is) = absurd (plain.backup x has at)
  restored_so q plain (IsRestored.beside x has (inr at) is) = absurd (plain.fresh x has at)

  scripts_so : (q : Path) → is_within home_path q ≡ false → IsNoRemainder g q → IsMarkedAmid g old now change → now q ≡ changed change old q
  scripts_so q out plain (IsMarkedAmid.untouched all) = all q out
  scripts_so q out plain (IsMarkedAmid.marked m) = absurd (not_marked m)
  scripts_so q out plain (IsMarkedAmid.restored all) = restored_so q plain (all q out)
  scripts_so q out plain (IsMarkedAmid.noted n) = absurd (not_noted n)

-- what unpack_laws says of each moment
abbrev pub MarksAmid : Type 0
MarksAmid = (g : Given) (places : List Path) (old now : World) (so_far : List Event) → IsAmidUnit g places old so_far now → IsMarkedAmid g old now (changes_of so_far)

-- THE LAW: no file has changed before its record told so
pub unmarked_left : MarksAmid → (kept : Path → Bool) (g : Given) (places : List Path) (begun old new : State) (left : World) (q : Path) → IsTrue new.honest → IsSettled new.events → ScriptsAvoid kept begun new
    → ((p : Path) → is_record_place p ≡ true → kept p ≡ true) → kept q ≡ true → is_within home_path q ≡ false → is_temporary q ≡ false → IsNoRemainder g q
    → IsApart is_record_place old new → AtEachMomentOf (IsAmidUnit g places) old new → LosesScattered begun old new left → IsLeftUnmarked g left → left q ≡ old.world q
unmarked_left law kept g places begun old new left q h settled scripts within here out proper plain apart amid loses unmarked =
    left_first kept is_record_place q begun old new left h settled scripts within here (outside_records q out) proper apart.turns apart.apart loses
    (since_weaker (IsAmidUnit g places old.world) (λ so_far now. IsLike is_record_place left now → Avoids kept (changes_of so_far) → now q ≡ old.world q) old new
    (λ so_far now is like avoids. scripts_so g old.world left now (changes_of so_far) unmarked like q out plain (law g places old.world now so_far is) ∙ changed_kept kept (changes_of so_far) old.world avoids q here) amid)
