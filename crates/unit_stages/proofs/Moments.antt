-- What holds at each moment of the parts and the calls of a stage.
use Rattle.std.proofs.Common.{◌≡◌, inl, inr, ℕ, Bool, List, [], ◌∷◌, ◌++◌, refl, sym, ap, subst, ◌∙◌, append_assoc}
use Rattle.host_core.specs.Paths.{Path}
use Rattle.host_core.specs.World.{World, Avoids, changed}
use Rattle.host_core.specs.Events.{Event, IsDeniedIn, changes_of, scripts_of}
use Rattle.host_core.specs.Host.{State, Needs, Silent, AtEachMomentOf, OnlyScripts, WasDenied}
use Rattle.host_core.proofs.Moments.{Throughout-weaker, since_now, since_then, since_weaker, since_weaker_if}
use Rattle.host_core.proofs.Scripts.{Avoids-append, changed-append, changes_of-append, only_kept, since_silent, silent_added}
use Rattle.diversions.specs.Ways.{Ways}
use Rattle.file_lists.specs.Filed.{Filed}
use Rattle.status_db.specs.Recorded.{Recorded}
use Rattle.status_records.specs.declared.record.Record.{Record}
use Rattle.unit_stages.specs.Doing.{AreAmid, AreDoing, IsFirstDoing}
use Rattle.held_administration.specs.Order.{IsInOrder}
use Rattle.unit_stages.specs.Parts.{part_records, parts_records}
use Rattle.unit_stages.specs.declared.part.Part.{Part}
use Rattle.unit_stages.specs.Holding.{Holding, after_parts, holding}
use Rattle.unit_stages.specs.Running.{AreCalled, IsAmidStage, IsCalling, IsInStage, IsNotedBy, IsOpenable}
use Rattle.unit_stages.specs.Runs.{DoesParts, kept_by}
use Rattle.unit_stages.specs.declared.stage.Stage.{Stage}
use Rattle.unit_stages.proofs.Denied.{denied_in, parts_wider}
use Rattle.unit_stages.proofs.Keeping.{order_kept, order_opens}

-- while parts are under way some of them are noted

records_front : (name : List ℕ) (a b : List Part) (rs : List Record) → parts_records name (a ++ b) rs ≡ parts_records name b (parts_records name a rs)
records_front name [] b rs = refl
records_front name (part ∷ a) b rs = records_front name a b (part_records name part rs)

module _ (name : List ℕ) (parts : List Part) (rs : List Record) (now : World) where
  abbrev HasTable : Type 0
  HasTable = (table : List Record) × IsNotedBy name parts rs table × IsOpenable table now

  table_of : (front back : List Part) → parts ≡ front ++ back → (mid : World) → IsFirstDoing name back (parts_records name front rs) mid now → HasTable
  table_of front [] are mid over = (
    parts_records name front rs,
    record { front = front; back = []; are = are; table_is = refl },
    record { records = over.records; opens = over.opens; loose = over.loose },
  )
  table_of front (part ∷ back) are mid doing = elim doing.records [
    | inl has ↦ (
      parts_records name front rs,
      record { front = front; back = part ∷ back; are = are; table_is = refl },
      record { records = has; opens = doing.opens; loose = doing.loose },
    )
    | inr has ↦ (
      part_records name part (parts_records name front rs),
      record { front = front ++ part ∷ []; back = back; are = are ∙ sym (append_assoc front (part ∷ []) back); table_is = sym (records_front name front (part ∷ []) rs) },
      record { records = has; opens = doing.opens; loose = doing.loose },
    )
  ]

  pub doing_table : (declined : Path → Type 0) (old : World) → AreDoing name declined parts rs old now → HasTable
  doing_table declined old doing = table_of doing.front doing.back doing.are doing.mid doing.next

-- script calls behind others
only_on : (kept : Path → Bool) (old w now : World) (x y : List Event) → OnlyScripts kept old x w → OnlyScripts kept w y now → OnlyScripts kept old (x ++ y) now
only_on kept old w now x y first second = record {
  world = second.world ∙ ap (changed (changes_of y)) first.world ∙ sym (changed-append (changes_of x) (changes_of y) old) ∙ ap (λ c. changed c old) (sym (changes_of-append x y));
  avoids = subst (Avoids kept) (sym (changes_of-append x y)) (Avoids-append kept (changes_of x) (changes_of y) first.avoids second.avoids);
}

module _ (name : List ℕ) (ways : Ways) where
  -- script calls alone, in an administration in order
  pub called_by : (d : Recorded) (f : Filed) (restore : List Part) (old now : World) (so_far : List Event) → IsInOrder d f.lists old → OnlyScripts (kept_by ways (holding d f)) old so_far now → AreCalled name ways restore (holding d f) old so_far now
  called_by d f restore old now so_far order only =
      (d.records, IsCalling.calling only refl, order_opens d f.lists now (order_kept _ old now (only_kept (kept_by ways (holding d f)) old now so_far only) d f.lists order))

  abbrev pub since_called : (d : Recorded) (f : Filed) (restore : List Part) (a b : State) → Needs a (IsInOrder d f.lists) → AtEachMomentOf (OnlyScripts (kept_by ways (holding d f))) a b → AtEachMomentOf (AreCalled name ways restore (holding d f)) a b
  since_called d f restore a b order since = record {
    added = since.added;
    events = since.events;
    honest = since.honest;
    world = since.world;
    each = λ h. Throughout-weaker (OnlyScripts (kept_by ways (holding d f)) a.world) (AreCalled name ways restore (holding d f) a.world) a.world since.added
        (λ so_far w only. called_by d f restore a.world w so_far (order (since.honest h)) only) (since.each h);
  }

  -- parts behind them
  restoring_by : (h : Holding) (restore : List Part) (old called now : World) (calls so_far : List Event) → OnlyScripts (kept_by ways h) old calls called → scripts_of so_far ≡ []
      → AreAmid name restore h.records called so_far now → AreCalled name ways restore h old (calls ++ so_far) now
  restoring_by h restore old called now calls so_far only quiet doing =
      let has = doing_table name restore h.records now (IsDeniedIn so_far) called doing in
      (has.0, IsCalling.restoring calls so_far called refl only quiet doing has.1, has.2)

  pub since_restored : (d : Recorded) (f : Filed) (restore : List Part) (a b c : State) → Needs a (IsInOrder d f.lists) → AtEachMomentOf (OnlyScripts (kept_by ways (holding d f))) a b
      → Silent b c → AtEachMomentOf (AreAmid name restore d.records) b c → AtEachMomentOf (AreCalled name ways restore (holding d f)) a c
  since_restored d f restore a b c order first silent second =
      since_then (AreCalled name ways restore (holding d f) a.world) a b c (since_called d f restore a b order first)
      (since_weaker_if (λ so_far w. AreAmid name restore d.records b.world so_far w × (scripts_of so_far ≡ [])) (λ so_far. AreCalled name ways restore (holding d f) a.world (first.added ++ so_far)) b c
      (λ h so_far w is. restoring_by (holding d f) restore a.world b.world w first.added so_far (since_now (OnlyScripts (kept_by ways (holding d f)) a.world) a b first (second.honest h)) is.1 is.0)
      (since_silent (AreAmid name restore d.records b.world) b c silent second))

  -- the undo behind the call
  calling_on : (h : Holding) (restore : List Part) (old mid now : World) (x y : List Event) (table : List Record) → OnlyScripts (kept_by ways h) old x mid → IsCalling name ways restore h mid y now table → IsCalling name ways restore h old (x ++ y) now table
  calling_on h restore old mid now x y table only (IsCalling.calling scripts is) = IsCalling.calling (only_on (kept_by ways h) old mid now x y only scripts) is
  calling_on h restore old mid now x y table only (IsCalling.restoring calls after called are scripts quiet doing noted) =
      IsCalling.restoring (x ++ calls) after called (ap (λ (l : List Event). x ++ l) are ∙ sym (append_assoc x calls after)) (only_on (kept_by ways h) old mid called x calls only scripts) quiet doing noted

  pub since_undone : (d : Recorded) (f : Filed) (restore : List Part) (a b c : State) → Needs a (IsInOrder d f.lists) → AtEachMomentOf (OnlyScripts (kept_by ways (holding d f))) a b
      → AtEachMomentOf (AreCalled name ways restore (holding d f)) b c → AtEachMomentOf (AreCalled name ways restore (holding d f)) a c
  since_undone d f restore a b c order first second =
      since_then (AreCalled name ways restore (holding d f) a.world) a b c (since_called d f restore a b order first)
      (since_weaker_if (AreCalled name ways restore (holding d f) b.world) (λ so_far. AreCalled name ways restore (holding d f) a.world (first.added ++ so_far)) b c
      (λ h so_far w is. (is.0, calling_on (holding d f) restore a.world b.world w first.added so_far is.0 (since_now (OnlyScripts (kept_by ways (holding d f)) a.world) a b first (second.honest h)) is.1, is.2)) second)

  -- the parts of a stage
  pub since_parts : (stage : Stage) (h : Holding) (a b : State) → Silent a b → AtEachMomentOf (AreAmid name stage.parts.items h.records) a b → AtEachMomentOf (IsAmidStage name ways stage h) a b
  since_parts stage h a b silent since =
      since_weaker (λ so_far w. AreAmid name stage.parts.items h.records a.world so_far w × (scripts_of so_far ≡ [])) (IsAmidStage name ways stage h a.world) a b
      (λ so_far w is. let has = doing_table name stage.parts.items h.records w (IsDeniedIn so_far) a.world is.0 in (has.0, IsInStage.doing is.1 is.0 has.1, has.2))
      (since_silent (AreAmid name stage.parts.items h.records a.world) a b silent since)

  -- and its calls behind them
  pub since_stage : (stage : Stage) (h mid : Holding) (a b c : State) → mid ≡ after_parts name stage.parts.items h → DoesParts name stage.parts.items h a b → AtEachMomentOf (AreAmid name stage.parts.items h.records) a b
      → AtEachMomentOf (AreCalled name ways stage.restore.items mid) b c → AtEachMomentOf (IsAmidStage name ways stage h) a c
  since_stage stage h mid a b c is parts first second =
      let begun = since_parts stage h a b parts.silent first in
      since_then (IsAmidStage name ways stage h a.world) a b c begun
      (since_weaker_if (AreCalled name ways stage.restore.items mid b.world) (λ so_far. IsAmidStage name ways stage h a.world (begun.added ++ so_far)) b c
      (λ honest so_far w at. (
        at.0,
        IsInStage.behind begun.added so_far b.world refl (silent_added a b begun.added parts.silent begun.events)
            (parts_wider name (WasDenied a b) (IsDeniedIn begun.added) (λ p is. denied_in a b begun.added p begun.events is) stage.parts.items h.records a.world b.world (parts.done (second.honest honest)))
            (subst (λ g. IsCalling name ways stage.restore.items g b.world so_far w at.0) is at.1),
        at.2,
      )) second)
