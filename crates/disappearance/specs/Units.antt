-- One package: it disappears, or it stays (Policy 6.6).
use Rattle.std.specs.Prelude.{◌≡◌, ℕ, true, IsTrue, List, [], ◌∷◌, ◌++◌, Option, None}
use Rattle.host_core.specs.Events.{Event, scripts_of}
use Rattle.host_core.specs.Host.{Reads, Silent, State}
use Rattle.host_core.specs.World.{World}
use Rattle.host_core.specs.declared.call.Call.{Call}
use Rattle.undo_rows.specs.Telling.{Begun}
use Rattle.diversions.specs.Ways.{Ways}
use Rattle.status_db.specs.Recorded.{Recorded}
use Rattle.status_records.specs.declared.record.Record.{Record}
use Rattle.held_administration.specs.Order.{IsInOrder}
use Rattle.unit_stages.specs.Calls.{MayRunStages}
use Rattle.unit_stages.specs.Holding.{Holding}
use Rattle.unit_stages.specs.Running.{AreRunning, IsOpenable}
use Rattle.unit_stages.specs.Runs.{HaveRun}
use Rattle.unit_stages.specs.declared.stage.Stage.{Stage}
use Rattle.undo_rows.specs.declared.rows.Called.{Called}
use Rattle.disappearance.specs.Stages.{IsPlan}
use Rattle.disappearance.specs.Verdicts.{Goes, Stays}
use Rattle.disappearance.specs.declared.losing.Losing.{Losing}

-- the administration is in order, with these records and lists
pub record IsInOrderWith (h : Holding) (w : World) : Type 0 where
  pub recorded : Recorded
  pub are : recorded.records ≡ h.records
  pub order : IsInOrder recorded h.lists w

-- the next opening finds some records
abbrev pub CanBeOpened : World → Type 0
CanBeOpened now = (table : List Record) × IsOpenable table now

module _ (name : List ℕ) (ways : Ways) (call gone : List Stage) where
  -- The call was made; whatever its outcome all goes behind it.
  pub record HaveRunBoth (failed : Option Call) (before after : Holding) (s t : State) (told now : List Called) : Type 0 where
    pub mid : State
    pub called : HaveRun name ways call failed before before s mid told now
    pub taken : HaveRun name ways gone None before after mid t now now

  -- the call has been made, and behind it all goes
  pub record IsBehindCall (h : Holding) (s : State) (so_far : List Event) (now : World) : Type 0 where
    pub failed : Option Call
    pub mid : State
    pub told : List Called
    pub more : List Called
    pub called : HaveRun name ways call failed h h s mid told more
    pub honest : IsTrue mid.honest
    pub front : List Event
    pub rest : List Event
    pub split : so_far ≡ front ++ rest
    pub events : mid.events ≡ s.events ++ front
    pub running : AreRunning name ways gone h mid.world rest now

  -- at each moment of the two
  pub data IsRunningBoth (h : Holding) (s : State) (so_far : List Event) (now : World) : Type 0 where
    calling : AreRunning name ways call h s.world so_far now → IsRunningBoth h s so_far now
    behind : IsBehindCall h s so_far now → IsRunningBoth h s so_far now

  -- the same, and the next opening finds records
  pub record IsAmidBoth (h : Holding) (s : State) (so_far : List Event) (now : World) : Type 0 where
    pub running : IsRunningBoth h s so_far now
    pub opens : CanBeOpened now

module _ (incoming version : List ℕ) (ways : Ways) where
  -- a package has disappeared: its stored postrm was called, nothing is left of it in the administration, and that is in order
  pub record HasDisappeared (l : Losing) (failed : Option Call) (before after : Holding) (s t : State) (told now : List Called) : Type 0 where
    pub goes : Goes incoming ways l before s.world t.honest
    pub call : List Stage
    pub gone : List Stage
    pub plan : IsPlan incoming version l.name before s.world t.honest call gone
    pub run : HaveRunBoth l.name ways call gone failed before after s t told now
    pub order : IsTrue t.honest → IsInOrderWith after t.world

  -- it stays: it was only looked at
  pub record HasStayed (l : Losing) (before after : Holding) (s t : State) (told now : List Called) : Type 0 where
    pub stays : Stays incoming ways l before s.world t.honest
    pub same : after ≡ before
    pub reads : Reads s t
    pub silent : Silent s t
    pub untold : now ≡ told

  -- one of the two, with the names of what disappeared and the call that failed
  pub data IsDecided (l : Losing) (names : List (List ℕ)) (failed : Option Call) (before after : Holding) (s t : State) (told now : List Called) : Type 0 where
    disappeared : names ≡ l.name ∷ [] → HasDisappeared l failed before after s t told now → IsDecided l names failed before after s t told now
    stayed : names ≡ [] → failed ≡ None → HasStayed l before after s t told now → IsDecided l names failed before after s t told now

  -- it is under way that a package disappears
  pub record IsGoing (l : Losing) (h : Holding) (s : State) (so_far : List Event) (now : World) : Type 0 where
    pub goes : Goes incoming ways l h s.world true
    pub call : List Stage
    pub gone : List Stage
    pub plan : IsPlan incoming version l.name h s.world true call gone
    pub running : IsRunningBoth l.name ways call gone h s so_far now

  -- at each moment of one package: it is only looked at yet, or it goes
  pub data IsAmidOne (l : Losing) (h : Holding) (s : State) (so_far : List Event) (now : World) : Type 0 where
    looking : now ≡ s.world → scripts_of so_far ≡ [] → IsAmidOne l h s so_far now
    going : IsGoing l h s so_far now → IsAmidOne l h s so_far now

  -- the same, and the next opening finds records
  pub record IsAmidUnit (l : Losing) (h : Holding) (s : State) (so_far : List Event) (now : World) : Type 0 where
    pub unit : IsAmidOne l h s so_far now
    pub opens : CanBeOpened now

  -- the calls of one package, whatever the answer: none, or the first of those that are legal for its call
  pub data HasCalledOne (l : Losing) (h : Holding) (s t : State) (told now : List Called) : Type 0 where
    uncalled : Silent s t → now ≡ told → HasCalledOne l h s t told now
    called : (call gone : List Stage) → Goes incoming ways l h s.world t.honest → IsPlan incoming version l.name h s.world t.honest call gone → Begun (MayRunStages call) s t told now → HasCalledOne l h s t told now
