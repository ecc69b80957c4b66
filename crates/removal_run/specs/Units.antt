-- The removal of one package, brought to the disk: what it did, and what its unit answers.
use Rattle.std.specs.Prelude.{◌≡◌, ◌≢◌, ℕ, Bool, true, false, List, [], ◌∷◌, ◌++◌, Option, Some, None}
use Rattle.host_core.specs.Events.{Did, Event, scripts_of}
use Rattle.host_core.specs.Host.{Happens, Needs, Silent, State, AtEachMomentOf}
use Rattle.host_core.specs.Loss.{IsAnswered}
use Rattle.host_core.specs.World.{World, Barrier}
use Rattle.host_core.specs.declared.call.Call.{Call}
use Rattle.removal_engine.specs.Units.{Given, HasCalled, HasRemoved, IsAmidUnit, given}
use Rattle.removal_engine.specs.declared.extent.Extent.{Extent}
use Rattle.removal_engine.specs.declared.extent.Extent.TheVariants.{Purge, Remove}
use Rattle.undo_rows.specs.declared.failure.Failure.TheVariants.{OfCall}
use Rattle.status_records.specs.Records.{record_in}
use Rattle.status_records.specs.declared.record.Record.{Record}
use Rattle.held_administration.specs.Order.{IsInOrder}
use Rattle.unit_reports.specs.Held.{Held}
use Rattle.unit_reports.specs.Units.{IsBroken, TellsNoPackage, touched_at}
use Rattle.unit_reports.specs.declared.report.Reply.{Reply}
use Rattle.unit_reports.specs.declared.report.Reply.TheVariants.{Done, Failed}
use Rattle.unit_reports.specs.declared.report.Unit.{Unit as AUnit}
use Rattle.unit_stages.specs.Holding.{Holding}
use Rattle.undo_rows.specs.declared.rows.Called.{Called}

-- the records and lists of what is held
abbrev pub holding_of : Held → Holding
holding_of h = record { records = h.records.records; lists = h.lists }

-- a purge, or a removal
abbrev pub extent_of : Bool → Extent
extent_of true = Purge
extent_of false = Remove

-- a package to be removed or purged, and what is held
abbrev pub given_by : Bool → List ℕ → Held → Given
given_by purge name h = given (extent_of purge) name h.ways (holding_of h)

-- the reply to a unit of a package, by the call for which it failed
abbrev pub reply_to : List ℕ → Option Call → Reply
reply_to name None = Done
reply_to name (Some call) = Failed (record { «package» = name; cause = OfCall call })

-- how a unit answers: it tells the package with its record
pub record Answers (name : List ℕ) (records : List Record) (failed : Option Call) (u : AUnit) : Type 0 where
  pub replied : u.reply ≡ reply_to name failed
  pub touched : u.touched.items ≡ touched_at records name ∷ []
  pub deconfigured : u.deconfigured ≡ []

-- the package was removed or purged, or that failed; then all was brought to the disk
pub record IsBroughtToDisk (purge : Bool) (name : List ℕ) (before : Held) (failed : Option Call) (after : Held) (s t : State) (told now : List Called) : Type 0 where
  pub m : State
  pub removed : HasRemoved (given_by purge name before) failed (holding_of after) s m told now
  pub disk : Happens (Did Barrier ∷ []) m t

-- so it was, the administration is in order, and the unit answers that
pub record IsRemoval (purge : Bool) (name : List ℕ) (before after : Held) (u : AUnit) (s t : State) : Type 0 where
  pub failed : Option Call
  pub removed : IsBroughtToDisk purge name before failed after s t [] u.calls.items
  pub order : Needs t (IsInOrder after.records after.lists)
  pub ways : after.ways ≡ before.ways
  pub answers : Answers name after.records.records failed u

-- the records of other packages are as before
abbrev pub AreOthersKept : List ℕ → List Record → List Record → Type 0
AreOthersKept name old new = (q : List ℕ) → q ≢ name → record_in new q ≡ record_in old q

-- At each moment of a removal nothing is done yet, or it is under way, and behind that nothing but the disk was called.
pub record IsAmidRemoval (purge : Bool) (name : List ℕ) (before : Held) (old : World) (so_far : List Event) (now : World) : Type 0 where
  pub front : List Event
  pub quiet : List Event
  pub split : so_far ≡ front ++ quiet
  pub silent : scripts_of quiet ≡ []
  pub amid : IsAmidUnit (given_by purge name before) old front now

-- the calls of a removal, whatever its end: the first of those that it may make
pub record HasCalledRemoving (purge : Bool) (name : List ℕ) (before : Held) (s t : State) (told now : List Called) : Type 0 where
  pub m : State
  pub called : HasCalled (given_by purge name before) s m told now
  pub silent : Silent m t

-- a removal from one moment of the host to a later one; at each moment between them it is under way, and in the end all of
-- it is on the disk
pub record RunsRemoval (purge : Bool) (name : List ℕ) (before after : Held) (u : AUnit) (s t : State) : Type 0 where
  pub is : IsRemoval purge name before after u s t
  pub moments : AtEachMomentOf (IsAmidRemoval purge name before) s t
  pub answered : IsAnswered s t

-- its unit where it was broken off: it tells no package
pub record IsBrokenOff (purge : Bool) (name : List ℕ) (before : Held) (u : AUnit) (s t : State) : Type 0 where
  pub broken : IsBroken u.reply
  pub untouched : TellsNoPackage u
  pub called : HasCalledRemoving purge name before s t [] u.calls.items
