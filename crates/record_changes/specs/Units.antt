-- One change: what is wanted of a package is recorded (Policy 6.8 speaks of what is done with it), what activates its triggers, that
-- these are abandoned, or what it awaits.
use Rattle.std.specs.Prelude.{◌≡◌, ◌⊎◌, ℕ, IsTrue, List, [], ◌∷◌, Option, Some, None}
use Rattle.held_administration.specs.Order.{IsInOrder}
use Rattle.host_core.specs.Events.{Event, scripts_of}
use Rattle.host_core.specs.Host.{State, Needs, Silent}
use Rattle.host_core.specs.World.{World}
use Rattle.status_db.specs.Noting.{IsNoted, IsNoting}
use Rattle.status_records.specs.Records.{put_record, record_in}
use Rattle.status_records.specs.declared.record.Record.{Record}
use Rattle.unit_reports.specs.Held.{Held}
use Rattle.unit_reports.specs.Units.{IsRefusedUnit, touched_at}
use Rattle.unit_reports.specs.declared.refusal.Rule.TheVariants.{Unknown}
use Rattle.unit_reports.specs.declared.report.Reply.{Reply}
use Rattle.unit_reports.specs.declared.report.Reply.TheVariants.{Done, Looped}
use Rattle.unit_reports.specs.declared.report.Unit.{Unit as AUnit}
use Rattle.unit_runs.specs.Turns.{IsStill}
use Rattle.record_changes.specs.Activated.{IsMade, changed}
use Rattle.record_changes.specs.declared.change.Change.{Change}
use Rattle.record_changes.specs.declared.change.Change.TheVariants as change
use Rattle.record_changes.specs.declared.change.RecordChange.{RecordChange}

-- what is recorded of the package
abbrev pub entry_of : RecordChange → List Record → Option Record
entry_of asked records = record_in records asked.name

-- the records where this one is changed, and all others are as before
abbrev pub recorded : RecordChange → Record → List Record → List Record
recorded asked r records = put_record (changed asked.change r) records

-- nothing was done
pub record IsLeftAlone (before after : Held) (s t : State) : Type 0 where
  pub held : after ≡ before
  pub here : t ≡ s

-- It was recorded, and the administration is in order. Nothing else that is held has changed, and nothing at other paths than those of
-- records; no script was called.
pub record IsRecorded (asked : RecordChange) (r : Record) (before after : Held) (s t : State) : Type 0 where
  pub records : after.records.records ≡ recorded asked r before.records.records
  pub lists : after.lists ≡ before.lists
  pub ways : after.ways ≡ before.ways
  pub noted : IsTrue t.honest → IsNoted after.records s.world t.world
  pub order : Needs t (IsInOrder after.records after.lists)
  pub silent : Silent s t

-- how a change of a package is answered once it was recorded
abbrev pub reply_by : List ℕ → Change → Reply
reply_by name (change.Want want) = Done
reply_by name (change.Activate names) = Done
reply_by name (change.Await names) = Done
reply_by name (change.Abandon trigger) = Looped (record { «package» = name; trigger = trigger })

abbrev pub reply_to : RecordChange → Reply
reply_to asked = reply_by asked.name asked.change

-- a unit with this answer: it made no call, and tells the package with its record
pub record IsAnsweredBy (reply : Reply) (name : List ℕ) (records : List Record) (u : AUnit) : Type 0 where
  pub calls : u.calls.items ≡ []
  pub touched : u.touched.items ≡ touched_at records name ∷ []
  pub deconfigured : u.deconfigured ≡ []
  pub replied : u.reply ≡ reply

-- One change, and its unit: a package without a record is refused; where it is made already nothing is done; else it is recorded.
pub data IsChange (asked : RecordChange) (before after : Held) (u : AUnit) (s t : State) : Type 0 where
  unknown : entry_of asked before.records.records ≡ None → IsRefusedUnit Unknown asked.name u → IsLeftAlone before after s t → IsChange asked before after u s t
  made : (r : Record) → entry_of asked before.records.records ≡ Some r → IsMade asked.change r → IsAnsweredBy Done asked.name before.records.records u → IsLeftAlone before after s t
      → IsChange asked before after u s t
  noted : (r : Record) → entry_of asked before.records.records ≡ Some r → (IsMade asked.change r → ⊥) → IsAnsweredBy (reply_to asked) asked.name after.records.records u
      → IsRecorded asked r before after s t → IsChange asked before after u s t

-- the note is being written: the records are those of before, or those with what was asked
pub record IsBeingRecorded (asked : RecordChange) (before : Held) (old : World) (so_far : List Event) (now : World) : Type 0 where
  pub r : Record
  pub found : entry_of asked before.records.records ≡ Some r
  pub noting : IsNoting before.records.records (recorded asked r before.records.records) old now
  pub quiet : scripts_of so_far ≡ []

-- at each moment of a change: nothing is done yet, or its note is being written
abbrev pub IsAmidChange : RecordChange → Held → World → List Event → World → Type 0
IsAmidChange asked before old so_far now = IsStill old so_far now ⊎ IsBeingRecorded asked before old so_far now
