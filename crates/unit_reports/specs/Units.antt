-- Units of a command: what each tells, and what it answers.
use Rattle.std.specs.Prelude.{◌≡◌, ℕ, IsTrue, List, [], ◌∷◌, ◌++◌, Option, Some, None, IsSomeAnd}
use Rattle.host_core.specs.Host.{State, Silent, HasFailed, NoFault, HasDeclined}
use Rattle.host_core.specs.declared.fault.HostFault.{HostFault}
use Rattle.host_core.specs.declared.fault.HostFault.TheVariants as host
use Rattle.status_records.specs.declared.record.Record.{Record}
use Rattle.status_records.specs.Records.{record_in}
use Rattle.undo_rows.specs.Transcript.{TellsAll}
use Rattle.undo_rows.specs.declared.failure.Failure.{Failure}
use Rattle.undo_rows.specs.declared.failure.Failure.TheVariants.{OfCall, OfFiles}
use Rattle.undo_rows.specs.declared.fall.StepFault.{StepFault}
use Rattle.undo_rows.specs.declared.fall.StepFault.TheVariants as step
use Rattle.undo_rows.specs.declared.rows.Called.{Called}
use Rattle.unit_reports.specs.Held.{Held}
use Rattle.unit_reports.specs.declared.refusal.Rule.{Rule}
use Rattle.unit_reports.specs.declared.report.Breakage.{Breakage}
use Rattle.unit_reports.specs.declared.report.Breakage.TheVariants.{Device, NoMemory, Declined, Damaged, Closed, Abandoned}
use Rattle.unit_reports.specs.declared.report.Reply.{Reply}
use Rattle.unit_reports.specs.declared.report.Reply.TheVariants.{Done, Refused, Failed, Looped, Broken}
use Rattle.unit_reports.specs.declared.report.Report.{Report}
use Rattle.unit_reports.specs.declared.report.Touched.{Touched}
use Rattle.unit_reports.specs.declared.report.Unit.{Unit as AUnit}

-- a package with its record at the end
abbrev pub touched_at : List Record → List ℕ → Touched
touched_at records name = record { «package» = name; entry = record_in records name }

-- it tells no package
pub record TellsNoPackage (u : AUnit) : Type 0 where
  pub touched : u.touched.items ≡ []
  pub deconfigured : u.deconfigured ≡ []

-- a refused unit: no call is told, and no package
pub record IsRefusedUnit (rule : Rule) (name : List ℕ) (u : AUnit) : Type 0 where
  pub calls : u.calls.items ≡ []
  pub untouched : TellsNoPackage u
  pub reply : u.reply ≡ Refused (record { rule = rule; «package» = name })

-- no script was called, and nothing has changed
pub record IsRefused (rule : Rule) (name : List ℕ) (before after : Held) (u : AUnit) (s t : State) : Type 0 where
  pub refused : IsRefusedUnit rule name u
  pub held : after ≡ before
  pub silent : Silent s t
  pub world : IsTrue t.honest → t.world ≡ s.world

-- the answer of a unit that was broken off
abbrev pub IsBroken : Reply → Type 0
IsBroken (Broken breakage) = Unit {0}
IsBroken Done = ⊥
IsBroken (Refused refusal) = ⊥
IsBroken (Failed failure) = ⊥
IsBroken (Looped cycle) = ⊥

abbrev pub IsBrokenBy : Breakage → Reply → Type 0
IsBrokenBy breakage reply = reply ≡ Broken breakage

-- a unit that was broken off for what was there before it: the session was closed, or as many had failed as were allowed to
abbrev pub IsFromBefore : Reply → Type 0
IsFromBefore (Broken Device) = ⊥
IsFromBefore (Broken NoMemory) = ⊥
IsFromBefore (Broken Declined) = ⊥
IsFromBefore (Broken Damaged) = ⊥
IsFromBefore (Broken Closed) = Unit {0}
IsFromBefore (Broken Abandoned) = Unit {0}
IsFromBefore Done = ⊥
IsFromBefore (Refused refusal) = ⊥
IsFromBefore (Failed failure) = ⊥
IsFromBefore (Looped cycle) = ⊥

-- the answer of a unit that a rule refuses
abbrev pub IsRefusal : Reply → Type 0
IsRefusal (Refused refusal) = Unit {0}
IsRefusal Done = ⊥
IsRefusal (Failed failure) = ⊥
IsRefusal (Looped cycle) = ⊥
IsRefusal (Broken breakage) = ⊥

abbrev pub breakage_of : HostFault → Breakage
breakage_of host.Device = Device
breakage_of host.NoMemory = NoMemory
breakage_of host.Declined = Declined

-- of the step faults of files only a declined step is one of the host
abbrev pub CountsStepFault : State → State → StepFault → Type 0
CountsStepFault old new (step.LinkParent path) = NoFault old new
CountsStepFault old new (step.NoParent path) = NoFault old new
CountsStepFault old new (step.DirInWay path) = NoFault old new
CountsStepFault old new (step.Clash path owner) = NoFault old new
CountsStepFault old new (step.DiversionTarget path diverter) = NoFault old new
CountsStepFault old new (step.Declined path) = HasDeclined old new

abbrev pub CountsCause : State → State → Failure → Type 0
CountsCause old new (OfCall call) = NoFault old new
CountsCause old new (OfFiles fault) = CountsStepFault old new fault

-- A unit is broken off for a device fault exactly where the device failed; where it's broken off by a step that was declined, or
-- fails for one, a step was declined in it.
abbrev pub CountsReply : State → State → Reply → Type 0
CountsReply old new (Broken Device) = HasFailed old new
CountsReply old new (Broken NoMemory) = NoFault old new
CountsReply old new (Broken Declined) = HasDeclined old new
CountsReply old new (Broken Damaged) = NoFault old new
CountsReply old new (Broken Closed) = NoFault old new
CountsReply old new (Broken Abandoned) = NoFault old new
CountsReply old new Done = NoFault old new
CountsReply old new (Refused refusal) = NoFault old new
CountsReply old new (Failed failure) = CountsCause old new failure.cause
CountsReply old new (Looped cycle) = NoFault old new

-- the same of the units of a command, of which the last may be broken off
abbrev pub CountsLast : State → State → Option AUnit → Type 0
CountsLast old new None = NoFault old new
CountsLast old new (Some unit) = CountsReply old new unit.reply

-- no call was made, and none is told
pub record HasNoCalls (u : AUnit) (s t : State) : Type 0 where
  pub silent : Silent s t
  pub told : u.calls.items ≡ []

-- the answer of a session that is closed: one unit that was broken off, and nothing else
pub record IsClosedReport (report : Report) : Type 0 where
  pub units : report.units.items ≡ []
  pub last : IsSomeAnd report.last (λ u. (u.calls.items ≡ []) × TellsNoPackage u × (u.reply ≡ Broken Closed))

-- the calls that units tell, in order
abbrev pub calls_of : List AUnit → List Called
calls_of [] = []
calls_of (u ∷ us) = u.calls.items ++ calls_of us

abbrev pub last_calls : Option AUnit → List Called
last_calls None = []
last_calls (Some u) = u.calls.items

-- the calls that a report tells, of its units and of the one that was broken off
abbrev pub calls_told : Report → List Called
calls_told report = calls_of report.units.items ++ last_calls report.last

-- these are the calls by which the host's own list has grown, in order and count
abbrev pub TellsCalls : State → State → Report → Type 0
TellsCalls old new report = TellsAll old new [] (calls_told report)
