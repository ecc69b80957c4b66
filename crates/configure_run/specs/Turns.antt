-- Packages configured in turn, each from what the one before it left (Policy 6.7, 7.2).
use Rattle.std.specs.Prelude.{◌≡◌, ◌⊎◌, ℕ, Bool, true, false, IsTrue, List, [], ◌∷◌, ◌++◌, Option, Some, None, IfSome}
use Rattle.conffiles.specs.declared.decisions.ConfPolicy.{ConfPolicy}
use Rattle.dependency_check.specs.Deconfigured.{of_role}
use Rattle.dependency_check.specs.Waiting.{Waiting, with_configured, without_failed}
use Rattle.dependency_check.specs.declared.roles.Role.TheVariants.{Breaking}
use Rattle.dependency_sets.specs.Choices.{IsFirst}
use Rattle.diversions.specs.Ways.{Ways}
use Rattle.host_core.specs.Events.{Event, Did, scripts_of}
use Rattle.host_core.specs.Host.{State, AtEachMomentOf, Happens, Needs, Reads, Silent}
use Rattle.host_core.specs.Loss.{IsAnswered}
use Rattle.host_core.specs.World.{World, Barrier}
use Rattle.host_core.specs.declared.call.Call.{Call}
use Rattle.relation_index.specs.declared.package.Package.{Package}
use Rattle.undo_rows.specs.declared.failure.Failure.TheVariants.{OfCall}
use Rattle.status_records.specs.Records.{record_in}
use Rattle.status_records.specs.declared.record.Record.{Record}
use Rattle.held_administration.specs.Order.{IsInOrder}
use Rattle.unit_stages.specs.Holding.{Holding}
use Rattle.unit_reports.specs.Held.{Held}
use Rattle.unit_reports.specs.Units.{HasNoCalls, IsBroken, IsRefused, TellsNoPackage, touched_at}
use Rattle.unit_reports.specs.declared.refusal.Rule.TheVariants.{BrokenBy, ConffileKind}
use Rattle.unit_reports.specs.declared.report.Reply.{Reply}
use Rattle.unit_reports.specs.declared.report.Reply.TheVariants.{Done, Refused, Failed, Looped, Broken}
use Rattle.unit_reports.specs.declared.report.Unit.{Unit as AUnit}
use Rattle.undo_rows.specs.declared.rows.Called.{Called}
use Rattle.configure_engine.specs.Obstacles.{IsObstacle, names_of_all}
use Rattle.configure_engine.specs.Units.{Given, HasCalled, HasConfigured, HasEnded, given}
use Rattle.configure_engine.specs.Units.{IsAmidUnit as IsAmidConfiguring}
use Rattle.configure_engine.specs.Waiting.{settling_places}
use Rattle.unit_runs.specs.Turns as runs
use Rattle.unit_runs.specs.Turns.{IsBrokenNext, IsStill, TurnsTo}
use Rattle.configure_run.specs.LeftOver.{HaveRefusedLeft, HaveRefusedSomeLeft, IsNumbered}
use Rattle.configure_run.specs.Starting.{name_at}
use Rattle.configure_run.specs.Whose.{IsNobodysTurn, IsWhoseTurn}
use Rattle.configure_run.specs.declared.options.ConfigureOptions.{ConfigureOptions}

-- another package that is at least half-installed admits this one in Breaks (Policy 7.3)
abbrev pub IsBreaking : List Package → Package → ℕ → Type 0
IsBreaking packages p y = IsTrue (of_role Breaking p packages y)

-- what the unit that configures a package finds
abbrev pub holding_of : Held → Holding
holding_of h = record { records = h.records.records; lists = h.lists }

abbrev pub given_by : ConfPolicy → List ℕ → Held → Given
given_by policy name h = given name policy h.ways (holding_of h)

-- the smallest of the names of its conffiles, at their places, at which something else than a file stands, if there is one
pub record HasObstacle (ways : Ways) (records : List Record) (name : List ℕ) (w : World) (found : Option (List ℕ)) : Type 0 where
  pub entry : Record
  pub recorded : record_in records name ≡ Some entry
  pub obstacle : IsObstacle w (names_of_all (settling_places ways entry)) found

-- done, or failed by this call
abbrev pub reply_to : List ℕ → Option Call → Reply
reply_to name None = Done
reply_to name (Some call) = Failed (record { «package» = name; cause = OfCall call })

-- what the unit of a package tells at its end
pub record Answers (name : List ℕ) (records : List Record) (failed : Option Call) (u : AUnit) : Type 0 where
  pub replied : u.reply ≡ reply_to name failed
  pub touched : u.touched.items ≡ touched_at records name ∷ []
  pub deconfigured : u.deconfigured ≡ []

-- a unit that configures a package, and all of it brought to the disk
pub record ConfiguresToDisk (g : Given) (failed : Option Call) (after : Holding) (s t : State) (told now : List Called) : Type 0 where
  pub left : State
  pub unit : HasConfigured g failed after s left told now
  pub flushed : Happens (Did Barrier ∷ []) left t

-- its calls, whatever the answer: the first of those that are legal for it
pub record HasCalledToDisk (g : Given) (s t : State) (told now : List Called) : Type 0 where
  pub left : State
  pub called : HasCalled g s left told now
  pub quiet : Silent left t

-- The package was configured, or its script failed, and the administration is in order.
pub record IsConfigured (policy : ConfPolicy) (name : List ℕ) (before after : Held) (u : AUnit) (s t : State) : Type 0 where
  pub failed : Option Call
  pub configured : ConfiguresToDisk (given_by policy name before) failed (holding_of after) s t [] u.calls.items
  pub ended : HasEnded name failed before.records.records after.records.records
  pub order : Needs t (IsInOrder after.records after.lists)
  pub ways : after.ways ≡ before.ways
  pub answers : Answers name after.records.records failed u

-- The unit of a package that no other breaks: refused where something else than a file stands at a name of one of its conffiles,
-- else configured.
pub data IsUnitFor (policy : ConfPolicy) (name : List ℕ) (before after : Held) (u : AUnit) (s t : State) : Type 0 where
  obstructed : (path : List ℕ) → (IsTrue t.honest → HasObstacle before.ways before.records.records name s.world (Some path)) → IsRefused (ConffileKind path) name before after u s t
      → IsUnitFor policy name before after u s t
  configured : (looked : State) → Reads s looked → Silent s looked → (IsTrue looked.honest → HasObstacle before.ways before.records.records name s.world None)
      → IsConfigured policy name before after u looked t → IsUnitFor policy name before after u s t

-- The unit of the package whose turn it is: another breaks it, the first in name order; or none does.
pub data IsUnit (policy : ConfPolicy) (packages : List Package) (p : Package) (before after : Held) (u : AUnit) (s t : State) : Type 0 where
  broken : (y : ℕ) → IsFirst (IsBreaking packages p) y → IsRefused (BrokenBy (name_at packages y)) p.name before after u s t → IsUnit policy packages p before after u s t
  unbroken : ((y : ℕ) → IsBreaking packages p y → ⊥) → IsUnitFor policy p.name before after u s t → IsUnit policy packages p before after u s t

-- what holds at a moment of a part, with other events before it and behind it of which none calls a script
pub record IsBeside (P : List Event → World → Type 0) (so_far : List Event) (now : World) : Type 0 where
  pub before : List Event
  pub during : List Event
  pub behind : List Event
  pub are : so_far ≡ before ++ (during ++ behind)
  pub quiet_before : scripts_of before ≡ []
  pub quiet_behind : scripts_of behind ≡ []
  pub holds : P during now

-- at each moment of the unit of a package: nothing has changed yet, or it is being configured
abbrev pub IsAmidUnit : ConfPolicy → List ℕ → Held → World → List Event → World → Type 0
IsAmidUnit policy name before old so_far now = IsStill old so_far now ⊎ IsBeside (IsAmidConfiguring (given_by policy name before) old) so_far now

-- the calls of the unit of a package, whatever its answer
pub record HasCalledFor (policy : ConfPolicy) (name : List ℕ) (before : Held) (u : AUnit) (s t : State) : Type 0 where
  pub looked : State
  pub quiet : Silent s looked
  pub same : IsTrue looked.honest → looked.world ≡ s.world
  pub called : HasCalledToDisk (given_by policy name before) looked t [] u.calls.items

-- whose turn it is
pub record IsNext (options : ConfigureOptions) (silent : ℕ → Bool) (q : Waiting) (x : ℕ) (p : Package) : Type 0 where
  pub next : IsWhoseTurn options.ignore_depends silent q x
  pub numbered : IsNumbered q.packages x p

-- the next unit is under way
abbrev pub IsAmidTurn : ConfigureOptions → (ℕ → Bool) → Waiting → Held → World → List Event → World → Type 0
IsAmidTurn options silent q before old so_far now = (x : ℕ) × (p : Package) × IsNext options silent q x p × IsAmidUnit options.policy p.name before old so_far now

-- at each moment behind some turns: nothing has changed yet, or the next unit is under way
abbrev pub IsAmidNext : ConfigureOptions → (ℕ → Bool) → Waiting → Held → World → List Event → World → Type 0
IsAmidNext options silent q before old so_far now = runs.IsAmidNext (λ left later. IsAmidTurn options silent left) q q before old so_far now

abbrev pub is_done : Reply → Bool
is_done Done = true
is_done (Refused refusal) = false
is_done (Failed failure) = false
is_done (Looped cycle) = false
is_done (Broken breakage) = false

-- A package that was configured is installed; whatever was answered, it waits no longer.
abbrev pub after_turn : Bool → ℕ → Waiting → Waiting
after_turn true x q = with_configured x q
after_turn false x q = without_failed x q

-- One turn: that of the next package. At each moment its unit is under way, and in the end all of it is on the disk.
pub record IsTurn (options : ConfigureOptions) (silent : ℕ → Bool) (q : Waiting) (before : Held) (u : AUnit) (later : Waiting) (after : Held) (s t : State) : Type 0 where
  pub x : ℕ
  pub p : Package
  pub next : IsNext options silent q x p
  pub is : IsUnit options.policy q.packages p before after u s t
  pub later_is : later ≡ after_turn (is_done u.reply) x q
  pub moments : AtEachMomentOf (IsAmidUnit options.policy p.name before) s t
  pub answered : IsAnswered s t

-- one turn after another
abbrev pub ConfiguresTo : ConfigureOptions → (ℕ → Bool) → Waiting → Held → State → List AUnit → Waiting → Held → State → Type 0
ConfiguresTo options silent start before s us q after t = TurnsTo (IsTurn options silent) start before s us q after t

-- the units of some turns behind others
abbrev pub HaveTurned : ConfigureOptions → (ℕ → Bool) → Waiting → Held → State → List AUnit → List AUnit → Waiting → Held → State → Type 0
HaveTurned options silent start before s first now q after t = runs.HaveTurned (IsTurn options silent) start before s first now q after t

-- all turns were taken, and those left over are refused
pub record EndTurns (options : ConfigureOptions) (silent : ℕ → Bool) (start : Waiting) (before : Held) (s : State) (first now : List AUnit) (after : Held) (t : State) : Type 0 where
  pub q : Waiting
  pub front : List AUnit
  pub turned : HaveTurned options silent start before s first front q after t
  pub ended : IsNobodysTurn options.ignore_depends silent q
  pub left_over : HaveRefusedLeft q front now

-- the calls of the unit that was broken off: none, or the first of those of the package whose turn it was
abbrev pub HasCalledNext : ConfigureOptions → (ℕ → Bool) → Waiting → Held → State → State → AUnit → Type 0
HasCalledNext options silent q before s t u = HasNoCalls u s t ⊎ ((x : ℕ) × (p : Package) × IsNext options silent q x p × HasCalledFor options.policy p.name before u s t)

-- The unit that was broken off: it tells no package. It made no call, or the first of those of the package whose turn it was.
abbrev pub IsBrokenOff : ConfigureOptions → (ℕ → Bool) → Waiting → Held → State → State → AUnit → Type 0
IsBrokenOff options silent q before s t u = IsBrokenNext (λ left later. HasCalledNext options silent left) q q before s t u

-- the same of one that was broken off before it began
pub record IsBrokenStill (s t : State) (u : AUnit) : Type 0 where
  pub broken : IsBroken u.reply
  pub untouched : TellsNoPackage u
  pub none : HasNoCalls u s t

-- How far turns came that may have been broken off: in a turn, behind others; or when those left over were being refused.
pub data StopTurns (options : ConfigureOptions) (silent : ℕ → Bool) (start : Waiting) (before : Held) (s : State) (first now : List AUnit) (last : Option AUnit) (t : State) : Type 0 where
  turning : (q : Waiting) (after : Held) (m : State) → HaveTurned options silent start before s first now q after m → AtEachMomentOf (IsAmidNext options silent q after) m t
      → IfSome last (IsBrokenOff options silent q after m t) → StopTurns options silent start before s first now last t
  leaving : (q : Waiting) (after : Held) (front : List AUnit) → HaveTurned options silent start before s first front q after t → IsNobodysTurn options.ignore_depends silent q
      → HaveRefusedSomeLeft q front now → IfSome last (IsBrokenStill t t) → StopTurns options silent start before s first now last t

-- at each moment of turns: some were taken on a host that was honest so far, and the next is under way
abbrev pub IsAmidTurns : ConfigureOptions → (ℕ → Bool) → Waiting → Held → State → List Event → World → Type 0
IsAmidTurns options silent start before s so_far now =
    runs.IsAmidTurns (IsTurn options silent) (λ left later. IsAmidTurn options silent left) (λ later. Unit {0}) start before s so_far now
