-- Commands one after another, as far as triggers go (deb-triggers).
use Rattle.std.specs.Prelude.{◌≡◌, ◌⊎◌, ℕ, Bool, true, IsTrue, List, [], None}
use Rattle.host_core.specs.Host.{Falls, State}
use Rattle.host_core.specs.World.{World}
use Rattle.status_records.specs.declared.record.Record.{Record}
use Rattle.trigger_journal.specs.Asked.{is_found}
use Rattle.trigger_journal.specs.Requests.{requests_of}
use Rattle.trigger_turns.specs.Turns.{names_told}
use Rattle.trigger_watch.specs.Names.{is_among}
use Rattle.unit_reports.specs.Held.{Held}
use Rattle.unit_reports.specs.declared.report.Report.{Report}
use Rattle.unit_reports.specs.declared.report.Unit.{Unit as AUnit}
use Rattle.command_line.specs.Triggering.{HasBegun, HasNoted, HasTriggered, touched_of}
use Rattle.kept_activations.specs.Hitting.{IsHit}
use Rattle.kept_activations.specs.Journal.{IsSomeInterested, StandsStill}
use Rattle.kept_activations.specs.Known.{Known, Triggered, Triggering}
use Rattle.kept_activations.specs.Pending.{IsInterested, IsPending, IsUnfinished}
use Rattle.kept_activations.specs.Processing.{IsProcessed}

-- what a command finds and leaves: the root, and the records that are read in it
pub record Moment : Type 0 where
  pub world : World
  pub records : List Record

abbrev pub moment : World → List Record → Moment
moment world records = record { world = world; records = records }

-- one of these units tells the package: it was unpacked, configured or removed, or on the way to that
abbrev pub IsTold : List AUnit → List ℕ → Type 0
IsTold us owner = is_among (names_told us) owner ≡ true

-- what was pending is so still, but for packages that one of these units tells
abbrev pub KeepsUntold : List AUnit → List Record → List Record → Type 0
KeepsUntold us old new = (owner trigger : List ℕ) → IsPending old owner trigger → IsPending new owner trigger ⊎ IsTold us owner

-- What was pending is so still, but for packages that one of these units tells, and those that are less than installed now.
abbrev pub LeavesPending : List AUnit → List Record → List Record → Type 0
LeavesPending us old new = (owner trigger : List ℕ) → IsPending old owner trigger → IsPending new owner trigger ⊎ (IsTold us owner ⊎ IsUnfinished new owner)

-- A unit tells the package, and by these records behind the units the trigger isn't pending of it any more.
abbrev pub IsTakenUp : List AUnit → List Record → List ℕ → List ℕ → Type 0
IsTakenUp us records owner trigger = IsTold us owner × (IsPending records owner trigger → ⊥)

-- What was done behind units, with nothing broken off: it was noted what these have activated, and processed. The host was honest.
pub record IsCarriedOut (t : Triggering) (us : List AUnit) (known : Known) (came : Triggered) (before after : Held) (s end : State) : Type 0 where
  pub triggered : HasTriggered t known (touched_of us) came before after s end
  pub noted : came.noted.last ≡ None
  pub processed : came.processed.last ≡ None
  pub honest : IsTrue end.honest

-- A command begins at a moment: it looks at triggers, and writes ahead.
pub record IsBegun (by_files : Bool) (known : Known) (old : Moment) (before : Held) (begun : State) : Type 0 where
  pub s : State
  pub world : s.world ≡ old.world
  pub records : before.records.records ≡ old.records
  pub begins : HasBegun by_files known before s begun

-- what is assumed of the units of a command: they leave what is pending, and no lie of the host is forgotten
abbrev pub AreSuchUnits : List AUnit → Held → Held → State → State → Type 0
AreSuchUnits us before mid begun done = LeavesPending us before.records.records mid.records.records × Falls begun done

-- One that came to its end, of which no unit was broken off.
pub record IsEnded (old new : Moment) : Type 0 where
  pub t : Triggering
  pub known : Known
  pub us : List AUnit
  pub came : Triggered
  pub before : Held
  pub mid : Held
  pub after : Held
  pub begun : State
  pub done : State
  pub end : State
  pub first : IsBegun t.by_files known old before begun
  pub units : AreSuchUnits us before mid begun done
  pub out : IsCarriedOut t us known came mid after done end
  pub world : new.world ≡ end.world
  pub records : new.records ≡ after.records.records

-- One that was stopped, or of which a unit was broken off, before it had emptied the journal. It is assumed that to the journal it was
-- only added since, and that what was done of its units leaves what was pending.
pub record IsStopped (old new : Moment) : Type 0 where
  pub by_files : Bool
  pub known : Known
  pub us : List AUnit
  pub before : Held
  pub begun : State
  pub first : IsBegun by_files known old before begun
  pub honest : IsTrue begun.honest
  pub journal : StandsStill begun.world new.world
  pub units : LeavesPending us before.records.records new.records

-- One that was stopped, or broken off, once all was noted behind its units: while the journal is emptied, or triggers are processed. It is
-- assumed that what was done of that leaves what was pending.
pub record IsStoppedLate (old new : Moment) : Type 0 where
  pub by_files : Bool
  pub known : Known
  pub us : List AUnit
  pub noted : Report
  pub more : List AUnit
  pub before : Held
  pub mid : Held
  pub after : Held
  pub begun : State
  pub done : State
  pub noting : State
  pub first : IsBegun by_files known old before begun
  pub units : AreSuchUnits us before mid begun done
  pub notes : HasNoted by_files known (touched_of us) noted mid after done noting
  pub all : noted.last ≡ None
  pub honest : IsTrue noting.honest
  pub processing : LeavesPending more after.records.records new.records

-- What came between commands: an opening of the root, a question, a command that was stopped before it had written ahead, or requests of
-- others. It is assumed that to the journal it was only added, and that what was pending is so still.
pub record IsBetween (old new : Moment) : Type 0 where
  pub journal : StandsStill old.world new.world
  pub units : LeavesPending [] old.records new.records

pub data Command (old new : Moment) : Type 0 where
  between : IsBetween old new → Command old new
  ended : IsEnded old new → Command old new
  stopped : IsStopped old new → Command old new
  stopped_late : IsStoppedLate old new → Command old new

-- one that ended, among all kinds
abbrev pub ended_one : (old new : Moment) → IsEnded old new → Command old new
ended_one old new c = Command.ended c

-- command after command
pub data Commands (first : Moment) : Moment → Type 0 where
  none : Commands first first
  then : (mid last : Moment) → Commands first mid → Command mid last → Commands first last

-- A unit of a command hits the trigger. Where the command was stopped before it had noted anything, this may be any trigger, if a package
-- with files was interested in some trigger when it began, and its lines were written ahead.
abbrev pub IsCausedBy : (old new : Moment) → Command old new → List ℕ → Type 0
IsCausedBy old new (Command.between c) trigger = ⊥
IsCausedBy old new (Command.ended c) trigger = IsHit c.done.world c.mid.lists c.t.by_files c.known.watch.before.items (touched_of c.us) trigger
IsCausedBy old new (Command.stopped c) trigger = IsSomeInterested old.world old.records × (c.first.begins.foreseen.written ≡ true)
IsCausedBy old new (Command.stopped_late c) trigger = IsHit c.done.world c.mid.lists c.by_files c.known.watch.before.items (touched_of c.us) trigger

-- The trigger isn't lost at this moment: it is pending of the package, or asked for by the journal.
abbrev pub IsCarried : Moment → List ℕ → List ℕ → Type 0
IsCarried m owner trigger = IsPending m.records owner trigger ⊎ (is_found (requests_of m.world) trigger ≡ true)

-- A command has settled it. A unit of it told the package, of which it isn't pending any more; or the package was less than installed
-- behind the units, or not installed and interested, when it was noted what is pending; or its triggers were processed, this one among
-- them; or it is less than installed in the end.
abbrev pub IsSettledBy : (old new : Moment) → Command old new → List ℕ → List ℕ → Type 0
IsSettledBy old new (Command.between c) owner trigger = IsTakenUp [] new.records owner trigger ⊎ IsUnfinished new.records owner
IsSettledBy old new (Command.ended c) owner trigger =
    (IsTakenUp c.us c.mid.records.records owner trigger ⊎ (IsUnfinished c.mid.records.records owner ⊎ (IsInterested c.done.world c.mid.records.records owner trigger → ⊥)))
    ⊎ (IsProcessed c.came.processed.units.items owner trigger ⊎ IsUnfinished new.records owner)
IsSettledBy old new (Command.stopped c) owner trigger = IsTakenUp c.us new.records owner trigger ⊎ IsUnfinished new.records owner
IsSettledBy old new (Command.stopped_late c) owner trigger =
    (IsTakenUp c.us c.mid.records.records owner trigger ⊎ (IsUnfinished c.mid.records.records owner ⊎ (IsInterested c.done.world c.mid.records.records owner trigger → ⊥)))
    ⊎ (IsTakenUp c.more new.records owner trigger ⊎ IsUnfinished new.records owner)

-- one of these commands has
abbrev pub IsSettledIn : (first last : Moment) → Commands first last → List ℕ → List ℕ → Type 0
IsSettledIn first last Commands.none owner trigger = ⊥
IsSettledIn first last (Commands.then mid end so_far c) owner trigger = IsSettledIn first mid so_far owner trigger ⊎ IsSettledBy mid last c owner trigger
