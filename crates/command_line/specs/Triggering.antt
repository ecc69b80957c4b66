-- What is done of triggers around the units of a command (deb-triggers).
use Rattle.std.specs.Prelude.{◌≡◌, ℕ, Bool, true, false, IsNone, IsSomeAnd, IsTrue, MatchBool, List, [], ◌++◌, ◌⊎◌, MatchOption, Option, Some, None, Result, Ok, Err, map, max}
use Rattle.std.specs.List.{flat_map}
use Rattle.host_core.specs.Events.{Event}
use Rattle.host_core.specs.Host.{AtEachMoment, Counts, NoFault, Reads, Silent, State}
use Rattle.host_core.specs.Looks.{Looks}
use Rattle.host_core.specs.Loss.{IsAnswered}
use Rattle.host_core.specs.World.{World}
use Rattle.host_core.specs.declared.fault.HostFault.{HostFault}
use Rattle.record_changes.specs.declared.change.RecordChange.{RecordChange}
use Rattle.report_lines.specs.Reports.{report_lines, report_status}
use Rattle.status_records.specs.declared.record.Record.{Record}
use Rattle.status_records.specs.declared.words.State.{State as AState}
use Rattle.status_records.specs.declared.words.State.TheVariants as state
use Rattle.trigger_files.specs.Registered.{HasRegistered, IsRegistering}
use Rattle.trigger_journal.specs.Asked.{asked_of}
use Rattle.trigger_journal.specs.Requests.{requests_of}
use Rattle.trigger_journal.specs.Writing.{IsAhead, IsCleared, IsClearing, IsUnwritten, IsWritingAhead}
use Rattle.trigger_journal.specs.declared.requests.Request.{Request}
use Rattle.trigger_watch.specs.Activations.{activations_of}
use Rattle.trigger_watch.specs.Watch.{IsWatch}
use Rattle.trigger_watch.specs.declared.touching.Touch.{Touch}
use Rattle.dpkg_session.specs.Activated.{change_by}
use Rattle.dpkg_session.specs.Installs.{last_of}
use Rattle.unit_reports.specs.Held.{Held}
use Rattle.unit_reports.specs.Units.{TellsNoPackage, breakage_of}
use Rattle.unit_reports.specs.Watching.{IsTold}
use Rattle.unit_reports.specs.declared.report.Breakage.{Breakage}
use Rattle.unit_reports.specs.declared.report.Reply.TheVariants.{Broken}
use Rattle.unit_reports.specs.declared.report.Report.{Report}
use Rattle.unit_reports.specs.declared.report.Touched.{Touched}
use Rattle.unit_reports.specs.declared.report.Unit.{Unit as AUnit}
use Rattle.trigger_turns.specs.Told.{AreTold, AreToldInTurns}
use Rattle.command_line.specs.Roots.{WritesJournalAlone}
use Rattle.trigger_turns.specs.Settled.{HasProcessedPending}
use Rattle.trigger_turns.specs.Turns.{HasChanged, first_wishes, names_told, pending_owners}
use Rattle.command_line.specs.declared.answer.Answer.{Answer}
use Rattle.command_line.specs.declared.triggering.Known.{Known}
use Rattle.command_line.specs.declared.triggering.Triggered.{Triggered}
use Rattle.command_line.specs.declared.triggering.Triggering.{Triggering}

-- Whether the files of a package were unpacked or taken away in a unit that leaves it in this state: not in one that configured it, or
-- began to.
abbrev pub has_changed_files : AState → Bool
has_changed_files state.NotInstalled = true
has_changed_files state.ConfigFiles = true
has_changed_files state.HalfInstalled = true
has_changed_files state.Unpacked = true
has_changed_files state.HalfConfigured = false
has_changed_files state.Installed = false

-- the same by the record that the unit tells: of a package without one they were taken away
abbrev pub changes_files : Option Record → Bool
changes_files None = true
changes_files (Some r) = has_changed_files r.state

abbrev pub touch_of : Touched → Touch
touch_of t = record { «package» = t.«package»; files = changes_files t.entry }

abbrev pub touched_by : AUnit → List Touch
touched_by u = map touch_of u.touched.items

-- the packages that units tell, in the order of the units
abbrev pub touched_of : List AUnit → List Touch
touched_of us = flat_map touched_by us

-- a report without units
pub record IsIdle (report : Report) : Type 0 where
  pub units : report.units.items ≡ []
  pub last : report.last ≡ None

-- nothing was to be done
pub record IsUntriggered (came : Triggered) : Type 0 where
  pub noted : IsIdle came.noted
  pub processed : IsIdle came.processed

-- a report on a unit that was broken off before anything was called
pub record IsBrokenOff (breakage : Breakage) (report : Report) : Type 0 where
  pub units : report.units.items ≡ []
  pub last : IsSomeAnd report.last (λ u. (u.calls.items ≡ []) × TellsNoPackage u × (u.reply ≡ Broken breakage))

-- What the journal asked for was looked at, and our lines were written ahead of the units, which stand on the disk; or something was in
-- the way of the journal.
pub record HasForeseen (found : List Request) (before : Held) (s begun : State) : Type 0 where
  pub read : State
  pub requested : Looks (Ok found) (λ requests w. requests ≡ requests_of w) s read
  pub written : Bool
  pub ahead : IsTrue begun.honest → MatchBool written (IsAhead before.records.records read.world begun.world) (IsUnwritten read.world begun.world)
  pub on_disk : MatchBool written (IsAnswered read begun) (Unit {0})
  pub any_moment : AtEachMoment (IsWritingAhead before.records.records) read begun
  pub silent : Silent read begun
  pub no_fault : NoFault read begun

-- the same behind the watch
pub record HasBegun (by_files : Bool) (known : Known) (before : Held) (s begun : State) : Type 0 where
  pub seen : State
  pub watched : Looks (Ok known.watch) (λ found w. IsWatch w before.records.records before.lists by_files found) s seen
  pub foreseen : HasForeseen known.found.items before seen begun

-- nothing was done before units but for the journal, for this fault
abbrev pub IsUnforeseen : HostFault → State → State → Type 0
IsUnforeseen fault s end = WritesJournalAlone s end × Counts {T = Unit {0}} s end (Err fault)

-- what is to be changed of records: the triggers that these packages have activated since the watch, and those that are asked for, are
-- pending of the packages that are installed now
abbrev pub changes_of : World → Held → Bool → Known → List Touch → List RecordChange
changes_of w h by_files known touched =
    map change_by (activations_of w h.records.records h.lists by_files known.watch touched) ++ map change_by (asked_of w h.records.records known.found.items)

-- they become pending
pub record HasNotedAll (by_files : Bool) (known : Known) (touched : List Touch) (noted : Report) (before after : Held) (s end : State) : Type 0 where
  pub changes : List RecordChange
  pub looked : State
  pub looks : Looks (Ok changes) (λ found w. found ≡ changes_of w before by_files known touched) s looked
  pub changed : HasChanged changes noted before after looked end

-- it couldn't be looked at, for this fault, and none was noted
pub record IsUnnoted (noted : Report) (before after : Held) (s end : State) : Type 0 where
  pub fault : HostFault
  pub reads : Reads s end
  pub silent : Silent s end
  pub counts : Counts {T = Unit {0}} s end (Err fault)
  pub broken : IsBrokenOff (breakage_of fault) noted
  pub held : after ≡ before

abbrev pub HasNoted : Bool → Known → List Touch → Report → Held → Held → State → State → Type 0
HasNoted by_files known touched noted before after s end = HasNotedAll by_files known touched noted before after s end ⊎ IsUnnoted noted before after s end

-- What is pending then of these packages is processed, in their order, where that is wanted, and what scripts ask for meanwhile; then it
-- is noted who awaits nothing any more.
abbrev pub HasProcessedIf : Bool → List (List ℕ) → Bool → Report → Held → Held → State → State → Type 0
HasProcessedIf true names takes done before after s end = HasProcessedPending (first_wishes names before.records.records) takes done before after s end
HasProcessedIf false names takes done before after s end = IsIdle done × (after ≡ before) × (end ≡ s)

-- The files of interests are those of the packages with files, but for what is in the way; then what is pending is processed.
pub record HasRegisteredThen (wanted : Bool) (names : List (List ℕ)) (takes : Bool) (done : Report) (before after : Held) (s end : State) : Type 0 where
  pub registered : State
  pub free : Bool
  pub files : IsTrue registered.honest → HasRegistered before.records.records free s.world registered.world
  pub on_disk : IsAnswered s registered
  pub any_moment : AtEachMoment (IsRegistering before.records.records) s registered
  pub silent : Silent s registered
  pub no_fault : NoFault s registered
  pub processed : HasProcessedIf wanted names takes done before after registered end

-- they couldn't be written, for this fault, and nothing is processed
pub record IsUnregistered (done : Report) (before after : Held) (s end : State) : Type 0 where
  pub fault : HostFault
  pub any_moment : AtEachMoment (IsRegistering before.records.records) s end
  pub silent : Silent s end
  pub counts : Counts {T = Unit {0}} s end (Err fault)
  pub broken : IsBrokenOff (breakage_of fault) done
  pub held : after ≡ before

abbrev pub HasGoneOn : Bool → List (List ℕ) → Bool → Report → Held → Held → State → State → Type 0
HasGoneOn wanted names takes done before after s end = HasRegisteredThen wanted names takes done before after s end ⊎ IsUnregistered done before after s end

-- The journal is emptied, since what it asked for is noted, unless something is in the way; then the command goes on so. Only where it was
-- emptied is taken in what scripts ask for.
pub record HasTakenUp (wanted : Bool) (names : List (List ℕ)) (done : Report) (before after : Held) (s end : State) : Type 0 where
  pub cleared : State
  pub written : Bool
  pub empty : IsTrue cleared.honest → MatchBool written (IsCleared s.world cleared.world) (IsUnwritten s.world cleared.world)
  pub any_moment : AtEachMoment IsClearing s cleared
  pub silent : Silent s cleared
  pub no_fault : NoFault s cleared
  pub processed : HasGoneOn wanted names written done before after cleared end

-- the journal couldn't be emptied, for this fault, and nothing is processed
pub record IsUncleared (done : Report) (before after : Held) (s end : State) : Type 0 where
  pub fault : HostFault
  pub any_moment : AtEachMoment IsClearing s end
  pub silent : Silent s end
  pub counts : Counts {T = Unit {0}} s end (Err fault)
  pub broken : IsBrokenOff (breakage_of fault) done
  pub held : after ≡ before

-- nothing is done behind a unit that was broken off
abbrev pub HasProcessed : Bool → List (List ℕ) → Option AUnit → Report → Held → Held → State → State → Type 0
HasProcessed wanted names None done before after s end = HasTakenUp wanted names done before after s end ⊎ IsUncleared done before after s end
HasProcessed wanted names (Some broken) done before after s end = IsIdle done × (after ≡ before) × (end ≡ s)

-- What is done behind units that touched these packages, none of which was broken off. The packages of which something was pending before
-- that are processed first.
pub record HasTriggered (t : Triggering) (known : Known) (touched : List Touch) (came : Triggered) (before after : Held) (s end : State) : Type 0 where
  pub mid : Held
  pub noting : State
  pub noted : HasNoted t.by_files known touched came.noted before mid s noting
  pub processed : HasProcessed t.process (pending_owners before.records.records ++ names_told came.noted.units.items) came.noted.last came.processed mid after noting end

-- nothing is done behind one that was broken off
abbrev pub HasTriggeredBehind : Triggering → Known → Option AUnit → List Touch → Triggered → Held → Held → State → State → Type 0
HasTriggeredBehind t known None touched came before after s end = HasTriggered t known touched came before after s end
HasTriggeredBehind t known (Some broken) touched came before after s end = IsUntriggered came × (after ≡ before) × (end ≡ s)

-- Units of a command, the last of which may have been broken off, with triggers around them: before them the watch is taken and the
-- journal is written, and behind the units there is done what is to be.
pub record IsAround (t : Triggering) (us : List AUnit) (last : Option AUnit) (Run : Held → State → State → Type 0) (came : Triggered) (before after : Held) (s end : State) : Type 0 where
  pub known : Known
  pub begun : State
  pub first : HasBegun t.by_files known before s begun
  pub mid : Held
  pub done : State
  pub run : Run mid begun done
  pub triggered : HasTriggeredBehind t known last (touched_of us) came mid after done end

-- the units of both reports, and the one that was broken off, of the command's own or of these
abbrev pub units_behind : Triggered → List AUnit
units_behind came = came.noted.units.items ++ came.processed.units.items

abbrev pub last_behind : Option AUnit → Triggered → Option AUnit
last_behind last came = last_of last (last_of came.noted.last came.processed.last)

-- these were told, one after another
abbrev pub AreTriggersTold : {W : Type 0} → (W → AUnit → State → W → Type 0) → W → Triggered → W → Type 0
AreTriggersTold {W} tells old came new = (mid : W) × AreTold tells old came.noted.units.items mid × AreToldInTurns tells mid came.processed.units.items new

-- these units, and behind them those of both reports
abbrev pub AreAllTold : {W : Type 0} → (W → AUnit → State → W → Type 0) → W → List AUnit → Triggered → W → Type 0
AreAllTold {W} tells old us came new = (mid : W) × AreTold tells old us mid × AreTriggersTold tells mid came new

-- the worse of the statuses of both reports
abbrev pub triggered_status : Triggered → ℕ
triggered_status came = max (report_status came.noted) (report_status came.processed)

-- an answer on units, with the lines of what was noted and processed behind them, and the worst status
abbrev pub with_triggers : Triggered → Answer → Answer
with_triggers came answer = record { output = answer.output ++ (report_lines came.noted ++ report_lines came.processed); error = answer.error; status = max answer.status (triggered_status came) }
