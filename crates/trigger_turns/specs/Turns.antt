-- Triggers are processed turn after turn, together with those that scripts ask for meanwhile (deb-triggers, dpkg-trigger).
use Rattle.std.specs.Prelude.{◌≡◌, ◌⊎◌, ◌+◌, ◌<◌, ℕ, Bool, true, false, IsNone, IsTrue, MatchBool, List, [], ◌∷◌, ◌++◌, Option, Some, None, Result, Ok, Err, length, map}
use Rattle.std.specs.List.{flat_map}
use Rattle.host_core.specs.Host.{AtEachMoment, Counts, NoFault, Reads, Silent, Since, State}
use Rattle.host_core.specs.Looks.{Looks}
use Rattle.host_core.specs.World.{World}
use Rattle.host_core.specs.declared.fault.HostFault.{HostFault}
use Rattle.record_changes.specs.Pending.{pending_triggers}
use Rattle.record_changes.specs.Run as changing
use Rattle.record_changes.specs.declared.change.Change.TheVariants.{Abandon}
use Rattle.record_changes.specs.declared.change.RecordChange.{RecordChange}
use Rattle.record_changes.specs.declared.pending.PendingTrigger.{PendingTrigger}
use Rattle.status_records.specs.declared.record.Record.{Record}
use Rattle.trigger_chains.specs.Steps.{new_steps, steps_by}
use Rattle.trigger_chains.specs.Wishes.{chain_behind, first_looped, first_package, mine, with_wishes, without}
use Rattle.trigger_chains.specs.declared.steps.Step.{Step}
use Rattle.trigger_chains.specs.declared.wishes.Wish.{Wish}
use Rattle.trigger_journal.specs.Asked.{asked_of}
use Rattle.trigger_journal.specs.Requests.{requests_of}
use Rattle.trigger_journal.specs.Writing.{IsCleared, IsClearing, IsUnwritten}
use Rattle.trigger_run.specs.Run as processing
use Rattle.dpkg_session.specs.Activated.{change_by}
use Rattle.dpkg_session.specs.Rereading.{BehindReading, IsAmidReading, IsUnread}
use Rattle.unit_reports.specs.Held.{Held}
use Rattle.unit_reports.specs.Units.{CountsLast, TellsCalls, TellsNoPackage, breakage_of}
use Rattle.unit_reports.specs.declared.report.Breakage.{Breakage}
use Rattle.unit_reports.specs.declared.report.Reply.TheVariants.{Broken}
use Rattle.unit_reports.specs.declared.report.Report.{Report}
use Rattle.unit_reports.specs.declared.report.Touched.{Touched}
use Rattle.unit_reports.specs.declared.report.Unit.{Unit as AUnit}
use Rattle.trigger_turns.specs.declared.wishing.Way.{Way}
use Rattle.trigger_turns.specs.declared.wishing.Way.TheVariants as way
use Rattle.trigger_turns.specs.declared.wishing.Prepared.{Prepared}

-- What a session does

-- Units of these changes were carried out, all unless one was broken off, as a session does it: the calls that are told are the host's
-- own list, and each world since is one of a moment of it.
pub record HasChanged (changes : List RecordChange) (done : Report) (before after : Held) (s end : State) : Type 0 where
  pub part : changing.HasRun changes done.units.items done.last before s end
  pub whole : IsNone done.last → changing.IsChangeRun changes done.units.items before after s end
  pub counts : CountsLast s end done.last
  pub told : TellsCalls s end done
  pub any_moment : Since (changing.IsAmidRun changes before s) s end

-- the same of the triggers that are pending of the packages of these names, once the table of diversions was read again
pub record HasProcessedNamed (names : List (List ℕ)) (done : Report) (before after : Held) (s end : State) : Type 0 where
  pub part : IsUnread done.units.items done.last s end ⊎ BehindReading (λ h m. processing.HasRun names done.units.items done.last h m end) before s
  pub whole : IsNone done.last → BehindReading (λ h m. processing.IsTriggerRun names done.units.items h after m end) before s
  pub counts : CountsLast s end done.last
  pub told : TellsCalls s end done
  pub any_moment : Since (IsAmidReading (λ h. processing.IsAmidRun names h) before s) s end

-- The journal is empty, or something is in its way.
pub record HasEmptied (written : Bool) (s end : State) : Type 0 where
  pub empty : IsTrue end.honest → MatchBool written (IsCleared s.world end.world) (IsUnwritten s.world end.world)
  pub any_moment : AtEachMoment IsClearing s end
  pub silent : Silent s end
  pub no_fault : NoFault s end

-- What is wished for first

abbrev pub step_by : PendingTrigger → Step
step_by p = record { «package» = p.«package»; trigger = p.trigger }

-- what is pending by these records
abbrev pub pending_steps : List Record → List Step
pending_steps records = map step_by (pending_triggers records)

-- the packages of which something is pending, in name order
abbrev pub pending_owners : List Record → List (List ℕ)
pending_owners records = map (λ p. p.«package») (pending_triggers records)

abbrev pub names_touched : AUnit → List (List ℕ)
names_touched u = map (λ (t : Touched). t.«package») u.touched.items

-- the packages that units tell, in the order of the units
abbrev pub names_told : List AUnit → List (List ℕ)
names_told us = flat_map names_touched us

-- all that is pending of these packages, package after package; nothing led to it
abbrev pub first_wishes : List (List ℕ) → List Record → List Wish
first_wishes names records = with_wishes [] [] (steps_by names (pending_steps records))

-- What the journal asks for behind a package that was processed

-- as changes of records; none where it asks for nothing
abbrev pub IsAsked : List Record → World → Option (List RecordChange) → Type 0
IsAsked records w None = requests_of w ≡ []
IsAsked records w (Some changes) = changes ≡ map change_by (asked_of w records [])

-- nothing is asked for, or nothing is taken in any more
abbrev pub IsQuiet : Bool → Held → State → State → Type 0
IsQuiet true h s end = Looks (Ok None) (λ found w. IsAsked h.records.records w found) s end
IsQuiet false h s end = end ≡ s

-- what is asked for becomes pending
pub record HasNotedAsked (noted : Report) (before after : Held) (s end : State) : Type 0 where
  pub changes : List RecordChange
  pub looked : State
  pub looks : Looks (Ok (Some changes)) (λ found w. IsAsked before.records.records w found) s looked
  pub changed : HasChanged changes noted before after looked end

-- One turn

-- A package whose triggers lead to themselves is given up, for the first such trigger.
abbrev pub giving_up : List ℕ → List ℕ → RecordChange
giving_up name trigger = record { name = name; change = Abandon trigger }

-- what is to be done in the turn of the package of this name
abbrev pub IsWay : List ℕ → List Wish → Way → Type 0
IsWay name wishes (way.GiveUp changes) = (trigger : List ℕ) × (first_looped (mine name wishes) ≡ Some trigger) × (changes.items ≡ giving_up name trigger ∷ [])
IsWay name wishes (way.Process names chain) = (first_looped (mine name wishes) ≡ None) × (names.items ≡ name ∷ []) × (chain ≡ chain_behind (mine name wishes))

-- the same of the first wish's package, and the wishes of the others
pub record IsPrepared (wishes : List Wish) (p : Prepared) : Type 0 where
  pub name : List ℕ
  pub first : first_package wishes ≡ Some name
  pub way : IsWay name wishes p.way
  pub others : p.others.items ≡ without name wishes

-- the turn of the package of this name, whose wishes don't lead to themselves
pub record IsTurnOf (name : List ℕ) (wishes : List Wish) : Type 0 where
  pub first : first_package wishes ≡ Some name
  pub straight : first_looped (mine name wishes) ≡ None

-- its triggers were processed, as far as its needs are met
pub record HasProcessedTurn (name : List ℕ) (wishes : List Wish) (done : Report) (before after : Held) (s end : State) : Type 0 where
  pub is : IsTurnOf name wishes
  pub processed : HasProcessedNamed (name ∷ []) done before after s end

-- it was given up
pub record HasGivenUp (wishes : List Wish) (name : List ℕ) (done : Report) (before after : Held) (s end : State) : Type 0 where
  pub trigger : List ℕ
  pub first : first_package wishes ≡ Some name
  pub looped : first_looped (mine name wishes) ≡ Some trigger
  pub changed : HasChanged (giving_up name trigger ∷ []) done before after s end

-- A turn that was finished: the first package was given up; or it was processed, and then nothing was asked for, or what was is noted, and
-- wished for behind the others. Where something was in the way of the journal nothing more is taken in: else the same would be found
-- again, and look like a cycle.
pub data IsTurn (wishes : List Wish) (takes : Bool) (us : List AUnit) (later : List Wish) (still : Bool) (before after : Held) (s end : State) : Type 0 where
  given_up : (name : List ℕ) (done : Report) → HasGivenUp wishes name done before after s end → done.last ≡ None
      → us ≡ done.units.items → later ≡ without name wishes → still ≡ takes → IsTurn wishes takes us later still before after s end
  alone : (name : List ℕ) (done : Report) (m : State) → HasProcessedTurn name wishes done before after s m → done.last ≡ None → IsQuiet takes after m end
      → us ≡ done.units.items → later ≡ without name wishes → still ≡ takes → IsTurn wishes takes us later still before after s end
  taken_in : (name : List ℕ) (done noted : Report) (mid : Held) (m noting : State) → HasProcessedTurn name wishes done before mid s m → done.last ≡ None → takes ≡ true
      → HasNotedAsked noted mid after m noting → noted.last ≡ None → HasEmptied still noting end → us ≡ done.units.items ++ noted.units.items
      → later ≡ with_wishes (chain_behind (mine name wishes)) (without name wishes) (new_steps (pending_steps mid.records.records) (pending_steps after.records.records))
      → IsTurn wishes takes us later still before after s end

-- A turn that was broken off

-- a unit that was broken off before anything was called for it
abbrev pub IsCutOff : Breakage → AUnit → Type 0
IsCutOff breakage u = (u.calls.items ≡ []) × TellsNoPackage u × (u.reply ≡ Broken breakage)

-- for a fault of a look, or for want of memory
pub record IsBlind (u : AUnit) (before after : Held) (s end : State) : Type 0 where
  pub fault : HostFault
  pub reads : Reads s end
  pub silent : Silent s end
  pub counts : Counts {T = Unit {0}} s end (Err fault)
  pub unbegun : IsCutOff (breakage_of fault) u
  pub held : after ≡ before

-- as the journal was emptied, or for want of memory behind that
pub record IsFull (u : AUnit) (s end : State) : Type 0 where
  pub fault : HostFault
  pub any_moment : AtEachMoment IsClearing s end
  pub silent : Silent s end
  pub counts : Counts {T = Unit {0}} s end (Err fault)
  pub unbegun : IsCutOff (breakage_of fault) u

-- behind a package that was processed, behind these units
pub data IsBrokenBehind (us : List AUnit) (u : AUnit) (before after : Held) (s end : State) : Type 0 where
  blind : us ≡ [] → IsBlind u before after s end → IsBrokenBehind us u before after s end
  unnoted : (noted : Report) → HasNotedAsked noted before after s end → us ≡ noted.units.items → noted.last ≡ Some u → IsBrokenBehind us u before after s end
  full : (noted : Report) (noting : State) → HasNotedAsked noted before after s noting → us ≡ noted.units.items → noted.last ≡ None → IsFull u noting end → IsBrokenBehind us u before after s end

pub data IsBrokenTurn (wishes : List Wish) (takes : Bool) (us : List AUnit) (u : AUnit) (before after : Held) (s end : State) : Type 0 where
  unbegun : us ≡ [] → IsBlind u before after s end → IsBrokenTurn wishes takes us u before after s end
  not_given_up : (name : List ℕ) (done : Report) → HasGivenUp wishes name done before after s end → us ≡ done.units.items → done.last ≡ Some u → IsBrokenTurn wishes takes us u before after s end
  unprocessed : (name : List ℕ) (done : Report) → HasProcessedTurn name wishes done before after s end → us ≡ done.units.items → done.last ≡ Some u → IsBrokenTurn wishes takes us u before after s end
  behind : (name : List ℕ) (done : Report) (mid : Held) (m : State) (more : List AUnit) → HasProcessedTurn name wishes done before mid s m → done.last ≡ None → takes ≡ true
      → IsBrokenBehind more u mid after m end → us ≡ done.units.items ++ more → IsBrokenTurn wishes takes us u before after s end

-- Turn after turn

-- so many turns were finished; these wishes are left, and this is whether what is asked for is still taken in
pub data AreTurned (wishes : List Wish) (takes : Bool) (before : Held) (s : State) : ℕ → List AUnit → List Wish → Bool → Held → State → Type 0 where
  begun : AreTurned wishes takes before s 0 [] wishes takes before s
  turned : (n : ℕ) (us others : List AUnit) (mid later : List Wish) (takes_on still : Bool) (between after : Held) (m t : State) → AreTurned wishes takes before s n us mid takes_on between m
      → IsTurn mid takes_on others later still between after m t → AreTurned wishes takes before s (n + 1) (us ++ others) later still after t

-- a command takes at most so many
abbrev pub most_turns : ℕ
most_turns = 65536

-- What came of wishes: no turn was left, or none may be taken any more, and what is left stays pending; or a turn was broken off.
pub data HasTurned (wishes : List Wish) (takes : Bool) (done : Report) (before after : Held) (s end : State) : Type 0 where
  over : (n : ℕ) (later : List Wish) (still : Bool) → AreTurned wishes takes before s n done.units.items later still after end → (n < most_turns × (first_package later ≡ None)) ⊎ (n ≡ most_turns)
      → done.last ≡ None → HasTurned wishes takes done before after s end
  broken : (n : ℕ) (us others : List AUnit) (mid : List Wish) (takes_on : Bool) (between : Held) (m : State) (u : AUnit) → n < most_turns → AreTurned wishes takes before s n us mid takes_on between m
      → IsBrokenTurn mid takes_on others u between after m end → done.units.items ≡ us ++ others → done.last ≡ Some u → HasTurned wishes takes done before after s end

-- What a step comes to, of whose units the last may have been broken off

abbrev pub EndsWith : {T : Type 0} → Result T AUnit → Option AUnit → Type 0
EndsWith (Ok x) last = last ≡ None
EndsWith (Err u) last = last ≡ Some u

-- the same answer, where something was there
abbrev pub answered : Result (Unit {0}) AUnit → Result Bool AUnit
answered (Ok x) = Ok true
answered (Err u) = Err u

-- the units of a report stand behind others
abbrev pub AddsReport : {T : Type 0} → (Report → Type 0) → List AUnit → List AUnit → Result T AUnit → Type 0
AddsReport P old new result = (done : Report) × P done × (new ≡ old ++ done.units.items) × EndsWith result done.last

-- changes were noted, or there was no memory for their units
abbrev pub NotesThose : List RecordChange → List AUnit → List AUnit → Held → Held → State → State → Result Bool AUnit → Type 0
NotesThose changes old new before after s end (Ok true) = (noted : Report) × HasChanged changes noted before after s end × (new ≡ old ++ noted.units.items) × (noted.last ≡ None)
NotesThose changes old new before after s end (Ok false) = ⊥
NotesThose changes old new before after s end (Err u) = (IsBlind u before after s end × (new ≡ old)) ⊎ ((noted : Report) × HasChanged changes noted before after s end × (new ≡ old ++ noted.units.items) × (noted.last ≡ Some u))

-- what is asked for was noted, or nothing was asked for
abbrev pub AddsAsked : List AUnit → List AUnit → Held → Held → State → State → Result Bool AUnit → Type 0
AddsAsked old new before after s end (Ok true) = (noted : Report) × HasNotedAsked noted before after s end × (new ≡ old ++ noted.units.items) × (noted.last ≡ None)
AddsAsked old new before after s end (Ok false) = Looks (Ok None) (λ found w. IsAsked before.records.records w found) s end × (after ≡ before) × (new ≡ old)
AddsAsked old new before after s end (Err u) = (us : List AUnit) × IsBrokenBehind us u before after s end × (new ≡ old ++ us)

-- the same, and it is wished for, by what led to the turn
pub data TakesIn (chain : List Step) (wishes : List Wish) (old new : List AUnit) (before after : Held) (s end : State) (later : List Wish) (still : Bool) : Type 0 where
  quiet : Looks (Ok None) (λ found w. IsAsked before.records.records w found) s end → after ≡ before → new ≡ old → later ≡ wishes → still ≡ true → TakesIn chain wishes old new before after s end later still
  taken : (noted : Report) (noting : State) → HasNotedAsked noted before after s noting → noted.last ≡ None → new ≡ old ++ noted.units.items → HasEmptied still noting end
      → later ≡ with_wishes chain wishes (new_steps (pending_steps before.records.records) (pending_steps after.records.records)) → TakesIn chain wishes old new before after s end later still

-- behind a package that was processed
abbrev pub Follows : Bool → List Step → List Wish → List AUnit → List AUnit → Held → Held → State → State → List Wish → Bool → Result (Unit {0}) AUnit → Type 0
Follows false chain wishes old new before after s end later still (Ok x) = (after ≡ before) × (end ≡ s) × (new ≡ old) × (later ≡ wishes) × (still ≡ false)
Follows false chain wishes old new before after s end later still (Err u) = ⊥
Follows true chain wishes old new before after s end later still (Ok x) = TakesIn chain wishes old new before after s end later still
Follows true chain wishes old new before after s end later still (Err u) = (us : List AUnit) × IsBrokenBehind us u before after s end × (new ≡ old ++ us)

-- a turn is of one package
abbrev pub IsSingle : Way → Type 0
IsSingle (way.GiveUp changes) = length changes.items ≡ 1
IsSingle (way.Process names chain) = length names.items ≡ 1

-- the units of a turn stand behind others
abbrev pub AddsTurn : {T : Type 0} → List Wish → Bool → List Wish → Bool → List AUnit → List AUnit → Held → Held → State → State → Result T AUnit → Type 0
AddsTurn wishes takes later still old new before after s end (Ok x) = (us : List AUnit) × (new ≡ old ++ us) × IsTurn wishes takes us later still before after s end
AddsTurn wishes takes later still old new before after s end (Err u) = (us : List AUnit) × (new ≡ old ++ us) × IsBrokenTurn wishes takes us u before after s end

-- the same, where something is wished for
abbrev pub RunsTurn : List Wish → Bool → List Wish → Bool → List AUnit → List AUnit → Held → Held → State → State → Result Bool AUnit → Type 0
RunsTurn wishes takes later still old new before after s end (Ok true) = (us : List AUnit) × (new ≡ old ++ us) × IsTurn wishes takes us later still before after s end
RunsTurn wishes takes later still old new before after s end (Ok false) = (first_package wishes ≡ None) × (after ≡ before) × (end ≡ s) × (new ≡ old)
RunsTurn wishes takes later still old new before after s end (Err u) = (us : List AUnit) × (new ≡ old ++ us) × IsBrokenTurn wishes takes us u before after s end
