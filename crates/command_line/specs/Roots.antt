-- How the root of a command is opened, and what is known of its hosts.
use Rattle.std.specs.Prelude.{◌≡◌, ◌<◌, ◌⊎◌, ℕ, Bool, false, List, [], ◌++◌, Option, Some, None, codes}
use Rattle.host_core.specs.Host.{AtEachMoment, Needs, Silent, State}
use Rattle.host_core.specs.Paths.{Path}
use Rattle.administration.specs.declared.fault.AdministrationFault.{AdministrationFault}
use Rattle.command_line.specs.declared.hosts.Hosts.{Ghosts}
use Rattle.command_line.specs.declared.fault.Lock.{Lock}
use Rattle.command_line.specs.declared.fault.Lock.TheVariants.{Frontend, Administration, Table}
use Rattle.command_line.specs.declared.fault.NotOpened.{NotOpened}
use Rattle.command_line.specs.declared.fault.NotOpened.TheVariants.{Locked, Opening}
use Rattle.administration.specs.declared.fault.AdministrationFault.TheVariants as opening_faults
use Rattle.diversions.specs.Ways.{Ways}
use Rattle.file_lists.specs.declared.paths.PackageList.{PackageList}
use Rattle.opening.specs.Opened.{IsOpened}
use Rattle.opening.specs.TakenUp.{IsOpeningOrAdopting}
use Rattle.status_records.specs.declared.record.Record.{Record}
use Rattle.trigger_journal.specs.Writing.{IsWriting}
use Rattle.unit_reports.specs.Held.{Held}
use Rattle.dpkg_session.specs.Standing.{CountsRefusal, OpensAll, TakesUpAll}
use Rattle.shown_lines.specs.Lines.{line}
use Rattle.report_lines.specs.Openings.{opening_line}
use Rattle.command_line.specs.declared.answer.Answer.{Answer}
use Rattle.command_line.specs.declared.triggering.Triggering.{Triggering}

-- which states the hosts have that are opened for a word
abbrev pub Behind : Type 1
Behind = List ℕ → State → Type 0

-- in which states hosts were given back
abbrev pub Given : Type 1
Given = State → Type 0

-- What is known of the hosts of a command: the states behind words for the root and for trees before it, the states in
-- which they were given back by its end, whether the device failed on opening one and no root was opened, whether another
-- program held a lock of the root behind a word before it, at which paths there was no room for the archive behind a word by its
-- end, and whether a script gives it, beside the command that runs this script.
pub record Around : Type 1 where
  pub root : Behind
  pub tree : Behind
  pub left : Given
  pub seen : Given
  pub failed : Type 0
  pub unopened : Type 0
  pub locked : List ℕ → Lock → Type 0
  pub full : List ℕ → Path → Type 0
  pub beside : Bool

-- the same of hosts between two moments
abbrev pub around : {Hosts Opened : Type 0} → Ghosts Hosts Opened → Hosts → Hosts → Around
around of old new = record {
  root = of.root old;
  tree = of.tree old;
  left = of.left new;
  seen = of.seen new;
  failed = of.faults old < of.faults new;
  unopened = of.unopened old new;
  locked = of.locked old;
  full = of.full new;
  beside = of.beside old;
}

-- The administration on a host was opened: no script was called, and nothing but what opening changes has changed. These are
-- its records, the lists of their packages, its diversions, and the aliases of the root; conffiles that another program left unsettled
-- are taken up.
pub record IsOpenedOn (begun state : State) (table : List Record) (lists : List PackageList) (ways : Ways) : Type 0 where
  pub silent : Silent begun state
  pub opens : OpensAll None begun state
  pub opening : AtEachMoment IsOpeningOrAdopting begun state
  pub opened : Needs state (IsOpened table lists ways.entries)
  pub taken_up : TakesUpAll table lists ways begun state

-- the administration of a host couldn't be opened, for this fault; no script was called, and the host was given back
pub record IsRefusedOn (left : Given) (begun : State) (fault : AdministrationFault) : Type 0 where
  pub end : State
  pub given : left end
  pub silent : Silent begun end
  pub opens : OpensAll (Some fault) begun end
  pub opening : AtEachMoment IsOpeningOrAdopting begun end
  pub counts : CountsRefusal fault begun end

-- the administration of a host was opened, and the host given back for want of memory
pub record IsStoppedOn (left : Given) (begun : State) : Type 0 where
  pub end : State
  pub given : left end
  pub silent : Silent begun end
  pub opens : OpensAll None begun end
  pub opening : AtEachMoment IsOpeningOrAdopting begun end

-- a host was given back with this fault before anything was done for the command: its administration couldn't be opened, or memory
-- was wanting behind that
abbrev pub IsGivenUpOn : Given → State → AdministrationFault → Type 0
IsGivenUpOn left begun fault = IsRefusedOn left begun fault ⊎ ((fault ≡ opening_faults.NoMemory) × IsStoppedOn left begun)

-- nothing was written but the journal of activations, and no script was called
pub record WritesJournalAlone (s end : State) : Type 0 where
  pub text : List ℕ
  pub any_moment : AtEachMoment (IsWriting text) s end
  pub silent : Silent s end

-- nothing was begun for this fault: memory was wanting, or, where triggers are to be watched, nothing else was done than that
abbrev pub IsUnbegun : Option Triggering → AdministrationFault → State → State → Type 0
IsUnbegun None fault s end = (fault ≡ opening_faults.NoMemory) × (end ≡ s)
IsUnbegun (Some t) fault s end = WritesJournalAlone s end × CountsRefusal fault s end

-- the administration of a host was opened, and the host given back with this fault, and nothing begun
pub record IsUnbegunOn (t : Option Triggering) (left : Given) (begun : State) (fault : AdministrationFault) : Type 0 where
  pub state : State
  pub silent : Silent begun state
  pub opens : OpensAll None begun state
  pub opening : AtEachMoment IsOpeningOrAdopting begun state
  pub end : State
  pub given : left end
  pub unbegun : IsUnbegun t fault state end

-- the same of a command with units, around which triggers may be watched
abbrev pub IsNotBegunOn : Option Triggering → Given → State → AdministrationFault → Type 0
IsNotBegunOn t left begun fault = IsRefusedOn left begun fault ⊎ IsUnbegunOn t left begun fault

-- so it went on a host behind the root's word, unless none was opened: another program held a lock of it, the device failed, or
-- memory was wanting
abbrev pub IsFaultUnder : (Given → State → AdministrationFault → Type 0) → Around → List ℕ → NotOpened → Type 0
IsFaultUnder Went a word (Locked lock) = a.unopened × a.locked word lock
IsFaultUnder Went a word (Opening fault) =
    ((begun : State) × a.root word begun × Went a.left begun fault)
    ⊎ (a.unopened × (((fault ≡ opening_faults.Device) × a.failed) ⊎ (fault ≡ opening_faults.NoMemory)))

abbrev pub IsRootFault : Around → List ℕ → NotOpened → Type 0
IsRootFault a word fault = IsFaultUnder IsGivenUpOn a word fault

-- why the units of a command weren't begun
abbrev pub IsUnitsFault : Option Triggering → Around → List ℕ → NotOpened → Type 0
IsUnitsFault t a word fault = IsFaultUnder (IsNotBegunOn t) a word fault

-- the file of a lock, under the root
abbrev pub lock_path : Lock → List ℕ
lock_path Frontend = codes "/var/lib/dpkg/lock-frontend"
lock_path Administration = codes "/var/lib/dpkg/lock"
lock_path Table = codes "/var/lib/dpkg/diversions.lock"

-- the line that tells that another program holds a lock
abbrev pub locked_line : Lock → List ℕ
locked_line lock = line (codes "locked " ++ lock_path lock)

-- why a root can't be opened is told on standard error
abbrev pub opening_answer : NotOpened → Answer
opening_answer (Locked lock) = record { output = []; error = locked_line lock; status = 2 }
opening_answer (Opening fault) = record { output = []; error = opening_line fault; status = 2 }

-- what is held of an administration that was just opened, where no note stands
abbrev pub held_anew : List Record → List PackageList → Ways → Held
held_anew table lists ways = record { records = record { records = table; notes = 0; closed = false }; lists = lists; ways = ways }
