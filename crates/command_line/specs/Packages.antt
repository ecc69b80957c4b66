-- What is asked of packages by their names, or by what is wanted of them, and what came of it.
use Rattle.std.specs.Prelude.{◌≡◌, ◌⊎◌, ◌++◌, ℕ, Bool, IsNone, List, [], Option, Result, Ok, Err, Some, None, true, false, if◌then◌else◌, map}
use Rattle.host_core.specs.Events.{Event}
use Rattle.host_core.specs.Host.{Since, State}
use Rattle.host_core.specs.World.{World}
use Rattle.command_line.specs.declared.fault.NotOpened.{NotOpened}
use Rattle.diversions.specs.Ways.{Ways}
use Rattle.file_lists.specs.declared.paths.PackageList.{PackageList}
use Rattle.status_records.specs.declared.record.Record.{Record}
use Rattle.status_records.specs.declared.words.Want.{Want}
use Rattle.status_records.specs.declared.words.Want.TheVariants as want
use Rattle.conffiles.specs.declared.decisions.Changed.{Changed}
use Rattle.conffiles.specs.declared.decisions.Changed.TheVariants.{Keep, Install}
use Rattle.conffiles.specs.declared.decisions.ConfPolicy.{ConfPolicy}
use Rattle.configure_run.specs.declared.options.ConfigureOptions.{ConfigureOptions}
use Rattle.unit_reports.specs.Held.{Held}
use Rattle.unit_reports.specs.Units.{CountsLast, TellsCalls}
use Rattle.unit_reports.specs.declared.report.Report.{Report}
use Rattle.unit_reports.specs.declared.report.Unit.{Unit as AUnit}
use Rattle.configure_run.specs.Run as configuring
use Rattle.removal_run.specs.Extents.{removing as removal_of}
use Rattle.removal_run.specs.Run as removing
use Rattle.removal_run.specs.Selected.{selected_names}
use Rattle.removal_run.specs.declared.extents.Extents.TheVariants.{Removed, Purged, Selected}
use Rattle.record_changes.specs.Run as changing
use Rattle.record_changes.specs.declared.change.Change.TheVariants as change
use Rattle.record_changes.specs.declared.change.RecordChange.{RecordChange}
use Rattle.dpkg_session.specs.Asked.{names_asked}
use Rattle.dpkg_session.specs.Rereading.{BehindReading, IsAmidReading, IsUnread}
use Rattle.command_words.specs.declared.forced.Forced.{Forced}
use Rattle.command_words.specs.declared.packages.Configuring.{Configuring}
use Rattle.command_words.specs.declared.selections.Selected.{Selected as Told}
use Rattle.command_words.specs.declared.selections.Wanted.{Wanted}
use Rattle.command_words.specs.declared.selections.Wanted.TheVariants as wanted
use Rattle.command_line.specs.Endings.{HasEnded}
use Rattle.command_line.specs.Limits.{KeepsLimit}
use Rattle.command_line.specs.Roots.{Around, Given, IsOpenedOn, IsUnitsFault, held_anew}
use Rattle.command_line.specs.Triggering.{HasTriggeredBehind, IsAround, IsUntriggered, last_behind, touched_of, units_behind}
use Rattle.command_line.specs.declared.triggering.Triggered.{Triggered}
use Rattle.command_line.specs.declared.triggering.Known.{Known}
use Rattle.command_line.specs.declared.triggering.Triggering.{Triggering}
use Rattle.command_line.specs.declared.ending.Ended.{Ended}
use Rattle.command_line.specs.declared.packages.Work.{Work}
use Rattle.command_line.specs.declared.packages.Work.TheVariants as work

-- who wins where both changed a conffile
abbrev pub changed_of : Bool → Changed
changed_of confnew = if confnew then Install else Keep

-- how conffiles are settled
abbrev pub policy_of : Forced → ConfPolicy
policy_of f = record { changed = changed_of f.confnew; missing = f.confmiss }

-- how packages are configured
abbrev pub options_of : Forced → ConfigureOptions
options_of f = record { policy = policy_of f; ignore_depends = f.depends }

abbrev pub work_of : Configuring → Work
work_of c = work.Configure c.names (options_of c.forced)

-- what is to be wanted, as a record has it
abbrev pub want_of : Wanted → Want
want_of wanted.Install = want.Install
want_of wanted.Hold = want.Hold
want_of wanted.Deinstall = want.Deinstall
want_of wanted.Purge = want.Purge

-- what is to be recorded of what words tell
abbrev pub selection_of : Told → RecordChange
selection_of told = record { name = told.name; change = change.Want (want_of told.want) }

abbrev pub selections_of : List Told → List RecordChange
selections_of told = map selection_of told

-- all units of it, as a session carries them out; but for changes of records the table of diversions is read again first
abbrev pub IsWorkedBy : Work → List AUnit → Held → Held → State → State → Type 0
IsWorkedBy (work.Configure names options) us before after s t = BehindReading (λ h m. configuring.IsConfigureRun (names_asked names h.records.records) options us h after m t) before s
IsWorkedBy (work.Remove names ignored) us before after s t = BehindReading (λ h m. removing.IsRemovalRun names (removal_of Removed ignored) us h after m t) before s
IsWorkedBy (work.Purge names ignored) us before after s t = BehindReading (λ h m. removing.IsRemovalRun names (removal_of Purged ignored) us h after m t) before s
IsWorkedBy (work.Select told) us before after s t = changing.IsChangeRun (selections_of told) us before after s t
IsWorkedBy (work.RemoveSelected ignored) us before after s t = BehindReading (λ h m. removing.IsRemovalRun (selected_names h.records.records) (removal_of Selected ignored) us h after m t) before s
IsWorkedBy work.ProcessTriggers us before after s t = (us ≡ []) × (after ≡ before) × (t ≡ s)

-- its first units, up to one that may have been broken off
abbrev pub IsWorkedUpTo : Work → List AUnit → Option AUnit → Held → State → State → Type 0
IsWorkedUpTo (work.Configure names options) us last before s t = IsUnread us last s t ⊎ BehindReading (λ h m. configuring.HasRun (names_asked names h.records.records) options us last h m t) before s
IsWorkedUpTo (work.Remove names ignored) us last before s t = IsUnread us last s t ⊎ BehindReading (λ h m. removing.HasRun names (removal_of Removed ignored) us last h m t) before s
IsWorkedUpTo (work.Purge names ignored) us last before s t = IsUnread us last s t ⊎ BehindReading (λ h m. removing.HasRun names (removal_of Purged ignored) us last h m t) before s
IsWorkedUpTo (work.Select told) us last before s t = changing.HasRun (selections_of told) us last before s t
IsWorkedUpTo (work.RemoveSelected ignored) us last before s t = IsUnread us last s t ⊎ BehindReading (λ h m. removing.HasRun (selected_names h.records.records) (removal_of Selected ignored) us last h m t) before s
IsWorkedUpTo work.ProcessTriggers us last before s t = (us ≡ []) × (last ≡ None) × (t ≡ s)

-- at each moment of it
abbrev pub IsWorking : Work → Held → State → List Event → World → Type 0
IsWorking (work.Configure names options) before s so_far now = IsAmidReading (λ h. configuring.IsAmidRun (names_asked names h.records.records) options h) before s so_far now
IsWorking (work.Remove names ignored) before s so_far now = IsAmidReading (λ h. removing.IsAmidRun names (removal_of Removed ignored) h) before s so_far now
IsWorking (work.Purge names ignored) before s so_far now = IsAmidReading (λ h. removing.IsAmidRun names (removal_of Purged ignored) h) before s so_far now
IsWorking (work.Select told) before s so_far now = changing.IsAmidRun (selections_of told) before s so_far now
IsWorking (work.RemoveSelected ignored) before s so_far now = IsAmidReading (λ h. removing.IsAmidRun (selected_names h.records.records) (removal_of Selected ignored) h) before s so_far now
IsWorking work.ProcessTriggers before s so_far now = (so_far ≡ []) × (now ≡ s.world)

-- The units are those of the work, from what was held before to what is held then; all of them, unless one was broken off. In any
-- case the calls that are told are the host's own list, and each world since is one of a moment of the work.
pub record HasWorked (asked : Work) (done : Report) (before after : Held) (s end : State) : Type 0 where
  pub part : IsWorkedUpTo asked done.units.items done.last before s end
  pub whole : IsNone done.last → IsWorkedBy asked done.units.items before after s end
  pub counts : CountsLast s end done.last
  pub told : TellsCalls s end done
  pub any_moment : Since (IsWorking asked before s) s end

-- What is done of triggers around the work: nothing where records alone are changed. Where packages are configured, files don't count;
-- and where what is pending is to be processed there is no other work.
abbrev pub triggering_of : Work → Bool → Option Triggering
triggering_of (work.Configure names options) process = Some (record { by_files = false; process = process })
triggering_of (work.Remove names ignored) process = Some (record { by_files = true; process = process })
triggering_of (work.Purge names ignored) process = Some (record { by_files = true; process = process })
triggering_of (work.Select told) process = None
triggering_of (work.RemoveSelected ignored) process = Some (record { by_files = true; process = process })
triggering_of work.ProcessTriggers process = Some (record { by_files = false; process = process })

-- the work, with that around it
abbrev pub HasWorkedAround : Option Triggering → Work → Report → Triggered → Held → Held → State → State → Type 0
HasWorkedAround None asked done came before after s end = IsUntriggered came × HasWorked asked done before after s end
HasWorkedAround (Some t) asked done came before after s end = IsAround t done.units.items done.last (HasWorked asked done before) came before after s end

-- and the end of the command behind all units
pub record HasWorkedWith (t : Option Triggering) (asked : Work) (ended : Ended Report) (before : Held) (s end : State) : Type 0 where
  pub after : Held
  pub mid : State
  pub worked : HasWorkedAround t asked ended.done ended.triggered before after s mid
  pub ending : HasEnded (last_behind ended.done.last ended.triggered) after.records ended.left mid end

abbrev pub HasWorkedToEnd : Work → Bool → Ended Report → Held → State → State → Type 0
HasWorkedToEnd asked process ended before s end = HasWorkedWith (triggering_of asked process) asked ended before s end

-- the same of a part of it, behind what is done of triggers before the units
pub record HasWorkedSince (t : Triggering) (known : Known) (asked : Work) (ended : Ended Report) (before : Held) (s end : State) : Type 0 where
  pub mid : Held
  pub done : State
  pub worked : HasWorked asked ended.done before mid s done
  pub after : Held
  pub behind : State
  pub triggered : HasTriggeredBehind t known ended.done.last (touched_of ended.done.units.items) ended.triggered mid after done behind
  pub ending : HasEnded (last_behind ended.done.last ended.triggered) after.records ended.left behind end

-- the same, from what the administration that was opened on a host holds, to the state in which this host was given back
pub record IsWorkedOn (left : Given) (begun : State) (asked : Work) (process : Bool) (ended : Ended Report) : Type 0 where
  pub table : List Record
  pub lists : List PackageList
  pub ways : Ways
  pub state : State
  pub opened : IsOpenedOn begun state table lists ways
  pub end : State
  pub given : left end
  pub worked : HasWorkedToEnd asked process ended (held_anew table lists ways) state end

-- the same, on a host behind the root's word
abbrev pub HasWorkedUnder : Around → List ℕ → Work → Bool → Ended Report → Type 0
HasWorkedUnder a word asked process ended = (begun : State) × a.root word begun × IsWorkedOn a.left begun asked process ended

-- what came of it: its report, or why it wasn't begun
abbrev pub HasEndedWork : Around → List ℕ → Work → Bool → Option ℕ → Result (Ended Report) NotOpened → Type 0
HasEndedWork a word asked process limit (Ok ended) = HasWorkedUnder a word asked process ended × KeepsLimit limit (ended.done.units.items ++ units_behind ended.triggered)
HasEndedWork a word asked process limit (Err fault) = IsUnitsFault (triggering_of asked process) a word fault
