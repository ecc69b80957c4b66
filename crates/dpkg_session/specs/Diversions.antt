-- Commands that add a diversion or take one away (dpkg-divert(1)), each one unit.
use Rattle.std.specs.Prelude.{◌≡◌, ◌⊎◌, Bool, true, false, IsTrue, IsNone, IfSome, List, [], ◌∷◌, ◌++◌}
use Rattle.std.specs.List.{list_any}
use Rattle.aliases.specs.Aliases.{Alias}
use Rattle.host_core.specs.Paths.{Path, is_ship_text}
use Rattle.host_core.specs.World.{World}
use Rattle.host_core.specs.Host.{Reads, State}
use Rattle.host_core.specs.Loss.{IsOnDisk}
use Rattle.diversions.specs.Changes.{HasAdded, HasRemoved, IsAdding, IsRemoving, diversion_of, with_entry}
use Rattle.diversions.specs.Entries.{without}
use Rattle.diversions.specs.Ways.{truename, Ways}
use Rattle.diversions.specs.Refusals.{add_answer, is_one_place, remove_answer}
use Rattle.diversions.specs.declared.entry.Diversion.{Diversion}
use Rattle.diversions.specs.declared.entry.Owner.{Owner}
use Rattle.diversions.specs.declared.entry.Owner.TheVariants.{Local, Package}
use Rattle.diversions.specs.declared.fault.DiversionFault.{DiversionFault}
use Rattle.diversions.specs.declared.fault.DiversionFault.TheVariants as fault
use Rattle.diversions.specs.declared.refusal.Answer.{Answer}
use Rattle.diversions.specs.declared.refusal.Answer.TheVariants as answered
use Rattle.diversions.specs.declared.refusal.Seen.{Seen}
use Rattle.file_lists.specs.Owners.{paths_of}
use Rattle.file_lists.specs.declared.paths.PackageList.{PackageList}
use Rattle.status_records.specs.declared.record.Record.{Record}
use Rattle.dpkg_session.specs.Growth.{AreAdded, with_more}
use Rattle.dpkg_session.specs.declared.asked.Diverting.{Diverting}
use Rattle.dpkg_session.specs.declared.asked.Undiverting.{Undiverting}
use Rattle.unit_reports.specs.declared.refusal.Rule.TheVariants.{Divert}
use Rattle.unit_reports.specs.declared.report.Breakage.{Breakage}
use Rattle.unit_reports.specs.declared.report.Breakage.TheVariants.{Device, NoMemory, Declined, Closed}
use Rattle.unit_reports.specs.declared.report.Reply.{Reply}
use Rattle.unit_reports.specs.declared.report.Reply.TheVariants.{Done, Refused}
use Rattle.unit_reports.specs.declared.report.Report.{Report}
use Rattle.unit_reports.specs.declared.report.Unit.{Unit as AUnit}
use Rattle.unit_reports.specs.Units.{IsBroken, TellsNoPackage}

-- the owner's list has the place of the path; the administrator has no list
abbrev pub is_listed : List Alias → List PackageList → Owner → Path → Bool
is_listed aliases lists Local path = false
is_listed aliases lists (Package name) path = list_any (is_one_place aliases path) (paths_of lists name)

-- a conffile of the record has it
abbrev pub has_conffile_at : List Alias → Path → Record → Bool
has_conffile_at aliases path r = list_any (λ e. is_one_place aliases path e.path) r.conffiles

-- what the administration says of a path that is to be diverted
abbrev pub seen_of : List Alias → List Record → List PackageList → Owner → Path → Seen
seen_of aliases records lists owner path = record { conffile = list_any (has_conffile_at aliases path) records; listed = is_listed aliases lists owner path }

-- other entries, beside the same aliases
abbrev pub with_entries : Ways → List Diversion → Ways
with_entries ways entries = record { entries = entries; aliases = ways.aliases }

abbrev pub asked_entry : Diverting → Diversion
asked_entry asked = diversion_of asked.path asked.target asked.owner

-- the reply to an answer; a refusal names the path
abbrev pub reply_of : Path → Answer → Reply
reply_of path answered.Done = Done
reply_of path (answered.Refused refusal) = Refused (record { rule = Divert refusal; «package» = path })

-- the unit of an answer: no call is told, and no package
pub record AnswersDiversion (path : Path) (answer : Answer) (u : AUnit) : Type 0 where
  pub calls : u.calls.items ≡ []
  pub touched : TellsNoPackage u
  pub reply : u.reply ≡ reply_of path answer

-- what an answer leaves of a value: another one where it is done, the same where it is refused
abbrev pub by_answer : {T : Type 0} → Answer → T → T → T
by_answer answered.Done before after = after
by_answer (answered.Refused refusal) before after = before

-- what it leaves of the world: all that was asked for, or nothing
abbrev pub LeavesAnswer : Answer → (World → World → Type 0) → World → World → Type 0
LeavesAnswer answered.Done P old new = P old new
LeavesAnswer (answered.Refused refusal) P old new = new ≡ old

-- what was done is on the disk before it is answered; for a refusal it was only looked at
abbrev pub IsFlushed : Answer → State → State → Type 0
IsFlushed answered.Done s t = IsOnDisk t.events
IsFlushed (answered.Refused refusal) s t = Reads s t

-- both are paths that a package may ship
pub record AreShipped (from to : Path) : Type 0 where
  pub path : is_ship_text from ≡ true
  pub target : is_ship_text to ≡ true

-- A diversion is added, or refused by the first rule that holds; what was done is on the disk.
pub record IsDiverted (asked : Diverting) (seen : Seen) (before after : Ways) (u : AUnit) (s t : State) : Type 0 where
  pub answer : Answer
  pub shipped : AreShipped asked.path asked.target
  pub unit : AnswersDiversion asked.path answer u
  pub first : IsTrue t.honest → answer ≡ add_answer s.world before (asked_entry asked) asked.rename seen
  pub table : after ≡ by_answer answer before (with_entries before (with_entry before.entries (asked_entry asked)))
  pub left : IsTrue t.honest → LeavesAnswer answer (HasAdded before (asked_entry asked) asked.rename seen) s.world t.world
  pub flushed : IsFlushed answer s t

-- A diversion is taken away, or that is refused by the first rule that holds; what was done is on the disk.
pub record IsUndiverted (asked : Undiverting) (before after : Ways) (u : AUnit) (s t : State) : Type 0 where
  pub answer : Answer
  pub shipped : AreShipped asked.path (truename before asked.path)
  pub unit : AnswersDiversion asked.path answer u
  pub first : IsTrue t.honest → answer ≡ remove_answer s.world before asked.path asked.owner asked.rename
  pub table : after ≡ by_answer answer before (with_entries before (without asked.path before.entries))
  pub left : IsTrue t.honest → LeavesAnswer answer (HasRemoved before asked.path asked.rename) s.world t.world
  pub flushed : IsFlushed answer s t

-- A diversion is added once what is missing of the aliases above its path and its target was read.
pub record HasDiverted (asked : Diverting) (records : List Record) (lists : List PackageList) (before after : Ways) (u : AUnit) (s t : State) : Type 0 where
  pub added : List Alias
  pub read : IsTrue t.honest → AreAdded s.world (asked.path ∷ asked.target ∷ []) before.aliases added
  pub is : IsDiverted asked (seen_of (before.aliases ++ added) records lists asked.owner asked.path) (with_more before added) after u s t

-- One is taken away once those above its path were read; those above its target are read with the table.
pub record HasUndiverted (asked : Undiverting) (before after : Ways) (u : AUnit) (s t : State) : Type 0 where
  pub added : List Alias
  pub read : IsTrue t.honest → AreAdded s.world (asked.path ∷ []) before.aliases added
  pub is : IsUndiverted asked (with_more before added) after u s t

-- at each moment of either: nothing is done yet, or the aliases are known and the table is changed
abbrev pub IsDiverting : Diverting → List Record → List PackageList → Ways → World → World → Type 0
IsDiverting asked records lists before old now = (now ≡ old) ⊎ ((added : List Alias) × AreAdded old (asked.path ∷ asked.target ∷ []) before.aliases added
    × IsAdding (with_more before added) (asked_entry asked) asked.rename (seen_of (before.aliases ++ added) records lists asked.owner asked.path) old now)

abbrev pub IsUndiverting : Undiverting → Ways → World → World → Type 0
IsUndiverting asked before old now = (now ≡ old) ⊎ ((added : List Alias) × AreAdded old (asked.path ∷ []) before.aliases added
    × IsRemoving (with_more before added) asked.path asked.rename old now)

-- there is one unit, and P holds of it
abbrev pub IsOneUnit : (AUnit → Type 0) → List AUnit → Type 0
IsOneUnit P units = (u : AUnit) × (units ≡ u ∷ []) × P u

-- a unit that was broken off tells no call and no package
pub record IsBrokenDiversion (u : AUnit) : Type 0 where
  pub broken : IsBroken u.reply
  pub calls : u.calls.items ≡ []
  pub touched : TellsNoPackage u

-- it is all that is reported
abbrev pub HasBroken : Report → Type 0
HasBroken report = IfSome report.last (λ u. (report.units.items ≡ []) × IsBrokenDiversion u)

-- the report of one unit: it is told as done or refused, or as broken off
pub record IsReportOf (u : AUnit) (report : Report) : Type 0 where
  pub whole : IsNone report.last → (report.units.items ≡ u ∷ []) × (IsBroken u.reply → ⊥)
  pub broken : IfSome report.last (λ v. (v ≡ u) × (report.units.items ≡ []) × IsBroken u.reply)

-- what a fault of the table breaks off
abbrev pub table_breakage : DiversionFault → Breakage
table_breakage fault.Device = Device
table_breakage fault.NoMemory = NoMemory
table_breakage fault.Declined = Declined
table_breakage fault.Closed = Closed
