-- Commands given one after another.
use Rattle.std.specs.Prelude.{◌≡◌, ℕ, IsTrue, List, [], ◌∷◌, None}
use Rattle.adopted_conffiles.specs.Adopted.{all_adopted}
use Rattle.aliases.specs.Aliases.{Alias}
use Rattle.configure_run.specs.Run.{IsConfigureRun}
use Rattle.diversions.specs.Ways.{Ways}
use Rattle.host_core.specs.Paths.{is_own}
use Rattle.host_core.specs.World.{World, KeepsBut, SameOn}
use Rattle.host_core.specs.Host.{State}
use Rattle.opening.specs.Opened.{IsFound}
use Rattle.opening.specs.Parts.{OpensAndMerges}
use Rattle.record_changes.specs.Run.{IsChangeRun}
use Rattle.record_changes.specs.declared.change.RecordChange.{RecordChange}
use Rattle.removal_run.specs.Run.{IsRemovalRun}
use Rattle.removal_run.specs.declared.options.RemovalOptions.{RemovalOptions}
use Rattle.status_db.specs.Held.{is_record_place}
use Rattle.status_db.specs.Noting.{AreNoted}
use Rattle.trigger_run.specs.Run.{IsTriggerRun}
use Rattle.configure_run.specs.declared.options.ConfigureOptions.{ConfigureOptions}
use Rattle.unpack_relations.specs.declared.options.UnpackOptions.{UnpackOptions}
use Rattle.dpkg_session.specs.declared.asked.Diverting.{Diverting}
use Rattle.dpkg_session.specs.declared.asked.Undiverting.{Undiverting}
use Rattle.dpkg_session.specs.declared.report.Candidate.{Candidate}
use Rattle.unit_reports.specs.declared.report.Unit.{Unit as AUnit}
use Rattle.dpkg_session.specs.Checkpoints.{merged}
use Rattle.dpkg_session.specs.Diversions.{HasDiverted, HasUndiverted}
use Rattle.unit_reports.specs.Held.{Held}
use Rattle.dpkg_session.specs.Installs.{IsInstall}
use Rattle.dpkg_session.specs.Rereading.{HasReread, with_ways}
use Rattle.dpkg_session.specs.Run.{IsRun}

-- a command with the units that were reported
pub data Ran : Type 0 where
  -- the trees that were to be unpacked, and whether other packages might be deconfigured
  Unpacked : (allowed : UnpackOptions) (candidates : List Candidate) (units : List AUnit) → Ran
  Diverted : (asked : Diverting) (unit : AUnit) → Ran
  Undiverted : (asked : Undiverting) (unit : AUnit) → Ran
  -- the names of the packages that were to be configured
  Configured : (names : List (List ℕ)) (options : ConfigureOptions) (units : List AUnit) → Ran
  -- of those that were to be removed, or purged
  Removed : (names : List (List ℕ)) (options : RemovalOptions) (units : List AUnit) → Ran
  -- what was to be changed of records
  Changed : (changes : List RecordChange) (units : List AUnit) → Ran
  -- the names of the packages whose triggers were to be processed
  Triggered : (names : List (List ℕ)) (units : List AUnit) → Ran
  -- trees that were to be unpacked and configured, with the units of both
  Installed : (allowed : UnpackOptions) (candidates : List Candidate) (options : ConfigureOptions) (unpacked configured : List AUnit) → Ran
  -- the table of diversions was read again, before a command, and these are the ways that it goes by
  Reread : (ways : Ways) → Ran
  -- the end of a command, behind its units: all notes were merged
  Merged : Ran

-- only the diversions may be others
pub record KeepsRest (before after : Held) : Type 0 where
  pub records : after.records ≡ before.records
  pub lists : after.lists ≡ before.lists

-- the units of a command
abbrev pub HasDone : Ran → Held → Held → State → State → Type 0
HasDone (Unpacked allowed candidates units) before after s t = IsRun allowed candidates units before after s t
HasDone (Diverted asked unit) before after s t =
    HasDiverted asked before.records.records before.lists before.ways after.ways unit s t × KeepsRest before after
HasDone (Undiverted asked unit) before after s t = HasUndiverted asked before.ways after.ways unit s t × KeepsRest before after
HasDone (Configured names options units) before after s t = IsConfigureRun names options units before after s t
HasDone (Removed names options units) before after s t = IsRemovalRun names options units before after s t
HasDone (Changed changes units) before after s t = IsChangeRun changes units before after s t
HasDone (Triggered names units) before after s t = IsTriggerRun names units before after s t
HasDone (Installed allowed candidates options unpacked configured) before after s t = IsInstall allowed candidates options unpacked configured before after s t
HasDone (Reread ways) before after s t = HasReread before ways s t × (after ≡ with_ways before ways)
HasDone Merged before after s t = (after ≡ merged before) × (IsTrue t.honest → AreNoted before.records.records 0 s.world t.world)

-- the administration stands for these records, lists and diversions, and all parts of it can be read
abbrev pub Stands : Held → World → Type 0
Stands h w = IsFound h.records.records h.records.notes h.lists h.ways.entries w

-- One command on an honest host whose administration stands for what is held: its units, and what they leave held, and the
-- world that they leave.
pub record IsCommand (ran : Ran) (before after : Held) (old new : World) : Type 0 where
  pub start : State
  pub end : State
  pub honest : IsTrue end.honest
  pub from : start.world ≡ old
  pub to : end.world ≡ new
  pub opened : Stands before old
  pub done : HasDone ran before after start end

-- what is held, with other aliases
abbrev pub realiased : List Alias → Held → Held
realiased aliases h = record h { ways = record { entries = h.ways.entries; aliases = aliases } }

-- the same, with the records as they are taken up by the files of a world
abbrev pub readopted : World → Held → Held
readopted w h = record h { records = record h.records { records = all_adopted w h.ways h.records.records } }

-- Between two commands any path but the program's own may have changed; and then another session may have been opened, which
-- merges the notes, reads the aliases anew, and takes up what another program left unsettled.
pub data IsBetween (left found : Held) (old new : World) : Type 0 where
  same : found ≡ left → SameOn is_own old new → IsBetween left found old new
  reopened : (mid read : World) (aliases : List Alias) → found ≡ readopted read (realiased aliases (merged left)) → SameOn is_own old mid → OpensAndMerges None mid read → KeepsBut is_record_place read new → IsBetween left found old new

-- each command finds what the one before it left
abbrev pub IsHistory : List Ran → Held → Held → World → World → Type 0
IsHistory [] before after old new = (after ≡ before) × SameOn is_own old new
IsHistory (ran ∷ rest) before after old new =
    (found mid : Held) × (begun left : World) × IsBetween before found old begun × IsCommand ran found mid begun left × IsHistory rest mid after left new
