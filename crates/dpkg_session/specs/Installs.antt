-- An install: an unpack, and then the packages that were unpacked are configured, and those that were deconfigured for them.
use Rattle.std.specs.Prelude.{◌≡◌, ◌⊎◌, ◌&&◌, ℕ, Bool, IsTrue, true, false, not, List, [], ◌∷◌, ◌++◌, Option, Some, None, IsNone, Result, Ok, Err, filter, map}
use Rattle.std.specs.List.{list_any}
use Rattle.std.specs.Str.{bytes_eq}
use Rattle.configure_run.specs.Run.{IsConfigureRun, HasRun as HasConfigured, IsAmidRun as IsAmidConfigure}
use Rattle.host_core.specs.Events.{Event}
use Rattle.host_core.specs.Host.{State, Since}
use Rattle.host_core.specs.World.{World}
use Rattle.package_tree.specs.declared.fault.TreeFault.{TreeFault}
use Rattle.package_tree.specs.declared.package.Package.{Package}
use Rattle.status_records.specs.declared.record.Record.{Record}
use Rattle.status_records.specs.declared.words.State.{State as PackageState}
use Rattle.status_records.specs.declared.words.State.TheVariants.{NotInstalled, ConfigFiles, HalfInstalled, Unpacked, HalfConfigured, Installed}
use Rattle.unit_reports.specs.Held.{Held}
use Rattle.unit_reports.specs.Units.{calls_told}
use Rattle.unit_reports.specs.declared.report.Reply.{Reply}
use Rattle.unit_reports.specs.declared.report.Reply.TheVariants.{Done, Refused, Failed, Looped, Broken}
use Rattle.unit_reports.specs.declared.report.Report.{Report}
use Rattle.unit_reports.specs.declared.report.Touched.{Touched}
use Rattle.unit_reports.specs.declared.report.Unit.{Unit as AUnit}
use Rattle.undo_rows.specs.Transcript.{TellsAll}
use Rattle.configure_run.specs.declared.options.ConfigureOptions.{ConfigureOptions}
use Rattle.unpack_relations.specs.declared.options.UnpackOptions.{UnpackOptions}
use Rattle.dpkg_session.specs.PowerLoss.{LosesLikeAStop}
use Rattle.dpkg_session.specs.Rereading.{BehindReading, IsAmidReading, IsUnread}
use Rattle.dpkg_session.specs.Run.{AreReadInTurn, HasRun, IsAmidRun, IsRun}
use Rattle.dpkg_session.specs.declared.report.Candidate.{Candidate}

-- a package in this state hasn't all its files
abbrev pub is_without_files : PackageState → Bool
is_without_files NotInstalled = true
is_without_files ConfigFiles = true
is_without_files HalfInstalled = true
is_without_files Unpacked = false
is_without_files HalfConfigured = false
is_without_files Installed = false

-- the package of a tree, or the word that named one that can't be read
abbrev pub tree_label : List ℕ → Result Package TreeFault → List ℕ
tree_label label (Ok p) = p.name
tree_label label (Err fault) = label

abbrev pub label_of : Candidate → List ℕ
label_of c = tree_label c.label c.tree

-- the package has no record, or not all its files
abbrev pub has_lost_files : Option Record → Bool
has_lost_files None = true
has_lost_files (Some r) = is_without_files r.state

-- it is told so of the package of this name
abbrev pub is_told_lost : List ℕ → Touched → Bool
is_told_lost q t = bytes_eq q t.«package» && has_lost_files t.entry

-- the unit of the package of this name tells so of another one: it disappeared, or was removed in favour of it (Policy 6.6, 7.4)
abbrev pub takes_away : List ℕ → AUnit → List ℕ → Bool
takes_away name u q = not (bytes_eq q name) && list_any (is_told_lost q) u.touched.items

-- none of these units of packages of these names takes it away
abbrev pub stays : List (List ℕ) → List AUnit → List ℕ → Bool
stays [] us q = true
stays (name ∷ names) [] q = true
stays (name ∷ names) (u ∷ us) q = not (takes_away name u q) && stays names us q

abbrev pub if_done : Reply → List (List ℕ) → List (List ℕ)
if_done Done names = names
if_done (Refused refusal) names = []
if_done (Failed failure) names = []
if_done (Looped cycle) names = []
if_done (Broken breakage) names = []

-- a unit's package, where it answered Done, and behind it those that were deconfigured for it (Policy 7.3)
abbrev pub done_with : List ℕ → AUnit → List (List ℕ)
done_with name u = if_done u.reply (name ∷ u.deconfigured)

-- of the units of packages of these names, without those that a later one takes away
abbrev pub names_done : List (List ℕ) → List AUnit → List (List ℕ)
names_done [] us = []
names_done (name ∷ names) [] = []
names_done (name ∷ names) (u ∷ us) = filter (stays names us) (done_with name u) ++ names_done names us

-- the packages of candidates that answered Done, in order, each with those that were deconfigured for it, without those that a later
-- candidate took away
abbrev pub packages_done : List Candidate → List AUnit → List (List ℕ)
packages_done cs us = names_done (map label_of cs) us

-- what an install answers: the last unit of its reports, if it was broken off
abbrev pub last_of : Option AUnit → Option AUnit → Option AUnit
last_of None second = second
last_of (Some u) second = Some u

-- The trees were unpacked, and then, once the table of diversions was read again, those packages were configured that answered Done.
pub record IsInstall (allowed : UnpackOptions) (cs : List Candidate) (options : ConfigureOptions) (unpacked configured : List AUnit) (before after : Held) (s t : State) : Type 0 where
  pub mid : Held
  pub m : State
  pub unpacks : IsRun allowed cs unpacked before mid s m
  pub configures : BehindReading (λ h n. IsConfigureRun (packages_done cs unpacked) options configured h after n t) mid m

-- nothing is reported
pub record IsEmptyReport (report : Report) : Type 0 where
  pub units : report.units.items ≡ []
  pub last : report.last ≡ None

-- All trees were unpacked, and of what was configured then this is known.
pub record HasGoneOn (allowed : UnpackOptions) (cs : List Candidate) (options : ConfigureOptions) (unpacked : List AUnit) (configured : Report) (before : Held) (s t : State) : Type 0 where
  pub mid : Held
  pub m : State
  pub unpacks : IsRun allowed cs unpacked before mid s m
  pub configures : IsUnread configured.units.items configured.last m t ⊎ BehindReading (λ h n. HasConfigured (packages_done cs unpacked) options configured.units.items configured.last h n t) mid m

-- How far an install came: up to an unpack that was broken off, and then nothing is configured; or behind all unpacks.
abbrev pub HasInstalled : UnpackOptions → List Candidate → ConfigureOptions → List AUnit → Option AUnit → Report → Held → State → State → Type 0
HasInstalled allowed cs options unpacked (Some u) configured before s t =
    HasRun allowed cs unpacked (Some u) before s t × IsEmptyReport configured
HasInstalled allowed cs options unpacked None configured before s t = HasGoneOn allowed cs options unpacked configured before s t

-- the unpacks are done, and what was done since then is this
pub record IsAmidConfiguring (allowed : UnpackOptions) (cs : List Candidate) (options : ConfigureOptions) (before : Held) (s : State) (so_far : List Event) (now : World) : Type 0 where
  pub unpacked : List AUnit
  pub mid : Held
  pub m : State
  pub honest : IsTrue m.honest
  pub unpacks : IsRun allowed cs unpacked before mid s m
  pub front : List Event
  pub rest : List Event
  pub are : so_far ≡ front ++ rest
  pub events : m.events ≡ s.events ++ front
  pub configuring : IsAmidReading (λ h. IsAmidConfigure (packages_done cs unpacked) options h) mid m rest now

-- at each moment of an install
abbrev pub IsAmidInstall : UnpackOptions → List Candidate → ConfigureOptions → Held → State → List Event → World → Type 0
IsAmidInstall allowed cs options before s so_far now =
    IsAmidRun allowed cs before s so_far now ⊎ IsAmidConfiguring allowed cs options before s so_far now

-- the calls of both reports are those by which the host's own list has grown
abbrev pub TellsBoth : State → State → Report → Report → Type 0
TellsBoth s t first second = TellsAll s t [] (calls_told first ++ calls_told second)

-- The reports of an install over trees of which these were read, and those of the other words were not.
pub record HasInstalledThrough (allowed : UnpackOptions) (cs : List Candidate) (left : List (List ℕ)) (options : ConfigureOptions) (unpacked configured : Report) (before after : Held) (s t : State) : Type 0 where
  pub whole : IsNone (last_of unpacked.last configured.last) → IsInstall allowed cs options unpacked.units.items configured.units.items before after s t
  pub all : IsNone unpacked.last → left ≡ []
  pub part : HasInstalled allowed cs options unpacked.units.items unpacked.last configured before s t
  pub read : AreReadInTurn cs unpacked.units.items unpacked.last
  pub any_moment : Since (IsAmidInstall allowed cs options before s) s t
  pub loss : LosesLikeAStop (IsAmidInstall allowed cs options before s) s t
