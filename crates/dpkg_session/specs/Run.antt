-- A run of units, one after another.
use Rattle.std.specs.Prelude.{◌≡◌, ◌⊎◌, ◌+◌, ℕ, Bool, true, IsTrue, List, [], ◌∷◌, ◌++◌, length, take, drop, Option, Some, None, IfSome, IsNone, Result, Ok, Err}
use Rattle.diversions.specs.Ways.{Ways}
use Rattle.displaced_packages.specs.Displacing.{IsAmidDisplacing}
use Rattle.displaced_packages.specs.Losing.{losing_beside}
use Rattle.file_lists.specs.declared.paths.PackageList.{PackageList}
use Rattle.host_core.specs.Events.{Event, scripts_of}
use Rattle.host_core.specs.Host.{State, AtEachMomentOf, Since}
use Rattle.host_core.specs.Loss.{IsAnswered}
use Rattle.host_core.specs.Paths.{Path}
use Rattle.host_core.specs.World.{World}
use Rattle.package_tree.specs.declared.fault.TreeFault.{TreeFault}
use Rattle.package_tree.specs.declared.package.Package.{Package}
use Rattle.unit_reports.specs.Units.{CountsReply}
use Rattle.removal_run.specs.Units.{holding_of}
use Rattle.stat_overrides.specs.declared.table.Overrides.{Overrides}
use Rattle.status_db.specs.Recorded.{Recorded}
use Rattle.unpack_engine.specs.Units.{IsAmidUnit}
use Rattle.unit_reports.specs.Held.{Held, places_of}
use Rattle.unit_reports.specs.declared.refusal.Rule.{Rule}
use Rattle.unpack_relations.specs.declared.beside.Beside.{Beside}
use Rattle.unpack_relations.specs.declared.checking.Checked.{Checked}
use Rattle.unpack_relations.specs.declared.checking.Checked.TheVariants.{Refused, Planned}
use Rattle.unpack_rows.specs.declared.rows.OtherPackage.{OtherPackage}
use Rattle.unpack_relations.specs.declared.options.UnpackOptions.{UnpackOptions}
use Rattle.dpkg_session.specs.Overriding.{AreOverrides, taken_with}
use Rattle.dpkg_session.specs.PowerLoss.{LosesLikeAStop}
use Rattle.dpkg_session.specs.Refusals.{IsDecisionFor}
use Rattle.dpkg_session.specs.Rereading.{HasRead, with_ways}
use Rattle.undo_rows.specs.declared.rows.Called.{Called}
use Rattle.dpkg_session.specs.Units.{HasUnpackedBeside, HaveRows, IsBrokenOff, IsUnit, all_yielding, given_by, held_with}
use Rattle.dpkg_session.specs.declared.report.Candidate.{Candidate}
use Rattle.unit_reports.specs.declared.report.Report.{Report}
use Rattle.unit_reports.specs.declared.report.Unit.{Unit as AUnit}

-- nothing is done yet
abbrev pub IsStill : World → List Event → World → Type 0
IsStill old so_far now = (now ≡ old) × (scripts_of so_far ≡ [])

-- at each moment of the unpack of a package: nothing is done yet, or it is under way with the rows of other packages
abbrev pub IsAmidBeside : Package → Beside → Held → List Path → World → List Event → World → Type 0
IsAmidBeside p beside before places old so_far now = IsStill old so_far now
    ⊎ ((others : List OtherPackage) × (late : Ways) × HaveRows p beside before.records.records old true others
    × IsAmidUnit (given_by p before late others (all_yielding p beside before)) places old so_far now)

-- The unpack is committed, and packages are displaced behind it.
pub record IsAmidBehind (p : Package) (beside : Beside) (before : Held) (old : World) (so_far : List Event) (now : World) : Type 0 where
  pub s : State
  pub from : s.world ≡ old
  pub late : Ways
  pub records : Recorded
  pub lists : List PackageList
  pub m : State
  pub honest : IsTrue m.honest
  pub between : List Called
  pub unpacked : HasUnpackedBeside p beside before late (places_of before) None records lists s m [] between
  pub front : List Event
  pub rest : List Event
  pub split : so_far ≡ front ++ rest
  pub events : m.events ≡ s.events ++ front
  pub displacing : IsAmidDisplacing p.name p.version late (losing_beside before.lists beside) beside.conflicting (holding_of (held_with late records lists)) m rest now

-- at each moment of the unpack of a package, and of what is displaced behind it
abbrev pub IsAmidUnpack : Package → Beside → Held → World → List Event → World → Type 0
IsAmidUnpack p beside before old so_far now = IsAmidBeside p beside before (places_of before) old so_far now ⊎ IsAmidBehind p beside before old so_far now

-- at each moment of the unit of a package: nothing has changed where it is refused
abbrev pub IsAmidBy : Package → Checked → Held → World → List Event → World → Type 0
IsAmidBy p (Refused rule) before old so_far now = now ≡ old
IsAmidBy p (Planned beside) before old so_far now = IsAmidUnpack p beside before old so_far now

-- at each moment of the unit of a package whose paths' aliases are known: nothing is done yet, or it is decided
abbrev pub IsAmidDecided : UnpackOptions → Package → Held → World → List Event → World → Type 0
IsAmidDecided allowed p before old so_far now =
    IsStill old so_far now ⊎ ((decision : Checked) × IsDecisionFor p allowed before decision × IsAmidBy p decision before old so_far now)

-- by what the overrides make of the package: nothing has changed where a rule refuses it
abbrev pub IsAmidTaken : UnpackOptions → Result Package Rule → Held → World → List Event → World → Type 0
IsAmidTaken allowed (Err rule) before old so_far now = now ≡ old
IsAmidTaken allowed (Ok q) before old so_far now = IsAmidDecided allowed q before old so_far now

-- nothing is done yet, or the overrides are known
abbrev pub IsAmidOverridden : UnpackOptions → Package → Held → World → List Event → World → Type 0
IsAmidOverridden allowed p before old so_far now =
    IsStill old so_far now ⊎ ((read : Result Overrides ℕ) × AreOverrides read old true × IsAmidTaken allowed (taken_with read p) before old so_far now)

-- at each moment of the unit of a tree that was read: nothing is done yet, or the diversions and the aliases above its paths are known
abbrev pub IsAmidPackage : UnpackOptions → Package → Held → World → List Event → World → Type 0
IsAmidPackage allowed p before old so_far now =
    IsStill old so_far now ⊎ ((ways : Ways) × HasRead p before ways old true × IsAmidOverridden allowed p (with_ways before ways) old so_far now)

-- at each moment of the unit of a tree
abbrev pub IsAmidUnitOf : UnpackOptions → Result Package TreeFault → Held → World → List Event → World → Type 0
IsAmidUnitOf allowed (Err fault) before old so_far now = now ≡ old
IsAmidUnitOf allowed (Ok p) before old so_far now = IsAmidPackage allowed p before old so_far now

-- a unit as the tables say, from one moment of the host to a later one; at each moment between them it is under way, and in
-- the end all of it is on the disk; it fails for a declined step of its files only where one was declined in it
pub record RunsUnit (allowed : UnpackOptions) (c : Candidate) (before after : Held) (u : AUnit) (s t : State) : Type 0 where
  pub is : IsUnit allowed c before after u s t
  pub moments : AtEachMomentOf (IsAmidUnitOf allowed c.tree before) s t
  pub answered : IsAnswered s t
  pub counts : CountsReply s t u.reply

-- unit after unit, each from what the one before it left
abbrev pub IsRun : UnpackOptions → List Candidate → List AUnit → Held → Held → State → State → Type 0
IsRun allowed [] [] before after s t = (t ≡ s) × (after ≡ before)
IsRun allowed [] (u ∷ us) before after s t = ⊥
IsRun allowed (c ∷ cs) [] before after s t = ⊥
IsRun allowed (c ∷ cs) (u ∷ us) before after s t =
    (m : State) × (mid : Held) × RunsUnit allowed c before mid u s m × IsRun allowed cs us mid after m t

-- at each moment after the units that are done: that of the next tree is under way
abbrev pub IsAmidNext : UnpackOptions → List Candidate → Held → World → List Event → World → Type 0
IsAmidNext allowed [] before old so_far now = now ≡ old
IsAmidNext allowed (c ∷ cs) before old so_far now = IsAmidUnitOf allowed c.tree before old so_far now

-- the unit that was broken off is that of the next of these candidates
abbrev pub IsBrokenNext : UnpackOptions → List Candidate → Held → State → State → AUnit → Type 0
IsBrokenNext allowed [] before s t u = ⊥
IsBrokenNext allowed (c ∷ cs) before s t u = IsBrokenOff allowed c before u s t

-- The units are a run of the first candidates up to a moment of the host, and since that moment only the unit of the next
-- one was under way: so what they left stands, also where that one was broken off.
pub record HasRun (allowed : UnpackOptions) (cs : List Candidate) (us : List AUnit) (last : Option AUnit) (before : Held) (s t : State) : Type 0 where
  pub after : Held
  pub end : State
  pub run : IsRun allowed (take (length us) cs) us before after s end
  pub since : AtEachMomentOf (IsAmidNext allowed (drop (length us) cs) after) end t
  pub broken : IfSome last (IsBrokenNext allowed (drop (length us) cs) after end t)

-- at each moment of a run: some units are done on a host that was honest so far, and the next is under way
abbrev pub IsAmidRun : UnpackOptions → List Candidate → Held → State → List Event → World → Type 0
IsAmidRun allowed [] before s so_far now = now ≡ s.world
IsAmidRun allowed (c ∷ cs) before s so_far now = IsAmidUnitOf allowed c.tree before s.world so_far now
    ⊎ ((unit : AUnit) × (m : State) × (mid : Held) × IsUnit allowed c before mid unit s m
    × ((front rest : List Event) × (so_far ≡ front ++ rest) × (m.events ≡ s.events ++ front) × IsTrue m.honest × IsAmidRun allowed cs mid m rest now))

-- A tree is read only once the units of those before it are told: each that was read has its unit, the last of them that which was
-- broken off, if one was.
abbrev pub AreReadInTurn : List Candidate → List AUnit → Option AUnit → Type 0
AreReadInTurn cs us None = length cs ≡ length us
AreReadInTurn cs us (Some u) = length cs ≡ length us + 1

-- The report of a run over trees of which these were read, and those of the other words were not: all are read where no unit was
-- broken off.
pub record HasRunThrough (allowed : UnpackOptions) (cs : List Candidate) (left : List (List ℕ)) (report : Report) (before after : Held) (s t : State) : Type 0 where
  pub whole : IsNone report.last → IsRun allowed cs report.units.items before after s t
  pub all : IsNone report.last → left ≡ []
  pub part : HasRun allowed cs report.units.items report.last before s t
  pub read : AreReadInTurn cs report.units.items report.last
  pub any_moment : Since (IsAmidRun allowed cs before s) s t
  pub loss : LosesLikeAStop (IsAmidRun allowed cs before s) s t
