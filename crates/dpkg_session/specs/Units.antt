-- Units of an unpack: what each did, and what it answers.
use Rattle.std.specs.Prelude.{◌≡◌, ◌⊎◌, ℕ, Bool, IsTrue, List, [], ◌++◌, Option, Some, None, Result, Ok, Err, map}
use Rattle.displaced_packages.specs.Displacing.{HasCalled as HasCalledDisplacing, HaveBeenDisplaced}
use Rattle.displaced_packages.specs.Losing.{losing_beside}
use Rattle.disappearance.specs.declared.losing.Losing.{Losing}
use Rattle.diversions.specs.Ways.{Ways}
use Rattle.host_core.specs.Host.{State, Needs, Silent}
use Rattle.host_core.specs.Paths.{Path}
use Rattle.host_core.specs.World.{World}
use Rattle.host_core.specs.declared.call.Call.{Call}
use Rattle.file_lists.specs.declared.paths.PackageList.{PackageList}
use Rattle.in_favour_rows.specs.Entries.{entries_of}
use Rattle.in_favour_rows.specs.Rows.{AreRowsBeside, AreRowsOf}
use Rattle.obsolete_conffiles.specs.Yields.{obsolete_yields}
use Rattle.removal_run.specs.Units.{holding_of}
use Rattle.package_tree.specs.declared.package.Package.{Package}
use Rattle.package_tree.specs.declared.fault.TreeFault.{TreeFault}
use Rattle.undo_rows.specs.Ended.{ended_as}
use Rattle.undo_rows.specs.declared.failure.Failure.TheVariants.{OfCall}
use Rattle.undo_rows.specs.declared.unwinding.Unwinding.{Unwinding}
use Rattle.stat_overrides.specs.declared.table.Overrides.{Overrides}
use Rattle.status_db.specs.Recorded.{Recorded}
use Rattle.status_db.specs.Order.{AreInOrder}
use Rattle.status_records.specs.declared.record.Record.{Record}
use Rattle.held_administration.specs.Order.{IsInOrder}
use Rattle.unpack_engine.specs.Others.{AreOthers}
use Rattle.unpack_engine.specs.Units.{Given, GoesByTable, HasCalled, HasFailedFor, HasUnpacked, IsTableIn, given_beside}
use Rattle.unpack_relations.specs.declared.beside.Beside.{Beside}
use Rattle.unpack_relations.specs.declared.checking.Checked.{Checked}
use Rattle.unpack_relations.specs.declared.checking.Checked.TheVariants as checked
use Rattle.unpack_rows.specs.declared.rows.OtherPackage.{OtherPackage}
use Rattle.undo_rows.specs.declared.rows.Called.{Called}
use Rattle.unit_reports.specs.Held.{Held, places_of}
use Rattle.unit_reports.specs.Units.{HasNoCalls, IsBroken, IsBrokenBy, IsRefused, TellsNoPackage, touched_at}
use Rattle.unit_reports.specs.declared.refusal.Rule.{Rule}
use Rattle.unit_reports.specs.declared.refusal.Rule.TheVariants.{Tree}
use Rattle.unit_reports.specs.declared.report.Breakage.TheVariants.{Damaged}
use Rattle.unit_reports.specs.declared.report.Reply.{Reply}
use Rattle.unit_reports.specs.declared.report.Reply.TheVariants.{Done, Failed}
use Rattle.unit_reports.specs.declared.report.Touched.{Touched}
use Rattle.unit_reports.specs.declared.report.Unit.{Unit as AUnit}
use Rattle.unpack_relations.specs.declared.options.UnpackOptions.{UnpackOptions}
use Rattle.dpkg_session.specs.Overriding.{AreOverrides, taken_with}
use Rattle.dpkg_session.specs.Refusals.{IsDecisionFor}
use Rattle.dpkg_session.specs.Rereading.{HasRead, IsTableDamaged, with_ways}
use Rattle.dpkg_session.specs.Touched.{AreDeconfigured, AreTold, IsTouchedBeside, half_configured}
use Rattle.dpkg_session.specs.declared.displacing.Behind.{Behind}
use Rattle.dpkg_session.specs.declared.report.Candidate.{Candidate}

-- a package to be unpacked, what is held, the diversions by which its files go, the other packages that have rows, and those that
-- let it take paths of theirs
abbrev pub given_by : Package → Held → Ways → List OtherPackage → List (List ℕ) → Given
given_by p h late others yields = given_beside p h.records.records h.lists h.ways late others yields

-- the conflicting and the replaced packages let it take paths of theirs (Policy 7.4, 7.6)
abbrev pub yielding : Beside → List (List ℕ)
yielding beside = beside.conflicting ++ beside.replaced

-- behind them those of which the package takes obsolete conffiles alone
abbrev pub all_yielding : Package → Beside → Held → List (List ℕ)
all_yielding p beside h = yielding beside ++ obsolete_yields h.ways p h.lists h.records.records (yielding beside)

-- the other packages that have rows, by the scripts that are stored in this world; where the host wasn't honest each still has the
-- row of its role
pub record HaveRows (p : Package) (beside : Beside) (records : List Record) (w : World) (honest : Bool) (others : List OtherPackage) : Type 0 where
  pub rows : IsTrue honest → AreRowsBeside p.name p.version records beside w others
  pub shaped : AreRowsOf p.name p.version (entries_of records beside) others
  pub apart : AreOthers p.name records others

-- the reply to a unit whose rows were unwound for a cause, or succeeded; then by the first call behind the commit that failed
abbrev pub reply_to : List ℕ → Option Unwinding → Option Call → Reply
reply_to name None None = Done
reply_to name None (Some call) = Failed (record { «package» = name; cause = OfCall call })
reply_to name (Some u) failed = Failed (record { «package» = name; cause = u.failure })

-- how a unit answers whose rows were unwound so, or succeeded, and behind whose commit this call failed, of packages of these names
pub record AnswersUnpack (name : List ℕ) (records : List Record) (unwinding : Option Unwinding) (failed : Option Call) (names : List (List ℕ)) (u : AUnit) : Type 0 where
  pub replied : u.reply ≡ reply_to name unwinding failed
  pub touched : u.touched.items ≡ map (touched_at records) names

-- it tells those of both lists
pub record AnswersBoth (name : List ℕ) (records : List Record) (copies : List Touched) (half : List (List ℕ)) (unwinding : Option Unwinding) (failed : Option Call) (first second : List (List ℕ)) (u : AUnit) : Type 0 where
  pub replied : u.reply ≡ reply_to name unwinding failed
  pub told : AreTold name records copies half first second u.touched.items u.deconfigured

-- The package was unpacked with the rows of other packages, or all rows were unwound; its files went by these diversions, which are those
-- held, or those that its scripts left before its files.
pub record HasUnpackedBeside (p : Package) (beside : Beside) (h : Held) (late : Ways) (places : List Path) (unwinding : Option Unwinding) (after : Recorded) (lists : List PackageList) (s t : State) (told now : List Called) : Type 0 where
  pub others : List OtherPackage
  pub have_rows : HaveRows p beside h.records.records s.world t.honest others
  pub unpacked : HasUnpacked (given_by p h late others (all_yielding p beside h)) places (ended_as unwinding) after lists s t told now
  pub cause : HasFailedFor (given_by p h late others (all_yielding p beside h)) s t unwinding
  pub table : GoesByTable (given_by p h late others (all_yielding p beside h)) unwinding s t
  -- where the host was honest they are those of the world in which it began, since scripts leave the table's file alone
  pub file : IsTrue t.honest → (late ≡ h.ways) ⊎ IsTableIn s.world h.ways late

-- nothing was displaced
pub record HasDisplacedNone (displaced : List (List ℕ)) (failed : Option Call) (mid after : Held) (m t : State) (told now : List Called) : Type 0 where
  pub none : displaced ≡ []
  pub no_failure : failed ≡ None
  pub held : after ≡ mid
  pub here : t ≡ m
  pub calls : now ≡ told

-- What an unpack may displace behind its commit: of which package and version it is, which packages may disappear, and which conflict.
pub record Displacing : Type 0 where
  pub name : List ℕ
  pub version : List ℕ
  pub losing : List Losing
  pub conflicting : List (List ℕ)

abbrev pub displacing_by : Package → Beside → List PackageList → Displacing
displacing_by p beside lists = record { name = p.name; version = p.version; losing = losing_beside lists beside; conflicting = beside.conflicting }

-- What it displaced: where all rows succeeded, those of the losing packages that disappeared, and the conflicting ones; where they were
-- unwound nothing.
abbrev pub HasDisplaced : Option Unwinding → Displacing → List (List ℕ) → Option Call → Held → Held → State → State → List Called → List Called → Type 0
HasDisplaced (Some u) d displaced failed mid after m t told now = HasDisplacedNone displaced failed mid after m t told now
HasDisplaced None d displaced failed mid after m t told now = HaveBeenDisplaced d.name d.version mid.ways d.losing d.conflicting displaced failed (holding_of mid) (holding_of after) m t told now

-- what is known of it before
pub record IsBehind (p : Package) (beside : Beside) (lists : List PackageList) (b : Behind) : Type 0 where
  pub name : b.«package» ≡ p.name
  pub version : b.version ≡ p.version
  pub losing : b.losing.items ≡ losing_beside lists beside

-- what is known of the records before: copies of those of the packages that yield, and which are half-configured
pub record KnowsRecords (beside : Beside) (records : List Record) (b : Behind) : Type 0 where
  pub order : AreInOrder records
  pub copies : b.copies.items ≡ map (touched_at records) (yielding beside)
  pub half : b.half ≡ half_configured records

-- the records and lists that the unpack left, with the diversions by which its files went
abbrev pub held_with : Ways → Recorded → List PackageList → Held
held_with late records lists = record { records = records; lists = lists; ways = late }

-- The package was unpacked, or all rows were unwound; and then what it displaces was displaced.
pub record HasUnpackedWhole (p : Package) (beside : Beside) (before : Held) (unwinding : Option Unwinding) (displaced : List (List ℕ)) (failed : Option Call) (after : Held) (s t : State) (told now : List Called) : Type 0 where
  pub records : Recorded
  pub lists : List PackageList
  pub m : State
  pub between : List Called
  pub unpacked : HasUnpackedBeside p beside before after.ways (places_of before) unwinding records lists s m told between
  pub ready : Needs m (IsInOrder records lists)
  pub behind : HasDisplaced unwinding (displacing_by p beside before.lists) displaced failed (held_with after.ways records lists) after m t between now

-- The unit was carried out, and the administration is in order: told are its packages, which of them it deconfigured, and for what
-- the rows were unwound, or which call behind the commit failed.
pub record IsUnpacked (p : Package) (beside : Beside) (before after : Held) (u : AUnit) (s t : State) : Type 0 where
  pub unwinding : Option Unwinding
  pub displaced : List (List ℕ)
  pub failed : Option Call
  pub names : List (List ℕ)
  pub unpacked : HasUnpackedWhole p beside before unwinding displaced failed after s t [] u.calls.items
  pub order : Needs t (IsInOrder after.records after.lists)
  pub changed : IsTouchedBeside p.name before.records.records after.records.records names
  pub answers : AnswersUnpack p.name after.records.records unwinding failed names u
  pub deconfigured : AreDeconfigured p.name before.records.records after.records.records u.deconfigured

-- a package is refused, or unpacked
abbrev pub IsUnitBy : Package → Checked → Held → Held → AUnit → State → State → Type 0
IsUnitBy p (checked.Refused rule) before after u s t = IsRefused rule p.name before after u s t
IsUnitBy p (checked.Planned beside) before after u s t = IsUnpacked p beside before after u s t

-- the unit of a package, once the aliases above its paths are known; it may deconfigure other packages or not
abbrev pub IsDecidedUnit : UnpackOptions → Package → Held → Held → AUnit → State → State → Type 0
IsDecidedUnit allowed p before after u s t = (decision : Checked) × IsDecisionFor p allowed before decision × IsUnitBy p decision before after u s t

-- the unit of a package of this name, by what the overrides make of it: a rule refuses it, or it has their accesses
abbrev pub IsTakenUnit : UnpackOptions → List ℕ → Result Package Rule → Held → Held → AUnit → State → State → Type 0
IsTakenUnit allowed name (Err rule) before after u s t = IsRefused rule name before after u s t
IsTakenUnit allowed name (Ok q) before after u s t = IsDecidedUnit allowed q before after u s t

-- the unit of a package the aliases above whose paths are known: the overrides of the root, as it is then, are read first
abbrev pub IsOverriddenUnit : UnpackOptions → Package → Held → Held → AUnit → State → State → Type 0
IsOverriddenUnit allowed p before after u s t =
    (read : Result Overrides ℕ) × AreOverrides read s.world t.honest × IsTakenUnit allowed p.name (taken_with read p) before after u s t

-- the unit of a tree that was read: the table of diversions is read again first, and what is missing of the aliases above its paths
abbrev pub IsPackageUnit : UnpackOptions → Package → Held → Held → AUnit → State → State → Type 0
IsPackageUnit allowed p before after u s t = (ways : Ways) × HasRead p before ways s.world t.honest × IsOverriddenUnit allowed p (with_ways before ways) after u s t

-- a tree that can't be read is refused first
abbrev pub IsUnitOf : UnpackOptions → List ℕ → Result Package TreeFault → Held → Held → AUnit → State → State → Type 0
IsUnitOf allowed label (Err fault) before after u s t = IsRefused (Tree fault) label before after u s t
IsUnitOf allowed label (Ok p) before after u s t = IsPackageUnit allowed p before after u s t

abbrev pub IsUnit : UnpackOptions → Candidate → Held → Held → AUnit → State → State → Type 0
IsUnit allowed c before after u s t = IsUnitOf allowed c.label c.tree before after u s t

-- the calls of an unpack, whatever its answer: none as long as it looks which rows other packages have, then the first of those
-- with these rows
pub data HasCalledBeside (p : Package) (beside : Beside) (h : Held) (s t : State) (told now : List Called) : Type 0 where
  looking : Silent s t → now ≡ told → HasCalledBeside p beside h s t told now
  calling : (others : List OtherPackage) → HaveRows p beside h.records.records s.world t.honest others
      → HasCalled (given_by p h h.ways others (all_yielding p beside h)) s t told now → HasCalledBeside p beside h s t told now

-- all calls of an unpack that is committed, and then the first of those for what it displaces
pub record HasCalledBehind (p : Package) (beside : Beside) (h : Held) (s t : State) (told now : List Called) : Type 0 where
  pub late : Ways
  pub records : Recorded
  pub lists : List PackageList
  pub m : State
  pub between : List Called
  pub unpacked : HasUnpackedBeside p beside h late (places_of h) None records lists s m told between
  pub called : HasCalledDisplacing p.name p.version late (losing_beside h.lists beside) beside.conflicting (holding_of (held_with late records lists)) m t between now

-- the first calls of an unpack, or all of them and the first behind it
abbrev pub HasCalledWhole : Package → Beside → Held → State → State → List Called → List Called → Type 0
HasCalledWhole p beside h s t told now = HasCalledBeside p beside h s t told now ⊎ HasCalledBehind p beside h s t told now

-- the calls of a unit, whatever its answer: none where the package is refused, else those of its unpack
abbrev pub HasCalledBy : Package → Checked → Held → AUnit → State → State → Type 0
HasCalledBy p (checked.Refused rule) before u s t = HasNoCalls u s t
HasCalledBy p (checked.Planned beside) before u s t = HasCalledWhole p beside before s t [] u.calls.items

-- once the aliases above its paths are known; memory may be wanting before it is decided
abbrev pub HasCalledDecided : UnpackOptions → Package → Held → AUnit → State → State → Type 0
HasCalledDecided allowed p before u s t =
    HasNoCalls u s t ⊎ ((decision : Checked) × IsDecisionFor p allowed before decision × HasCalledBy p decision before u s t)

-- by what the overrides make of it
abbrev pub HasCalledTaken : UnpackOptions → Result Package Rule → Held → AUnit → State → State → Type 0
HasCalledTaken allowed (Err rule) before u s t = HasNoCalls u s t
HasCalledTaken allowed (Ok q) before u s t = HasCalledDecided allowed q before u s t

-- it may be broken off before the overrides are known
abbrev pub HasCalledOverridden : UnpackOptions → Package → Held → AUnit → State → State → Type 0
HasCalledOverridden allowed p before u s t =
    HasNoCalls u s t ⊎ ((read : Result Overrides ℕ) × AreOverrides read s.world t.honest × HasCalledTaken allowed (taken_with read p) before u s t)

-- of a tree that was read; it may be broken off before the diversions and aliases are known
abbrev pub HasCalledPackage : UnpackOptions → Package → Held → AUnit → State → State → Type 0
HasCalledPackage allowed p before u s t =
    HasNoCalls u s t ⊎ ((ways : Ways) × HasRead p before ways s.world t.honest × HasCalledOverridden allowed p (with_ways before ways) u s t)

-- none for a tree that can't be read
abbrev pub HasCalledOf : UnpackOptions → Result Package TreeFault → Held → AUnit → State → State → Type 0
HasCalledOf allowed (Err fault) before u s t = HasNoCalls u s t
HasCalledOf allowed (Ok p) before u s t = HasCalledPackage allowed p before u s t

-- The unit of a candidate that was broken off: it tells no package, and made the first of its calls alone. It is told as damage only where
-- the table of diversions can't be read.
pub record IsBrokenOff (allowed : UnpackOptions) (c : Candidate) (before : Held) (u : AUnit) (s t : State) : Type 0 where
  pub broken : IsBroken u.reply
  pub untouched : TellsNoPackage u
  pub called : HasCalledOf allowed c.tree before u s t
  pub damaged : IsBrokenBy Damaged u.reply → IsTrue t.honest → IsTableDamaged s.world
