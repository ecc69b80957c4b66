-- A removal or a purge of packages, as a whole.
use Rattle.std.specs.Prelude.{◌≡◌, ◌⊎◌, ℕ, List, [], ◌++◌, Option, Some, None, IfSome, IsSomeAnd}
use Rattle.dependency_check.specs.Waiting.{Waiting}
use Rattle.host_core.specs.Events.{Event}
use Rattle.host_core.specs.Host.{State, AtEachMomentOf}
use Rattle.host_core.specs.World.{World}
use Rattle.recorded_packages.specs.Packages.{ArePackagesOf}
use Rattle.recorded_packages.specs.Renewal.{AreSameBut}
use Rattle.relation_index.specs.declared.package.Package.{Package}
use Rattle.status_db.specs.Order.{AreInOrder}
use Rattle.status_records.specs.declared.record.Record.{Record}
use Rattle.unit_reports.specs.Held.{Held}
use Rattle.unit_reports.specs.Units.{IsBrokenBy, TellsNoPackage}
use Rattle.unit_reports.specs.declared.report.Breakage.TheVariants.{NoMemory}
use Rattle.unit_reports.specs.declared.report.Report.{Report}
use Rattle.unit_reports.specs.declared.report.Unit.{Unit as AUnit}
use Rattle.unit_runs.specs.Turns.{IsStill}
use Rattle.removal_run.specs.LeftOver.{AreAllTold, AreLeftOver}
use Rattle.name_sets.specs.Names.{each_once}
use Rattle.removal_run.specs.Refusals.{AreRefused, accepted, refusals}
use Rattle.removal_run.specs.Turns.{IsAmidNext, IsAmidTurns, IsBrokenNext, RemovesTo}
use Rattle.removal_run.specs.declared.extents.Extents.{Extents}
use Rattle.removal_run.specs.declared.options.RemovalOptions.{RemovalOptions}

-- the names that wait in the beginning
abbrev pub waiting_for : Extents → List (List ℕ) → Held → List (List ℕ)
waiting_for extents names before = accepted extents before.records.records (each_once names)

-- the units of the names that a rule refuses, in the order given
abbrev pub IsRefusedFirst : Extents → List (List ℕ) → Held → List AUnit → Type 0
IsRefusedFirst extents names before us = AreRefused (refusals extents before.records.records (each_once names)) us

-- Behind the units that are told already packages are removed in turn, and then those that are left over are told.
pub record RunsThrough (options : RemovalOptions) (names : List (List ℕ)) (refused us : List AUnit) (before after : Held) (s t : State) : Type 0 where
  pub packages : List Package
  pub stated : ArePackagesOf before.records.records packages
  pub removed : List AUnit
  pub left : List AUnit
  pub units : us ≡ refused ++ (removed ++ left)
  pub waiting : List (List ℕ)
  pub turns : RemovesTo options packages names before s removed waiting after t
  pub last : AreLeftOver options.ignore_depends packages after.records.records waiting left

-- The whole command: those that a rule refuses come first.
pub record IsRemovalRun (names : List (List ℕ)) (options : RemovalOptions) (us : List AUnit) (before after : Held) (s t : State) : Type 0 where
  pub refused : List AUnit
  pub first : IsRefusedFirst options.extents names before refused
  pub runs : RunsThrough options (waiting_for options.extents names before) refused us before after s t

-- a unit that was broken off for want of memory before it had done anything
pub record IsIdle (u : AUnit) : Type 0 where
  pub broken : IsBrokenBy NoMemory u.reply
  pub calls : u.calls.items ≡ []
  pub touched : TellsNoPackage u

-- nothing was done at all
pub record HasNotBegun (us : List AUnit) (last : Option AUnit) (s t : State) : Type 0 where
  pub units : us ≡ []
  pub here : t ≡ s
  pub broken : IsSomeAnd last IsIdle

-- Behind the units that are told already come removals up to a moment of the host, and then those left over where nothing else
-- can be removed. Since that moment only the next removal was under way: so what the units left stands, also where that one was
-- broken off.
pub record RunsUpTo (options : RemovalOptions) (names : List (List ℕ)) (refused us : List AUnit) (last : Option AUnit) (before : Held) (s t : State) : Type 0 where
  pub packages : List Package
  pub stated : ArePackagesOf before.records.records packages
  pub removed : List AUnit
  pub left : List AUnit
  pub units : us ≡ refused ++ (removed ++ left)
  pub waiting : List (List ℕ)
  pub after : Held
  pub end : State
  pub turns : RemovesTo options packages names before s removed waiting after end
  pub rest : (left ≡ []) ⊎ AreLeftOver options.ignore_depends packages after.records.records waiting left
  pub since : AtEachMomentOf (IsAmidNext options packages waiting after) end t
  pub broken : IfSome last (IsBrokenNext options packages waiting after end t)

pub record HasBegun (names : List (List ℕ)) (options : RemovalOptions) (us : List AUnit) (last : Option AUnit) (before : Held) (s t : State) : Type 0 where
  pub refused : List AUnit
  pub first : IsRefusedFirst options.extents names before refused
  pub runs : RunsUpTo options (waiting_for options.extents names before) refused us last before s t

abbrev pub HasRun : List (List ℕ) → RemovalOptions → List AUnit → Option AUnit → Held → State → State → Type 0
HasRun names options us last before s t = HasNotBegun us last s t ⊎ HasBegun names options us last before s t

-- some removals are done, and the next is under way
pub record IsAmidRemovals (names : List (List ℕ)) (options : RemovalOptions) (before : Held) (s : State) (so_far : List Event) (now : World) : Type 0 where
  pub packages : List Package
  pub stated : ArePackagesOf before.records.records packages
  pub turns : IsAmidTurns options packages (waiting_for options.extents names before) before s so_far now

-- at each moment of a removal or a purge: nothing is done yet, or removals are
abbrev pub IsAmidRun : List (List ℕ) → RemovalOptions → Held → State → List Event → World → Type 0
IsAmidRun names options before s so_far now = IsStill s.world so_far now ⊎ IsAmidRemovals names options before s so_far now

-- the units of those that are left over of a queue, behind others
pub record AddsLeft (q : Waiting) (old new : List AUnit) : Type 0 where
  pub left : List AUnit
  pub grown : new ≡ old ++ left
  pub told : AreAllTold q left

-- they are told, unless memory was wanting for them
abbrev pub EndsWith : Waiting → List AUnit → List AUnit → Option AUnit → Type 0
EndsWith q old new None = AddsLeft q old new
EndsWith q old new (Some u) = (new ≡ old) × IsIdle u

abbrev pub EndsAs : Waiting → List AUnit → Report → Type 0
EndsAs q units report = EndsWith q units report.units.items report.last

-- packages of records that were in order, and differed at these names alone, are those of the records of now
abbrev pub AreRenewed : List (List ℕ) → List Record → List Package → List Package → Type 0
AreRenewed names now old new = (before : List Record) → AreInOrder before → ArePackagesOf before old → AreSameBut names before now → ArePackagesOf now new
