-- The files of packages that a command has nothing to do with: no unit of it writes or removes them, by whatever names they are listed
-- (Policy 6.6, 6.8, 7.4, 7.6).
use Rattle.std.specs.Prelude.{◌≡◌, ◌≢◌, ℕ, List, [], ◌∷◌, Result, Ok, Err, Contains}
use Rattle.host_core.specs.Host.{State}
use Rattle.host_core.specs.Paths.{Path}
use Rattle.host_core.specs.World.{World, IsLoose}
use Rattle.diversions.specs.Ways.{place}
use Rattle.file_lists.specs.Owners.{owners_of}
use Rattle.file_lists.specs.declared.paths.Listed.{Listed}
use Rattle.package_tree.specs.declared.fault.TreeFault.{TreeFault}
use Rattle.package_tree.specs.declared.package.Package.{Package}
use Rattle.unit_reports.specs.Held.{Held}
use Rattle.unit_reports.specs.declared.refusal.Rule.{Rule}
use Rattle.unit_reports.specs.declared.report.Unit.{Unit as AUnit}
use Rattle.unpack_laws.specs.InHand.{unit_yields}
use Rattle.unpack_relations.specs.declared.beside.Beside.{Beside}
use Rattle.unpack_relations.specs.declared.checking.Checked.TheVariants.{Planned, Refused}
use Rattle.unpack_relations.specs.declared.options.UnpackOptions.{UnpackOptions}
use Rattle.dpkg_session.specs.Overriding.{taken_with}
use Rattle.dpkg_session.specs.Rereading.{with_ways}
use Rattle.dpkg_session.specs.Run.{IsRun}
use Rattle.dpkg_session.specs.Units.{IsTakenUnit, IsUnitOf, all_yielding, given_by}
use Rattle.dpkg_session.specs.declared.report.Candidate.{Candidate}
use Rattle.kept_files.specs.Kept.{IsHeldPlace, IsPackagePlace}

-- this listed path has the place, by whatever name
abbrev pub Has : Held → Path → Listed → Type 0
Has h q owner = Contains (owners_of h.ways h.lists q) owner

-- A file or link stands at the place of a package other than the one that is unpacked, which doesn't yield to it: it isn't one of
-- which only conffiles are left, neither replaced by it nor removed in its favour, and none of which it takes obsolete conffiles alone.
pub record IsHeldFile (p : Package) (beside : Beside) (h : Held) (w : World) (q : Path) : Type 0 where
  pub place : IsHeldPlace (given_by p h h.ways [] (all_yielding p beside h)) q
  pub packaged : IsPackagePlace q
  pub stands : IsLoose (w q)

-- A package that none of these names is has the place.
pub record IsUnnamedPlace (h : Held) (names : List (List ℕ)) (q : Path) : Type 0 where
  pub owner : Listed
  pub has : Has h q owner
  pub unnamed : Contains names owner.name → ⊥
  pub packaged : IsPackagePlace q

-- this listed path has the place, which is one that a package may have
pub record IsPlaceOf (owner : Listed) (h : Held) (q : Path) : Type 0 where
  pub has : Has h q owner
  pub packaged : IsPackagePlace q

-- What is assumed of each unit of a run, for a listed path. That the path has its place as the unit begins, and that a file stands there,
-- isn't among it: the units before leave it so.
module _ (owner : Listed) where
  -- The path is of another package than the one that is unpacked, and doesn't yield to it; and behind the unit the diversions and aliases
  -- are those by which it was decided.
  pub record IsHeldAgainst (p : Package) (beside : Beside) (h after : Held) : Type 0 where
    pub other : owner.name ≢ p.name
    pub stays : Contains (unit_yields (given_by p h h.ways [] (all_yielding p beside h))) owner.name → ⊥
    pub left : after.ways ≡ h.ways

  -- by what the overrides make of a package; of one that is refused nothing is assumed
  abbrev pub IsHeldAgainstTaken : (allowed : UnpackOptions) (name : List ℕ) (taken : Result Package Rule) (h after : Held) (u : AUnit) (s t : State) → IsTakenUnit allowed name taken h after u s t → Type 0
  IsHeldAgainstTaken allowed name (Err rule) h after u s t unit = Unit {0}
  IsHeldAgainstTaken allowed name (Ok p) h after u s t (Refused rule, decided, unit) = Unit {0}
  IsHeldAgainstTaken allowed name (Ok p) h after u s t (Planned beside, decided, unit) = IsHeldAgainst p beside h after

  -- The path leads to the same place by the diversions and aliases that were read before the unit was decided. That needn't be so: a link
  -- to a directory that stands there becomes an alias, which is followed, before a package that ships paths below it.
  abbrev pub IsHeldAgainstUnit : (allowed : UnpackOptions) (label : List ℕ) (tree : Result Package TreeFault) (before after : Held) (u : AUnit) (s t : State) → IsUnitOf allowed label tree before after u s t → Type 0
  IsHeldAgainstUnit allowed label (Err fault) before after u s t unit = Unit {0}
  IsHeldAgainstUnit allowed label (Ok p) before after u s t (ways, read, (overrides, are, unit)) =
      (place ways owner.name owner.path ≡ place before.ways owner.name owner.path) × IsHeldAgainstTaken allowed p.name (taken_with overrides p) (with_ways before ways) after u s t unit

  -- unit after unit
  abbrev pub IsHeldThrough : (allowed : UnpackOptions) (cs : List Candidate) (us : List AUnit) (before after : Held) (s t : State) → IsRun allowed cs us before after s t → Type 0
  IsHeldThrough allowed [] [] before after s t run = Unit {0}
  IsHeldThrough allowed [] (u ∷ us) before after s t run = ⊥
  IsHeldThrough allowed (c ∷ cs) [] before after s t run = ⊥
  IsHeldThrough allowed (c ∷ cs) (u ∷ us) before after s t (m, mid, unit, rest) =
      IsHeldAgainstUnit allowed c.label c.tree before mid u s m unit.is × IsHeldThrough allowed cs us mid after m t rest
