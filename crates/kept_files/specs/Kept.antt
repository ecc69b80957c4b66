-- The files of other packages: what stands at a place that another package's list has, by whatever name, is no unit's to write over
-- or to take away (Policy 6.6, 6.8, 7.6), unless that package yields.
use Rattle.std.specs.Prelude.{◌≡◌, ◌≢◌, ℕ, true, false, List, Contains}
use Rattle.host_core.specs.Paths.{Path, has_reserved_suffix}
use Rattle.host_core.specs.World.{World, IsLoose, is_kept}
use Rattle.administration.specs.Places.{home_path, is_within}
use Rattle.diversions.specs.Ways.{Ways}
use Rattle.file_check.specs.Clashes.{Owning, owning}
use Rattle.file_check.specs.Sound.{AllSound}
use Rattle.file_lists.specs.Owners.{owners_of}
use Rattle.file_lists.specs.declared.paths.Listed.{Listed}
use Rattle.file_lists.specs.declared.paths.PackageList.{PackageList}
use Rattle.unpack_engine.specs.Units.{Given}
use Rattle.unpack_laws.specs.InHand.{unit_name, unit_works, unit_yields}

-- a package other than this one lists a path of the place, by whatever name: the links to directories above it followed, then
-- diverted
pub record IsOthersPlace (ways : Ways) (lists : List PackageList) (name : List ℕ) (q : Path) : Type 0 where
  pub owner : Listed
  pub lies : Contains (owners_of ways lists q) owner
  pub other : owner.name ≢ name

-- a place that a package may have: none of the names that the installer keeps for itself, and outside the administration's directory
pub record IsPackagePlace (q : Path) : Type 0 where
  pub plain : has_reserved_suffix q ≡ false
  pub outside : is_within home_path q ≡ false

module _ (g : Given) where
  -- who has which places, as the unit finds it
  abbrev pub unit_owning : Owning
  unit_owning = owning g.ways g.lists (unit_yields g) (unit_name g)

  -- no path that the unit's package ships has a step fault in this world
  abbrev pub IsFoundSound : World → Type 0
  IsFoundSound w = AllSound unit_owning (unit_works g) w

  -- the place is that of another package which doesn't yield: it isn't one of which only conffiles are left, nor is it replaced, removed
  -- in favour of the package (Policy 7.4, 7.6), or one of which that takes obsolete conffiles alone
  pub record IsHeldPlace (q : Path) : Type 0 where
    pub held : IsOthersPlace g.ways g.lists (unit_name g) q
    pub stays : Contains (unit_yields g) held.owner.name → ⊥

  -- a file or a link stands there, at a place that script calls leave alone
  pub record IsHeldFile (places : List Path) (w : World) (q : Path) : Type 0 where
    pub place : IsHeldPlace q
    pub packaged : IsPackagePlace q
    pub stands : IsLoose (w q)
    pub kept : is_kept places q ≡ true
