-- How `info` is brought from format 1 to format 0.
use Rattle.std.specs.Prelude.{◌≡◌, ◌⊎◌, true, false, None, IsSome}
use Rattle.host_core.specs.Paths.{Path}
use Rattle.host_core.specs.World.{World, IsLoose}
use Rattle.host_core.specs.Unsynced.{is_temporary}
use Rattle.administration.specs.Files.{NoDirectory}
use Rattle.administration.specs.Places.{temporary}
use Rattle.administration.specs.declared.fault.AdministrationFault.{AdministrationFault}
use Rattle.administration.specs.declared.fault.AdministrationFault.TheVariants.{Damaged, Device, NoMemory, Declined}
use Rattle.info_format.specs.Names.{Architectures, AreTwo}
use Rattle.info_format.specs.Format.{AreAlike, HasLong, IsConvertible, IsNamesFault, format_path, is_one, reads}

-- what told of format 1 went
abbrev pub IsUntold : Path → World → World → Type 0
IsUntold q old now = (q ≡ format_path) × (is_one old ≡ true) × (now q ≡ None)

-- a name with the architecture went, where what it had stands at that without it
abbrev pub IsLeft : Architectures → Path → World → World → Type 0
IsLeft arches q old now = (short : Path) × AreTwo arches q short × AreAlike (old q) (now short) × (now q ≡ None)

-- of format 1: where nothing stood the name without the architecture has what that with it has
abbrev pub IsNamed : Architectures → Path → World → World → Type 0
IsNamed arches q old now = (is_one old ≡ true) × ((long : Path) × AreTwo arches long q × IsLoose (old long) × (old q ≡ None) × (now q ≡ old long))

-- of format 1: where nothing stood a copy gets the name without the architecture, and is written at its temporary name before
abbrev pub IsInWriting : Architectures → Path → World → World → Type 0
IsInWriting arches q old now = (is_one old ≡ true) × ((long short : Path) × AreTwo arches long short × (q ≡ temporary short) × IsLoose (old long) × (old short ≡ None) × NoDirectory (old q) × NoDirectory (now q))

-- At each moment dpkg reads each control file that it read before; nothing else changes than names, and what stands
-- at a temporary name; what was convertible is so.
pub record IsConverting (arches : Architectures) (old now : World) : Type 0 where
  pub same : (long short : Path) → AreTwo arches long short → IsSome (reads old long short) → reads now long short ≡ reads old long short
  pub each : (q : Path) → (now q ≡ old q) ⊎ (IsUntold q old now ⊎ (IsLeft arches q old now ⊎ (IsNamed arches q old now ⊎ IsInWriting arches q old now)))
  pub ready : IsConvertible arches old → IsConvertible arches now

-- at temporary names nothing stands that didn't stand there before
abbrev pub NoMoreAside : World → World → Type 0
NoMoreAside old new = (q : Path) → is_temporary q ≡ true → (new q ≡ old q) ⊎ (new q ≡ None)

-- In the end it isn't in format 1, in one that isn't known no name has an architecture, and of a control file the name with the
-- architecture is gone where that without it stands. No copy is left at a temporary name.
pub record IsConverted (arches : Architectures) (old new : World) : Type 0 where
  pub converting : IsConverting arches old new
  pub aside : NoMoreAside old new
  pub plain : is_one new ≡ false
  pub known : IsSome (new format_path) → HasLong arches new → ⊥
  pub gone : (long short : Path) → AreTwo arches long short → IsLoose (new short) → IsLoose (new long) → ⊥

-- that it couldn't be, told with the path
abbrev pub IsNamesDamage : Architectures → World → AdministrationFault → Type 0
IsNamesDamage arches w (Damaged file line) = (line ≡ 0) × IsNamesFault arches w file
IsNamesDamage arches w Device = Unit {0}
IsNamesDamage arches w NoMemory = Unit {0}
IsNamesDamage arches w Declined = Unit {0}
