-- The steps of a conversion, over the two names of each control file.
use Rattle.std.specs.Prelude.{◌≡◌, ◌≢◌, ◌⊎◌, Bool, true, false, List, None, IsSome, Contains}
use Rattle.host_core.specs.Paths.{Path, is_path}
use Rattle.host_core.specs.Unsynced.{is_temporary}
use Rattle.host_core.specs.World.{World, HasParent, IsDirectory, IsLoose, put}
use Rattle.host_core.specs.declared.node.Node.{Node}
use Rattle.administration.specs.Files.{IsReplacing, KeepsBesideFile, NoDirectory}
use Rattle.administration.specs.Places.{temporary}
use Rattle.administration.specs.declared.fault.AdministrationFault.{AdministrationFault}
use Rattle.administration.specs.declared.fault.AdministrationFault.TheVariants.{Damaged, Device, NoMemory, Declined}
use Rattle.info_format.specs.Converting.{NoMoreAside}
use Rattle.info_format.specs.Format.{format_path}
use Rattle.info_format.specs.Names.{Architectures, AreTwo}
use Rattle.info_format.specs.Tests.{fits}
use Rattle.info_format.specs.declared.pairs.Pair.{Pair}

-- these pairs are names of control files of such packages, and all of them of which one stands
pub record AreAllPairs (arches : Architectures) (pairs : List Pair) (w : World) : Type 0 where
  pub sound : (p : Pair) → Contains pairs p → AreTwo arches p.long p.short
  pub whole : (long short : Path) → AreTwo arches long short → IsSome (w long) ⊎ IsSome (w short) → Contains pairs (record { long = long; short = short })

-- none is the first name of one and the second of another, and a second name is that of one first name
pub record AreApart (pairs : List Pair) : Type 0 where
  pub apart : (p r : Pair) → Contains pairs p → Contains pairs r → p.long ≢ r.short
  pub once : (p r : Pair) → Contains pairs p → Contains pairs r → p.short ≡ r.short → p.long ≡ r.long
  pub proper : (p : Pair) → Contains pairs p → (is_temporary p.long ≡ false) × (is_temporary p.short ≡ false)
  pub aside : (p : Pair) → Contains pairs p → (p.long ≢ format_path) × (p.short ≢ format_path)

-- the second names lie in a directory that is there
abbrev pub HaveParents : List Pair → World → Type 0
HaveParents pairs w = (p : Pair) → Contains pairs p → HasParent w p.short

-- other things stand at the two names, told by the first; in format 1, or in format 0
abbrev pub IsUnfit : Bool → World → Pair → AdministrationFault → Type 0
IsUnfit one w p (Damaged file line) = (line ≡ 0) × (fits one (w p.long) (w p.short) ≡ false) × (file ≡ p.long)
IsUnfit one w p Device = Unit {0}
IsUnfit one w p NoMemory = Unit {0}
IsUnfit one w p Declined = Unit {0}

-- the same, of some of these
abbrev pub IsUnfitAmong : Bool → World → List Pair → AdministrationFault → Type 0
IsUnfitAmong one w pairs (Damaged file line) = (p : Pair) × Contains pairs p × IsUnfit one w p (Damaged file line)
IsUnfitAmong one w pairs Device = Unit {0}
IsUnfitAmong one w pairs NoMemory = Unit {0}
IsUnfitAmong one w pairs Declined = Unit {0}

-- one of the first names stands, or none
abbrev pub HasFirst : List Pair → World → Type 0
HasFirst pairs w = (p : Pair) × Contains pairs p × IsSome (w p.long)

abbrev pub NoFirst : List Pair → World → Type 0
NoFirst pairs w = (p : Pair) → Contains pairs p → w p.long ≡ None

-- of all of these the two names fit
abbrev pub AreFit : Bool → List Pair → World → Type 0
AreFit one pairs w = (p : Pair) → Contains pairs p → fits one (w p.long) (w p.short) ≡ true

-- the first name got the second, where nothing stood
abbrev pub IsGiven : Path → Path → World → World → Type 0
IsGiven long short old now = (now ≡ old) ⊎ (IsLoose (old long) × (old short ≡ None) × (now ≡ put old short (old long)))

-- At each moment of a copy: nothing stands at the second name, or all that the first has; parts of it only at the temporary name.
pub record IsCopying (long short : Path) (old now : World) : Type 0 where
  pub loose : IsLoose (old long)
  pub none : old short ≡ None
  pub room : NoDirectory (old (temporary short))
  pub target : (now short ≡ None) ⊎ (now short ≡ old long)
  pub spare : NoDirectory (now (temporary short))
  pub rest : KeepsBesideFile short old now

-- the first name gets the second, or a copy does
abbrev pub IsGiving : Path → Path → World → World → Type 0
IsGiving long short old now = IsGiven long short old now ⊎ IsCopying long short old now

-- what has the first name stands at the second, and nothing more at the temporary name
pub record IsAtBoth (long short : Path) (old new : World) : Type 0 where
  pub target : new short ≡ old long
  pub spare : (new (temporary short) ≡ old (temporary short)) ⊎ (new (temporary short) ≡ None)
  pub rest : KeepsBesideFile short old new

-- no file can be written beside this one: the temporary name is too long, or that of a directory
abbrev pub HasNoRoom : Path → World → Type 0
HasNoRoom short w = (is_path (temporary short) ≡ false) ⊎ IsDirectory (w (temporary short))

-- at each moment of writing a file where nothing stands
abbrev pub IsWriting : Path → Node → World → World → Type 0
IsWriting short node old now = (now ≡ old) ⊎ (NoDirectory (old (temporary short)) × IsReplacing short node old now)

-- a file or link with the first name has the second too
pub record HasOther (long short : Path) (old new : World) : Type 0 where
  pub all : IsLoose (old long) → IsSome (new short)
  pub aside : NoMoreAside old new

-- the first name went, where the second stands
abbrev pub IsTaken : Path → Path → World → World → Type 0
IsTaken long short old now = (now ≡ old) ⊎ (IsLoose (old short) × IsLoose (old long) × (now ≡ put old long None))

-- At each moment: some of the first names got their second ones, for which copies may stand at temporary names.
abbrev pub IsGivenAt : List Pair → Path → World → World → Type 0
IsGivenAt pairs q old now = (p : Pair) × Contains pairs p × (q ≡ p.short) × IsLoose (old p.long) × (old q ≡ None) × (now q ≡ old p.long)

abbrev pub IsAsideAt : List Pair → Path → World → World → Type 0
IsAsideAt pairs q old now = (p : Pair) × Contains pairs p × (q ≡ temporary p.short) × IsLoose (old p.long) × (old p.short ≡ None) × NoDirectory (old q) × NoDirectory (now q)

abbrev pub AreGiving : List Pair → World → World → Type 0
AreGiving pairs old now = (q : Path) → (now q ≡ old q) ⊎ (IsGivenAt pairs q old now ⊎ IsAsideAt pairs q old now)

-- some of the first names went
abbrev pub IsTakenAt : List Pair → Path → World → World → Type 0
IsTakenAt pairs q old now = (p : Pair) × Contains pairs p × (q ≡ p.long) × IsLoose (old p.short) × IsLoose (old p.long) × (now q ≡ None)

abbrev pub AreTaking : List Pair → World → World → Type 0
AreTaking pairs old now = (q : Path) → (now q ≡ old q) ⊎ IsTakenAt pairs q old now

-- each first name has its second one
pub record AreGiven (pairs : List Pair) (old new : World) : Type 0 where
  pub giving : AreGiving pairs old new
  pub aside : NoMoreAside old new
  pub all : (p : Pair) → Contains pairs p → IsLoose (old p.long) → IsSome (new p.short)

-- no first name stands beside its second one
pub record AreTaken (pairs : List Pair) (old new : World) : Type 0 where
  pub taking : AreTaking pairs old new
  pub all : (p : Pair) → Contains pairs p → IsLoose (old p.short) → IsLoose (new p.long) → ⊥

-- At each moment of going to format 0: first names get their second ones; when all have them the format goes, then first names go.
pub data IsBringing (pairs : List Pair) (old now : World) : Type 0 where
  giving : AreGiving pairs old now → IsBringing pairs old now
  taking : (mid : World) → AreGiven pairs old mid → AreTaking pairs (put mid format_path None) now → IsBringing pairs old now

abbrev pub IsBrought : List Pair → World → World → Type 0
IsBrought pairs old new = (mid : World) × AreGiven pairs old mid × AreTaken pairs (put mid format_path None) new
