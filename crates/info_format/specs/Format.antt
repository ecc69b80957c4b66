-- The format of `info`, and where it has a package's control files.
use Rattle.std.specs.Prelude.{◌≡◌, ◌⊎◌, ℕ, Bool, true, false, List, Option, Some, None, IsSome, codes, cond}
use Rattle.std.specs.Str.{bytes_eq}
use Rattle.host_core.specs.Paths.{Path}
use Rattle.host_core.specs.World.{World}
use Rattle.host_core.specs.declared.node.Access.{Access}
use Rattle.host_core.specs.declared.node.Node.{Node}
use Rattle.host_core.specs.declared.node.Node.TheVariants.{File, Dir, Link}
use Rattle.administration.specs.Files.{NoDirectory}
use Rattle.info_format.specs.Names.{Architectures, AreTwo}
use Rattle.info_format.specs.declared.format.Format.{Format}
use Rattle.info_format.specs.declared.format.Format.TheVariants as told

-- the file that tells the format; where none stands it is 0
abbrev pub format_path : Path
format_path = codes "/var/lib/dpkg/info/format"

-- it says 1
abbrev pub says_one : Option Node → Bool
says_one None = false
says_one (Some (File bytes access)) = bytes_eq bytes (codes "1\n")
says_one (Some (Dir access)) = false
says_one (Some (Link target)) = false

-- what is told of it
abbrev pub IsSaid : Option Node → Format → Type 0
IsSaid node told.Short = node ≡ None
IsSaid node told.Long = says_one node ≡ true
IsSaid node told.Unknown = IsSome node × (says_one node ≡ false)

abbrev pub is_one : World → Bool
is_one w = says_one (w format_path)

-- what dpkg reads as the control file that has these two names
abbrev pub reads : World → Path → Path → Option Node
reads w long short = cond (is_one w) (w long) (w short)

-- the two names of a control file in format 1: where that with the architecture stands, at that without it stands nothing, or the same
pub record IsFit (long short : Option Node) : Type 0 where
  pub loose : NoDirectory long
  pub same : IsSome long → (short ≡ None) ⊎ (short ≡ long)

-- files with the same bytes, or links with the same target; in format 0 dpkg reads the second alone, so the access of the first is none of its
abbrev pub HaveSameBytes : Option Node → Option Node → Type 0
HaveSameBytes long short = (bytes : List ℕ) × (access owned : Access) × (long ≡ Some (File bytes access)) × (short ≡ Some (File bytes owned))

abbrev pub HaveSameTarget : Option Node → Option Node → Type 0
HaveSameTarget long short = (target : Path) × (long ≡ Some (Link target)) × (short ≡ Some (Link target))

abbrev pub AreAlike : Option Node → Option Node → Type 0
AreAlike long short = HaveSameBytes long short ⊎ HaveSameTarget long short

-- where both names of a control file stand they are alike
abbrev pub AreDoubles : Architectures → World → Type 0
AreDoubles arches w = (long short : Path) → AreTwo arches long short → IsSome (w long) → IsSome (w short) → AreAlike (w long) (w short)

-- a name with the architecture stands
abbrev pub HasLong : Architectures → World → Type 0
HasLong arches w = (long short : Path) × AreTwo arches long short × IsSome (w long)

-- where such names stand the format is known; in format 1 the two names of each control file of such a package fit, in format 0 they are alike
pub record IsConvertible (arches : Architectures) (w : World) : Type 0 where
  pub known : HasLong arches w → IsSome (w format_path) → is_one w ≡ true
  pub fit : is_one w ≡ true → (long short : Path) → AreTwo arches long short → IsFit (w long) (w short)
  pub alike : w format_path ≡ None → AreDoubles arches w

-- why names can't be brought to format 0: a format that isn't known, or another file at a name without the architecture, in format 1 or 0
abbrev pub IsOddFormat : Architectures → World → Path → Type 0
IsOddFormat arches w file = (file ≡ format_path) × IsSome (w format_path) × (is_one w ≡ false) × HasLong arches w

abbrev pub IsClash : Architectures → World → Path → Type 0
IsClash arches w file = (is_one w ≡ true) × ((short : Path) × AreTwo arches file short × IsSome (w file) × (IsFit (w file) (w short) → ⊥))

abbrev pub IsOther : Architectures → World → Path → Type 0
IsOther arches w file = (w format_path ≡ None) × ((short : Path) × AreTwo arches file short × IsSome (w file) × IsSome (w short) × (AreAlike (w file) (w short) → ⊥))

abbrev pub IsNamesFault : Architectures → World → Path → Type 0
IsNamesFault arches w file = IsOddFormat arches w file ⊎ (IsClash arches w file ⊎ IsOther arches w file)
