-- The sums of a package, kept by their paths.
use Rattle.std.specs.Prelude.{◌≡◌, ℕ, true, List, Option, Some, None, option_map, take}
use Rattle.hex.specs.Hex.{encode_lower}
use Rattle.host_core.specs.Paths.{Path}
use Rattle.name_tables.specs.Tables.{value_in}
use Rattle.verification.specs.Sums.{is_sum, sum_in, summed_path}
use Rattle.verification.specs.declared.sums.Sum.{Sum}

-- what a line says
pub record IsSumOf (line : List ℕ) (sum : Sum) : Type 0 where
  pub is : is_sum line ≡ true
  pub path : sum.path ≡ summed_path line
  pub digest : encode_lower sum.digest ≡ take 32 line

-- the digest that they give for a path
abbrev pub given : List Sum → Path → Option (List ℕ)
given sums path = option_map (λ s. encode_lower s.digest) (value_in (λ s. s.path) sums path)

-- they give what the lines give
abbrev pub AreSums : List (List ℕ) → List Sum → Type 0
AreSums lines sums = (path : Path) → given sums path ≡ sum_in lines path

-- the first of two, where there is one
abbrev pub first_of : Option (List ℕ) → Option (List ℕ) → Option (List ℕ)
first_of None other = other
first_of (Some digest) other = Some digest
