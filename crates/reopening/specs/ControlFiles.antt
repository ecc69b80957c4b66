-- Control files of packages of which several may be installed, as dpkg reads them, by names with an architecture or without.
use Rattle.std.specs.Prelude.{◌≡◌, IsSome, List}
use Rattle.host_core.specs.Paths.{Path}
use Rattle.host_core.specs.World.{World}
use Rattle.info_format.specs.Format.{IsConvertible, reads}
use Rattle.info_format.specs.Names.{AreTwo, Architectures, architectures}
use Rattle.status_records.specs.declared.record.Record.{Record}

-- each that dpkg read it reads still, the same
abbrev pub KeepsReadings : Architectures → World → World → Type 0
KeepsReadings arches old now = (long short : Path) → AreTwo arches long short → IsSome (reads old long short) → ∥ reads now long short ≡ reads old long short ∥₁

-- and what could be brought to names without the architecture still can be
pub record KeepsControlFiles (table : List Record) (old now : World) : Type 0 where
  pub readings : KeepsReadings (architectures table) old now
  pub ready : IsConvertible (architectures table) old → ∥ IsConvertible (architectures table) now ∥₁
