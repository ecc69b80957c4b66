-- An area without names.
use Rattle.std.specs.Prelude.{◌≡◌, Bool, true, false}
use Rattle.std.proofs.lemmas.Bool.{false≢true}
use Rattle.host_core.specs.Paths.{Path, is_own}

abbrev pub nowhere : Path → Bool
nowhere q = false

pub nowhere_own : (q : Path) → nowhere q ≡ true → is_own q ≡ true
nowhere_own q there = absurd (false≢true there)
