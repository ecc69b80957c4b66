-- What a loss of power leaves of a package's files.
use Rattle.std.specs.Prelude.{◌≡◌, Bool, true, false, List}
use Rattle.host_core.specs.Paths.{Path}
use Rattle.host_core.specs.World.{World}
use Rattle.host_core.specs.Unsynced.{is_temporary}
use Rattle.host_core.specs.Loss.{IsBlurred}
use Rattle.package_files.specs.Files.{Each, IsWhole, Misses}
use Rattle.package_files.specs.declared.work.Work.{Work}

-- Of files written from the world old, in work that began in the world mid: each target is whole, and what had stood there is at the
-- target or the backup; each kept path that is no name of theirs is as before, at a temporary name apart from its bytes.
pub record AreLeftWhole (kept : Path → Bool) (works : List Work) (old mid left : World) : Type 0 where
  pub each : Each (IsWhole old left) works
  pub rest : (q : Path) → kept q ≡ true → Each (λ x. Misses x q) works → is_temporary q ≡ false → left q ≡ mid q
  pub aside : (q : Path) → kept q ≡ true → Each (λ x. Misses x q) works → is_temporary q ≡ true → IsBlurred (mid q) (left q)
