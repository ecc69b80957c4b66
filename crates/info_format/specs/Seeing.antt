-- What is seen of `info`, where names are brought to format 0 in memory alone.
use Rattle.std.specs.Prelude.{IsSome}
use Rattle.host_core.specs.Paths.{Path}
use Rattle.host_core.specs.World.{World, IsLoose}
use Rattle.host_overlay.specs.Seen.{AreSources, seen}
use Rattle.host_overlay.specs.declared.seen_names.SeenNames.{SeenNames}
use Rattle.info_format.specs.Stage.{AreDone}
use Rattle.info_format.specs.Steps.{IsGiven, IsTaken}

-- What a question sees: the root's own world, where there is nothing to do about names or that can't be said, or the one that an
-- opening would make of it by the records.
abbrev pub IsSeenAs : World → World → Type 0
IsSeenAs w shown = AreDone w shown

-- it is seen through these names
pub record IsSeenThrough (w : World) (names : SeenNames) : Type 0 where
  pub shows : IsSeenAs w (seen names w)
  pub sources : AreSources names w

-- the same, as P says
pub record Shows (P : World → World → Type 0) (w : World) (names : SeenNames) : Type 0 where
  pub shows : P w (seen names w)
  pub sources : AreSources names w

-- a file or link with the first of two names has the second too
pub record HasSecond (long short : Path) (old new : World) : Type 0 where
  pub moves : IsGiven long short old new
  pub all : IsLoose (old long) → IsSome (new short)

-- the first went, where both are files or links
pub record HasNoFirst (long short : Path) (old new : World) : Type 0 where
  pub moves : IsTaken long short old new
  pub all : IsLoose (old short) → IsLoose (new long) → ⊥
