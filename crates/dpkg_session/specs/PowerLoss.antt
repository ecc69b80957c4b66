-- What a loss of power leaves of a session.
use Rattle.std.specs.Prelude.{◌≡◌, ◌⊎◌, Bool, IsTrue, List, ◌++◌}
use Rattle.host_core.specs.Paths.{Path}
use Rattle.host_core.specs.World.{World}
use Rattle.host_core.specs.Events.{Event, changes_of}
use Rattle.host_core.specs.Host.{State}
use Rattle.host_core.specs.Loss.{IsLater, IsLikeOne, LosesSince, unwritten}

-- A loss of power at a moment from old to new leaves, on any paths that are kept and that no script of the session wrote, a
-- world that a stop at some moment of it could have left, where P holds; apart from the bytes at temporary names.
abbrev pub LosesLikeAStop : (List Event → World → Type 0) → State → State → Type 0
LosesLikeAStop P old new = (kept : Path → Bool) (begun : State) (session : List Event) (left : World)
    → IsTrue new.honest → new.events ≡ begun.events ++ session → LosesSince begun old new left
    → IsLikeOne (unwritten kept (changes_of session)) P left

-- A loss of power at any moment after it began is one during it, or one since it answered: then what it left stands whole.
abbrev pub StandsOnceAnswered : State → State → Type 0
StandsOnceAnswered old answered = (begun new : State) (left : World) → IsLater answered new → LosesSince begun old new left
    → LosesSince begun old answered left ⊎ LosesSince begun answered new left
