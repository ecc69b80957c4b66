-- Work in which the names of an area change apart from all others: between two barriers the ones or the others, and not both.
use Rattle.std.specs.Prelude.{◌≡◌, ◌⊎◌, Bool, List, ◌++◌, IsTrue, Result, OnOk}
use Rattle.host_core.specs.Paths.{Path}
use Rattle.host_core.specs.World.{World, KeepsBut, SameOn}
use Rattle.host_core.specs.Events.{Event, follow_all}
use Rattle.host_core.specs.Host.{State}
use Rattle.host_core.specs.Loss.{HasNoBarrier, IsMoment}
use Rattle.scattered_losses.specs.Turns.{IsQuiet, TakeTurns}

-- behind each front of these events what stands in an area is as before them
abbrev pub KeepsOn : (Path → Bool) → World → List Event → Type 0
KeepsOn area w events = (front rest : List Event) → events ≡ front ++ rest → SameOn area w (follow_all front w)

-- or what stands outside it
abbrev pub KeepsBeside : (Path → Bool) → World → List Event → Type 0
KeepsBeside area w events = (front rest : List Event) → events ≡ front ++ rest → KeepsBut area w (follow_all front w)

-- between two barriers the area's names change, or others, and not both; so it is since the last one at each moment
abbrev pub GoApart : (Path → Bool) → State → State → Type 0
GoApart area old new = (added moment durable late : List Event) → new.events ≡ old.events ++ added → IsMoment added moment → moment ≡ durable ++ late
    → HasNoBarrier late → KeepsOn area (follow_all durable old.world) late ⊎ KeepsBeside area (follow_all durable old.world) late

-- at each moment before the first barrier of the work the area's names are as before it
abbrev pub WaitsForBarrier : (Path → Bool) → State → State → Type 0
WaitsForBarrier area old new = (added moment : List Event) → new.events ≡ old.events ++ added → IsMoment added moment → HasNoBarrier moment → SameOn area old.world (follow_all moment old.world)

-- where the host was honest
abbrev pub GoBehindBarrier : (Path → Bool) → State → State → Type 0
GoBehindBarrier area old new = IsTrue new.honest → WaitsForBarrier area old new

-- The area's names change apart from all others, of them those of one directory at a time, and behind a barrier: so too behind other
-- such work.
pub record IsApart (area : Path → Bool) (old new : State) : Type 0 where
  pub turns : TakeTurns area old new
  pub apart : GoApart area old new
  pub waits : WaitsForBarrier area old new

-- So it is where the host was honest; and where the work succeeds there is a barrier behind what it changed in the area.
abbrev pub WorksApart : {T E : Type 0} → Result T E → (Path → Bool) → State → State → Type 0
WorksApart result area old new = IsTrue new.honest → IsApart area old new × OnOk result (IsQuiet area old new)
