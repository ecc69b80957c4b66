-- Work in which directories take turns: between two barriers the names of one of them alone change.
use Rattle.std.specs.Prelude.{◌≡◌, Bool, true, false, List, ◌++◌, IsTrue}
use Rattle.host_core.specs.Paths.{Path}
use Rattle.host_core.specs.World.{World, SameOn}
use Rattle.host_core.specs.Events.{Event, follow_all}
use Rattle.host_core.specs.Host.{State}
use Rattle.host_core.specs.Loss.{HasNoBarrier, IsMoment}
use Rattle.scattered_losses.specs.Scattered.{is_in}

-- what stands at the names of an area that aren't in a directory is as before
abbrev pub KeepsOutside : (Path → Bool) → Path → World → World → Type 0
KeepsOutside area directory old now = (q : Path) → area q ≡ true → is_in directory q ≡ false → now q ≡ old q

-- so it is behind each front of these events
abbrev pub ChangesIn : (Path → Bool) → Path → World → List Event → Type 0
ChangesIn area directory w events = (front rest : List Event) → events ≡ front ++ rest → KeepsOutside area directory w (follow_all front w)

-- of the area's names those of one directory alone change between two barriers, and so since the last one at each moment
abbrev pub TakeTurns : (Path → Bool) → State → State → Type 0
TakeTurns area old new = (added moment durable late : List Event) → new.events ≡ old.events ++ added → IsMoment added moment → moment ≡ durable ++ late
    → HasNoBarrier late → (directory : Path) × ChangesIn area directory (follow_all durable old.world) late

-- where the host was honest
abbrev pub GoByTurns : (Path → Bool) → State → State → Type 0
GoByTurns area old new = IsTrue new.honest → TakeTurns area old new

-- since the last barrier nothing has changed at the area's names
abbrev pub IsQuiet : (Path → Bool) → State → State → Type 0
IsQuiet area old new = (durable late : List Event) → new.events ≡ old.events ++ (durable ++ late) → HasNoBarrier late
    → (front rest : List Event) → late ≡ front ++ rest → SameOn area (follow_all durable old.world) (follow_all (durable ++ front) old.world)
