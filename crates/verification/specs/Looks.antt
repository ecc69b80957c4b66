-- Looks at places, one after another, and the text that they add.
use Rattle.std.specs.Prelude.{◌≡◌, ◌+◌, ℕ, Bool, List, ◌++◌, map, count_by, flat_map}
use Rattle.host_core.specs.Host.{Needs, State, faults}
use Rattle.host_core.specs.World.{World}

-- a look at the place of something, and whether the device failed at it
pub record Look (T : Type 0) : Type 0 where
  pub at : T
  pub failed : Bool

-- At the place of each of these one look was taken, in their order; the device failed as often as a look did, and text was
-- added by what the looks told.
pub record AddsEach {T : Type 0} (lines : World → Look T → List ℕ) (these : List T) (old new : State) (before after : List ℕ) : Type 0 where
  pub looks : List (Look T)
  pub each : map (λ l. l.at) looks ≡ these
  pub failed : faults new ≡ faults old + count_by (λ l. l.failed) looks
  pub told : Needs new (λ w. after ≡ before ++ flat_map (lines w) looks)
