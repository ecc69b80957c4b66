-- Units of packages, one after another, each from what the one before it left.
use Rattle.std.specs.Prelude.{◌≡◌, ◌⊎◌, IsTrue, List, [], ◌∷◌, ◌++◌}
use Rattle.host_core.specs.Events.{Event, scripts_of}
use Rattle.host_core.specs.Host.{State, AtEachMomentOf}
use Rattle.host_core.specs.World.{World}
use Rattle.unit_reports.specs.Held.{Held}
use Rattle.unit_reports.specs.Units.{IsBroken, TellsNoPackage}
use Rattle.unit_reports.specs.declared.report.Unit.{Unit as AUnit}

-- What still waits for its turn is of a type L, which each command has of its own.

-- nothing was done yet
pub record IsStill (old : World) (so_far : List Event) (now : World) : Type 0 where
  pub same : now ≡ old
  pub quiet : scripts_of so_far ≡ []

-- at each moment behind some turns: nothing was done yet, or the next unit is under way
abbrev pub IsAmidNext : {L : Type 0} → (L → L → Held → World → List Event → World → Type 0) → L → L → Held → World → List Event → World → Type 0
IsAmidNext amid q later before old so_far now = IsStill old so_far now ⊎ amid q later before old so_far now

-- The unit that was broken off: it tells no package. Its calls are some of the `calls` of the next unit.
pub record IsBrokenNext {L : Type 0} (calls : L → L → Held → State → State → AUnit → Type 0) (q later : L) (before : Held) (s t : State) (u : AUnit) : Type 0 where
  pub broken : IsBroken u.reply
  pub untouched : TellsNoPackage u
  pub called : calls q later before s t u

-- what waited may have come to this, turn by turn, of which each goes on so
pub data GoesTo {L : Type 0} (goes : L → L → Type 0) (start : L) : L → Type 0 where
  here : GoesTo goes start start
  then : (q later : L) → GoesTo goes start q → goes q later → GoesTo goes start later

-- `turn q before u later after s t` is one finished unit: what waits and is held before it, and behind it
module _ {L : Type 0} (turn : L → Held → AUnit → L → Held → State → State → Type 0) where
  -- one unit after another
  pub data TurnsTo (start : L) (before : Held) (s : State) : List AUnit → L → Held → State → Type 0 where
    begun : TurnsTo start before s [] start before s
    turned : (us : List AUnit) (u : AUnit) (q later : L) (mid after : Held) (m t : State) → TurnsTo start before s us q mid m
        → turn q mid u later after m t → TurnsTo start before s (us ++ u ∷ []) later after t

  -- the units of some turns behind others
  pub record HaveTurned (start : L) (before : Held) (s : State) (first now : List AUnit) (q : L) (after : Held) (t : State) : Type 0 where
    pub turned : List AUnit
    pub are : now ≡ first ++ turned
    pub come : TurnsTo start before s turned q after t

  -- those of all turns, until it is over
  pub record HaveAllTurned (over : L → Held → Type 0) (start : L) (before : Held) (s : State) (first now : List AUnit) (after : Held) (t : State) : Type 0 where
    pub q : L
    pub turned : HaveTurned start before s first now q after t
    pub ended : over q after

  -- Turns up to a moment of the host. Since then only the next unit was under way, which was broken off: so what the units before
  -- it left stands.
  pub record HasStopped (amid : L → L → Held → World → List Event → World → Type 0) (called : L → L → Held → State → State → AUnit → Type 0) (start : L) (before : Held) (s : State) (first now : List AUnit) (later : L) (t : State)
      (u : AUnit) : Type 0 where
    pub q : L
    pub after : Held
    pub m : State
    pub turned : HaveTurned start before s first now q after m
    pub since : AtEachMomentOf (IsAmidNext amid q later after) m t
    pub broken : IsBrokenNext called q later after m t u

  -- At each moment of turns: some were taken on a host that was honest so far, and the next unit is under way. What waits behind
  -- that one is of those that `may`.
  pub record IsAmidTurns (amid : L → L → Held → World → List Event → World → Type 0) (may : L → Type 0) (start : L) (before : Held) (s : State) (so_far : List Event) (now : World) : Type 0 where
    pub us : List AUnit
    pub q : L
    pub later : L
    pub behind : may later
    pub after : Held
    pub m : State
    pub honest : IsTrue m.honest
    pub come : TurnsTo start before s us q after m
    pub front : List Event
    pub rest : List Event
    pub events : m.events ≡ s.events ++ front
    pub are : so_far ≡ front ++ rest
    pub next : IsAmidNext amid q later after m.world rest now
