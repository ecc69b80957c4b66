-- One turn: what it answers, and what is known of it.
use Rattle.std.specs.Prelude.{◌≡◌, Bool, true, false, List, [], ◌∷◌, ◌++◌, Option, Some, None, Result, Ok, Err}
use Rattle.host_core.specs.Host.{State, NoFault}
use Rattle.undo_rows.specs.declared.rows.Called.{Called}
use Rattle.unit_reports.specs.Held.{Held}
use Rattle.unit_reports.specs.Units.{CountsReply}
use Rattle.unit_reports.specs.declared.report.Unit.{Unit as AUnit}
use Rattle.unit_runs.specs.Turns.{IsBrokenNext}

-- no turn was left: nothing was done, and nothing has changed but what waits
pub record IsOver {L : Type 0} (over : L → Held → Type 0) (q : L) (before after : Held) (s t : State) : Type 0 where
  pub ended : over q after
  pub held : after ≡ before
  pub here : t ≡ s

-- the unit that is finished, or none where no turn was left; or the unit that was broken off
abbrev pub IsTaken : {L : Type 0} → (L → Held → AUnit → L → Held → State → State → Type 0) → (L → L → Held → State → State → AUnit → Type 0) → (L → Held → Type 0) → L → L → Held → Held → State → State → Result (Option AUnit) AUnit → Type 0
IsTaken turn called over q later before after s t (Ok (Some u)) = turn q before u later after s t
IsTaken turn called over q later before after s t (Ok None) = IsOver over q before after s t
IsTaken turn called over q later before after s t (Err u) = IsBrokenNext called q later before s t u

-- the calls that the answer tells
abbrev pub calls_in : Result (Option AUnit) AUnit → List Called
calls_in (Ok (Some u)) = u.calls.items
calls_in (Ok None) = []
calls_in (Err u) = u.calls.items

-- a unit is broken off for a device fault exactly where the device failed
abbrev pub CountsTaken : State → State → Result (Option AUnit) AUnit → Type 0
CountsTaken old new (Ok found) = NoFault old new
CountsTaken old new (Err u) = CountsReply old new u.reply

-- one unit more
pub record AddsTurn {L : Type 0} (turn : L → Held → AUnit → L → Held → State → State → Type 0) (q later : L) (before after : Held) (s t : State) (old new : List AUnit) : Type 0 where
  pub unit : AUnit
  pub grown : new ≡ old ++ unit ∷ []
  pub is : turn q before unit later after s t

-- no turn was left, and no unit has come
pub record AddsNone {L : Type 0} (over : L → Held → Type 0) (q : L) (before after : Held) (s t : State) (old new : List AUnit) : Type 0 where
  pub same : new ≡ old
  pub is : IsOver over q before after s t

-- whether a turn was left: then its unit came to the others
abbrev pub GoesOn : {L : Type 0} → (L → Held → AUnit → L → Held → State → State → Type 0) → (L → Held → Type 0) → L → L → Held → Held → State → State → List AUnit → List AUnit → Bool → Type 0
GoesOn turn over q later before after s t old new true = AddsTurn turn q later before after s t old new
GoesOn turn over q later before after s t old new false = AddsNone over q before after s t old new
