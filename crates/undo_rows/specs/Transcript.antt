-- Which script calls may be made for a list of rows.
use Rattle.std.specs.Prelude.{◌≡◌, ◌≢◌, length, Bool, true, false, IsTrue, List, [], ◌∷◌, ◌++◌, Option, Some, None, Contains, map}
use Rattle.host_core.specs.Paths.{Path}
use Rattle.host_core.specs.World.{Change, Avoids}
use Rattle.host_core.specs.Events.{Ran, Cut, Failed}
use Rattle.host_core.specs.Host.{State, Same, Happens, Calls, CallsSome, calls}
use Rattle.host_core.specs.declared.call.Call.{Call}
use Rattle.host_core.specs.declared.call.Outcome.{Outcome}
use Rattle.undo_rows.specs.declared.rows.Called.{Called}
use Rattle.host_core.specs.Outcome.{is_success}
use Rattle.undo_rows.specs.declared.rows.Row.{Row}
use Rattle.undo_rows.specs.declared.rows.Owner.{Owner}
use Rattle.undo_rows.specs.declared.rows.Owner.TheVariants.{Files}
use Rattle.undo_rows.specs.declared.fall.StepFault.{StepFault}
use Rattle.undo_rows.specs.declared.fall.Fall.{Fall}

-- a call as it is told
abbrev pub told_of : Ran → Called
told_of t = record { call = t.call; outcome = t.outcome }

-- the told calls have grown by these
abbrev pub Tells : List Ran → List Called → List Called → Type 0
Tells ts old new = new ≡ old ++ map told_of ts

-- the told calls have grown by those by which the host's own list of calls has
abbrev pub TellsAll : State → State → List Called → List Called → Type 0
TellsAll old new told_old told_new = (ts : List Ran) × (calls new ≡ calls old ++ ts) × Tells ts told_old told_new

-- one call that ended so
abbrev pub IsOne : Call → Outcome → List Ran → Type 0
IsOne call outcome ts = (t : Ran) × (ts ≡ t ∷ []) × (t.call ≡ call) × (t.outcome ≡ outcome)

-- calls that have P were made and told
abbrev pub Makes : (Path → Bool) → (List Ran → Type 0) → State → State → List Called → List Called → Type 0
Makes kept P old new told_old told_new = CallsSome kept (λ ts. P ts × Tells ts told_old told_new) old new

-- the first of these calls is one of this
abbrev pub IsNext : Call → List Ran → Type 0
IsNext call more = (t : Ran) × (rest : List Ran) × (more ≡ t ∷ rest) × (t.call ≡ call)

-- How it was broken off where these calls could have come: nothing was done, or the device failed; of the next call it may not be
-- known how it ended, and what it changed.
pub data BrokeOff (kept : Path → Bool) (more : List Ran) (last new : State) : Type 0 where
  before : Same last new → BrokeOff kept more last new
  failed : Happens (Failed ∷ []) last new → BrokeOff kept more last new
  within : (call : Call) (change : Change) → IsNext call more → (IsTrue new.honest → Avoids kept change) → Happens (Cut call change ∷ Failed ∷ []) last new → BrokeOff kept more last new

-- Of some calls that have P the first were made and told, and no others; then it was broken off.
pub record Begins (kept : Path → Bool) (P : List Ran → Type 0) (old new : State) (told_old told_new : List Called) : Type 0 where
  pub ts : List Ran
  pub more : List Ran
  pub first_of : P (ts ++ more)
  pub last : State
  pub made : Calls kept ts old last
  pub rest : BrokeOff kept more last new
  pub tells : Tells ts told_old told_new

-- one call, however it ended
abbrev pub IsCall : Call → List Ran → Type 0
IsCall call ts = (outcome : Outcome) × IsOne call outcome ts

-- the calls of a row on the way forward, and whether it succeeded
pub data Tries (row : Row) : List Ran → Bool → Type 0 where
  absent : row.forward ≡ None → Tries row [] true
  done : (t : Ran) → row.forward ≡ Some t.call → is_success t.outcome ≡ true → Tries row (t ∷ []) true
  failed : (t : Ran) → row.forward ≡ Some t.call → is_success t.outcome ≡ false → row.fallback ≡ None → Tries row (t ∷ []) false
  fell_back : (t u : Ran) (ok : Bool) → row.forward ≡ Some t.call → is_success t.outcome ≡ false → row.fallback ≡ Some u.call → ok ≡ is_success u.outcome → Tries row (t ∷ u ∷ []) ok

-- the call that undoes a row, where these owners have a failed one, and which have one after it
pub data UndoesRow (row : Row) : List Owner → List Ran → List Owner → Type 0 where
  absent : (owners : List Owner) → row.undo ≡ None → UndoesRow row owners [] owners
  spared : (owners : List Owner) → Contains owners row.owner → UndoesRow row owners [] owners
  done : (owners : List Owner) (t : Ran) → row.undo ≡ Some t.call → ¬ Contains owners row.owner → is_success t.outcome ≡ true → UndoesRow row owners (t ∷ []) owners
  failed : (owners now : List Owner) (t : Ran) → row.undo ≡ Some t.call → ¬ Contains owners row.owner → is_success t.outcome ≡ false → now ≡ owners ++ row.owner ∷ [] → UndoesRow row owners (t ∷ []) now

-- the calls of a row on the way forward, whether it succeeds or not
abbrev pub TriesRow : Row → List Ran → Type 0
TriesRow row ts = (ok : Bool) × Tries row ts ok

-- the call that undoes a row, however it ends
abbrev pub UndoesAny : Row → List Owner → List Ran → Type 0
UndoesAny row owners ts = (now : List Owner) × UndoesRow row owners ts now

-- `gives past fault`: after all these calls the work of the file row has this step fault, or none
module _ (gives : List Ran → Option StepFault → Type 0) where
  -- the calls of a row after those of past, and whether it failed
  pub data Goes (past : List Ran) (row : Row) : List Ran → Option Fall → Type 0 where
    wrote : row.owner ≡ Files → gives past None → Goes past row [] None
    clashed : (fault : StepFault) (fall : Fall) → row.owner ≡ Files → gives past (Some fault) → fall.fault ≡ Some fault → Goes past row [] (Some fall)
    succeeded : (ts : List Ran) → row.owner ≢ Files → Tries row ts true → Goes past row ts None
    failed : (ts : List Ran) (fall : Fall) → row.owner ≢ Files → Tries row ts false → fall.fault ≡ None → Goes past row ts (Some fall)

  -- each of the rows succeeds
  abbrev pub Succeed : List Ran → List Row → List Ran → Type 0
  Succeed past [] ts = ts ≡ []
  Succeed past (row ∷ rows) ts = (own more : List Ran) × (ts ≡ own ++ more) × Goes past row own None × Succeed (past ++ own) rows more
