-- What the answer of a turn says.
use Rattle.std.proofs.Common.{◌≡◌, List, [], ◌∷◌, ◌++◌, Option, Some, None, Result, Ok, Err, ap, subst, ◌∙◌}
use Rattle.host_core.specs.Host.{State}
use Rattle.undo_rows.proofs.Makes.{tells_then}
use Rattle.undo_rows.specs.Transcript.{TellsAll}
use Rattle.undo_rows.specs.declared.rows.Called.{Called}
use Rattle.unit_reports.proofs.Telling.{calls_more, tells_behind}
use Rattle.unit_reports.specs.Held.{Held}
use Rattle.unit_reports.specs.Units.{calls_of}
use Rattle.unit_reports.specs.declared.report.Unit.{Unit as AUnit}
use Rattle.unit_runs.specs.Taking.{IsTaken, calls_in}

-- a unit more
pub tells_unit : (b c : State) (us more : List AUnit) (u : AUnit) → more ≡ us ++ u ∷ [] → TellsAll b c [] u.calls.items → TellsAll b c (calls_of us) (calls_of more)
tells_unit b c us more u grown told = (told.0, told.1, ap calls_of grown ∙ calls_more us u ∙ ap (λ l. calls_of us ++ l) told.2)

-- the unit that was broken off, after the others
pub tells_last : (a b c : State) (old now own : List Called) → TellsAll a b old now → TellsAll b c [] own → TellsAll a c old (now ++ own)
tells_last a b c old now own first second = tells_then a b c old now (now ++ own) first (tells_behind b c now own second)

-- what is said of an answer, with more said where it is over
pub taken_so : {L : Type 0} (turn : L → Held → AUnit → L → Held → State → State → Type 0) (called : L → L → Held → State → State → AUnit → Type 0) (over also : L → Held → Type 0) (q later : L) (before after : Held) (s t : State) (result : Result (Option AUnit) AUnit)
    → (over q after → also q after) → IsTaken turn called over q later before after s t result → IsTaken turn called also q later before after s t result
taken_so turn called over also q later before after s t (Ok (Some u)) so is = is
taken_so turn called over also q later before after s t (Ok None) so is = record { ended = so is.ended; held = is.held; here = is.here }
taken_so turn called over also q later before after s t (Err u) so is = is

pub taken_unit : {L : Type 0} (turn : L → Held → AUnit → L → Held → State → State → Type 0) (called : L → L → Held → State → State → AUnit → Type 0) (over : L → Held → Type 0) (q later : L) (before after : Held) (s t : State) (found : Option AUnit) (u : AUnit) → found ≡ Some u
    → IsTaken turn called over q later before after s t (Ok found) → turn q before u later after s t
taken_unit turn called over q later before after s t found u same is = subst (λ (o : Option AUnit). IsTaken turn called over q later before after s t (Ok o)) same is

pub told_unit : (s t : State) (found : Option AUnit) (u : AUnit) → found ≡ Some u → TellsAll s t [] (calls_in (Ok found)) → TellsAll s t [] u.calls.items
told_unit s t found u same told = subst (λ (o : Option AUnit). TellsAll s t [] (calls_in (Ok o))) same told
