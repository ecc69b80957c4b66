-- How far a run of rows is.
use Rattle.std.specs.Prelude.{◌≡◌, ℕ, ◌+◌, ◌<◌, List, [], ◌∷◌, ◌++◌, Bool, true, false, Option, Some, None, get_or, length}
use Rattle.undo_rows.specs.declared.rows.Owner.{Owner}
use Rattle.undo_rows.specs.declared.rows.Row.{Row}
use Rattle.undo_rows.specs.declared.fall.StepFault.{StepFault}
use Rattle.undo_rows.specs.declared.fall.StepFault.TheVariants.{LinkParent, NoParent, DirInWay, Clash, DiversionTarget, Declined}
use Rattle.undo_rows.specs.declared.fall.Fall.{Fall}
use Rattle.undo_rows.specs.declared.failed.Failed.{Failed}

pub data Place : Type 0 where
  -- the rows below this one have succeeded
  Forward : (row : ℕ) → Place
  -- and what comes before the call of this row is done
  Ready : (row : ℕ) → Place
  -- it turned back there, the rows from this one on are undone, and these undo calls have failed
  Back : (row : ℕ) (fall : Fall) (failed : List Failed) → Place

-- a step of the files was declined: some were written, and put back
abbrev pub is_declined : Option StepFault → Bool
is_declined None = false
is_declined (Some (LinkParent path)) = false
is_declined (Some (NoParent path)) = false
is_declined (Some (DirInWay path)) = false
is_declined (Some (Clash path owner)) = false
is_declined (Some (DiversionTarget path diverter)) = false
is_declined (Some (Declined path)) = true

-- where a row of calls leads to, which has succeeded or not
abbrev pub called : ℕ → Bool → Place
called k true = Forward (k + 1)
called k false = Back (k + 1) (record { row = k; fault = None }) []

-- where the file row leads to
abbrev pub worked : ℕ → Option StepFault → Place
worked k None = Forward (k + 1)
worked k (Some fault) = Back (k + 1) (record { row = k; fault = Some fault }) []

-- where any row leads to
abbrev pub leads : ℕ → Option Fall → Place
leads k None = Forward (k + 1)
leads k (Some fall) = Back (k + 1) fall []

-- the failed undo calls, after one of this row that failed or didn't
abbrev pub blamed : Bool → ℕ → Owner → List Failed → List Failed
blamed true k owner failed = failed ++ record { row = k; owner = owner } ∷ []
blamed false k owner failed = failed

-- each row may stand where it does
abbrev pub Fit : (ℕ → Row → Type 0) → List Row → Type 0
Fit fits rows = (i : ℕ) (row : Row) → i < length rows → row ≡ get_or rows i row → fits i row
