-- How rows are undone.
use Rattle.std.specs.Prelude.{◌≡◌, ◌≢◌, ℕ, ◌+◌, Bool, false, not, List, [], ◌∷◌, ◌++◌, Some, None, Contains, map}
use Rattle.host_core.specs.Events.{Ran}
use Rattle.host_core.specs.Outcome.{is_success}
use Rattle.undo_rows.specs.declared.rows.Row.{Row}
use Rattle.undo_rows.specs.declared.rows.Owner.{Owner}
use Rattle.undo_rows.specs.declared.rows.Owner.TheVariants.{Files}
use Rattle.undo_rows.specs.declared.failed.Failed.{Failed}
use Rattle.undo_rows.specs.Place.{blamed}

abbrev pub owners_of : List Failed → List Owner
owners_of failed = map (λ f. f.owner) failed

-- The undo of a row, where these undo calls have failed: its calls, and whether it fails. The files are put back without a call.
-- Of another row nothing is called where the script is absent, or where an undo call of its owner's has failed.
pub data Undoes (row : Row) (failed : List Failed) : List Ran → Bool → Type 0 where
  put_back : row.owner ≡ Files → Undoes row failed [] false
  absent : row.owner ≢ Files → row.undo ≡ None → Undoes row failed [] false
  spared : row.owner ≢ Files → Contains (owners_of failed) row.owner → Undoes row failed [] false
  called : (t : Ran) (fails : Bool) → row.owner ≢ Files → row.undo ≡ Some t.call → (Contains (owners_of failed) row.owner → ⊥) → fails ≡ not (is_success t.outcome) → Undoes row failed (t ∷ []) fails

-- the undo of the row of this number, and the failed undo calls after it
abbrev pub UndoesAt : ℕ → Row → List Failed → List Ran → List Failed → Type 0
UndoesAt index row before ts failed = (fails : Bool) × Undoes row before ts fails × (failed ≡ blamed fails index row.owner before)

-- the undo of these rows, the last of them first, of which the first has this number
abbrev pub UndoesAll : ℕ → List Row → List Ran → List Failed → Type 0
UndoesAll index [] ts failed = (ts ≡ []) × (failed ≡ [])
UndoesAll index (row ∷ rows) ts failed = (later own : List Ran) × (before : List Failed) × (ts ≡ later ++ own) × UndoesAll (index + 1) rows later before × UndoesAt index row before own failed
