-- What becomes of a conffile (Policy 10.7.3, with this program's answers to its questions): a table of twelve rows.
use Rattle.std.specs.Prelude.{◌≡◌, ◌≢◌, ℕ, Bool, true, false, List, Option, None, IsSome}
use Rattle.conffiles.specs.declared.decisions.Changed.{Changed}
use Rattle.conffiles.specs.declared.decisions.Changed.TheVariants.{Keep, Install}
use Rattle.conffiles.specs.declared.decisions.ConfPolicy.{ConfPolicy}
use Rattle.conffiles.specs.declared.decisions.Decision.{Decision}
use Rattle.conffiles.specs.declared.decisions.Decision.TheVariants.{TakeNew, DropNew, NewToDist, BackupOld, Nothing, Delete, Rename}

-- the rows, in the table's order
pub data Row : Type 0 where
  Unrecorded : Row
  UnrecordedUpToDate : Row
  UnrecordedOther : Row
  Deleted : Row
  DeletedAndShippedAnew : Row
  UpToDate : Row
  ShippedAnew : Row
  Edited : Row
  EditedAndShippedAnew : Row
  FlaggedMissing : Row
  FlaggedUntouched : Row
  FlaggedEdited : Row

-- the case of each row: the digest recorded, that of the file now where one is there, and the shipped one, which a flagged path
-- hasn't
abbrev pub IsRow : Row → Option (List ℕ) → Option (List ℕ) → Option (List ℕ) → Type 0
IsRow Unrecorded recorded now shipped = (recorded ≡ None) × (now ≡ None) × IsSome shipped
IsRow UnrecordedUpToDate recorded now shipped = (recorded ≡ None) × IsSome now × (now ≡ shipped)
IsRow UnrecordedOther recorded now shipped = (recorded ≡ None) × IsSome now × IsSome shipped × (now ≢ shipped)
IsRow Deleted recorded now shipped = IsSome recorded × (now ≡ None) × (shipped ≡ recorded)
IsRow DeletedAndShippedAnew recorded now shipped = IsSome recorded × (now ≡ None) × IsSome shipped × (shipped ≢ recorded)
IsRow UpToDate recorded now shipped = IsSome recorded × IsSome now × (now ≡ shipped)
IsRow ShippedAnew recorded now shipped = IsSome recorded × (now ≡ recorded) × IsSome shipped × (shipped ≢ recorded)
IsRow Edited recorded now shipped = IsSome recorded × IsSome now × (now ≢ recorded) × (now ≢ shipped) × (shipped ≡ recorded)
IsRow EditedAndShippedAnew recorded now shipped =
    IsSome recorded × IsSome now × IsSome shipped × (now ≢ recorded) × (now ≢ shipped) × (shipped ≢ recorded)
IsRow FlaggedMissing recorded now shipped = (now ≡ None) × (shipped ≡ None)
IsRow FlaggedUntouched recorded now shipped = IsSome now × (now ≡ recorded) × (shipped ≡ None)
IsRow FlaggedEdited recorded now shipped = IsSome now × (now ≢ recorded) × (shipped ≡ None)

-- a row's case holds, and no other's
pub record IsOnlyRow (row : Row) (recorded now shipped : Option (List ℕ)) : Type 0 where
  pub is : IsRow row recorded now shipped
  pub only : (other : Row) → IsRow other recorded now shipped → other ≡ row

-- the question of who wins: the administrator's stays by default
abbrev pub answer_of : Changed → Decision
answer_of Keep = NewToDist
answer_of Install = BackupOld

-- a deleted conffile is wanted again where the package has another one now: if each missing one is, or the package wins
abbrev pub is_wanted_by : Changed → Bool → Bool
is_wanted_by Keep missing = missing
is_wanted_by Install missing = true

abbrev pub is_wanted_anew : ConfPolicy → Bool
is_wanted_anew policy = is_wanted_by policy.changed policy.missing

-- a deleted conffile stays deleted, unless it is wanted
abbrev pub restored_if : Bool → Decision
restored_if true = TakeNew
restored_if false = DropNew

-- what each row says
abbrev pub decision_of : Row → ConfPolicy → Decision
decision_of Unrecorded policy = TakeNew
decision_of UnrecordedUpToDate policy = DropNew
decision_of UnrecordedOther policy = answer_of policy.changed
decision_of Deleted policy = restored_if policy.missing
decision_of DeletedAndShippedAnew policy = restored_if (is_wanted_anew policy)
decision_of UpToDate policy = DropNew
decision_of ShippedAnew policy = TakeNew
decision_of Edited policy = DropNew
decision_of EditedAndShippedAnew policy = answer_of policy.changed
decision_of FlaggedMissing policy = Nothing
decision_of FlaggedUntouched policy = Delete
decision_of FlaggedEdited policy = Rename
