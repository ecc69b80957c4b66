-- How each package ends (Policy 6.6): by its own record before, its own last row and its own failed undo.
use Rattle.std.specs.Prelude.{◌≡◌, ℕ, ◌+◌, ◌&&◌, Bool, true, false, cond, nat_le, List, [], ◌∷◌, Option, Some, length}
use Rattle.std.specs.Str.{bytes_eq}
use Rattle.undo_rows.specs.declared.fall.Fall.{Fall}
use Rattle.undo_rows.specs.declared.rows.Owner.TheVariants.{Package as OfPackage}
use Rattle.undo_rows.specs.declared.failed.Failed.{Failed}
use Rattle.undo_rows.specs.Place.{Place, Forward, Back}
use Rattle.undo_rows.specs.Transcripts.{Ended, Committed, Unwound}
use Rattle.status_records.specs.declared.record.Record.{Record}
use Rattle.status_records.specs.Records.{record_in, AreApart}
use Rattle.unpack_rows.specs.Kinds.{own_of, has_prerm, state_of}
use Rattle.unpack_rows.specs.Failures.{has_failed}
use Rattle.unpack_rows.specs.Notes.{half_configured, half_installed, unpacked}

-- each of these packages is recorded so
abbrev pub AreRecorded : List Record → List Record → Type 0
AreRecorded table [] = Unit {0}
AreRecorded table (r ∷ rs) = (record_in table r.name ≡ Some r) × AreRecorded table rs

-- the packages of the rows: the table has their records, and each is of a name of its own
pub record AreConcerned (start : Option Record) (incoming : Record) (others table : List Record) : Type 0 where
  pub own : record_in table (own_of start incoming).name ≡ start
  pub recorded : AreRecorded table others
  pub apart : AreApart (own_of start incoming ∷ others)

-- which undo of the package's own failed
pub data OwnUndo : Type 0 where
  NoneFailed : OwnUndo
  -- that of its old prerm
  OfPrerm : OwnUndo
  -- that of its new preinst or old postrm
  OfPreinstOrPostrm : OwnUndo

-- another package, whose row is this one: half-configured where its undo failed, else as before
abbrev pub other_end : ℕ → Record → Fall → List Failed → Record
other_end row r fall failed = cond (nat_le row fall.row && has_failed row (OfPackage r.name) failed) (half_configured r) r

-- the records of other packages, of which the first has this row; any other is as before
abbrev pub others_end : ℕ → List Record → Fall → List Failed → (List ℕ → Option Record) → List ℕ → Option Record
others_end row [] fall failed before q = before q
others_end row (r ∷ rs) fall failed before q =
    cond (bytes_eq r.name q) (Some (other_end row r fall failed)) (others_end (row + 1) rs fall failed before q)

-- where all rows succeeded each other package is half-configured
abbrev pub others_forward : List Record → (List ℕ → Option Record) → List ℕ → Option Record
others_forward [] before q = before q
others_forward (r ∷ rs) before q = cond (bytes_eq r.name q) (Some (half_configured r)) (others_forward rs before q)

-- where so many rows end: each has succeeded, or all that were tried are undone
abbrev pub end_of : ℕ → Ended → Place
end_of rows Committed = Forward rows
end_of rows (Unwound fall failed) = Back 0 fall failed

module _ (start : Option Record) (incoming : Record) where
  -- the package's name
  abbrev pub own_name : List ℕ
  own_name = (own_of start incoming).name

  -- the row of the first other package
  abbrev pub others_row : ℕ
  others_row = cond (has_prerm (state_of start)) 1 0

  -- the row of the new preinst
  abbrev pub preinst_row : List Record → ℕ
  preinst_row others = others_row + length others

  -- the rows went on to that of the new preinst
  abbrev pub is_preinst_reached : List Record → Fall → Bool
  is_preinst_reached others fall = nat_le (preinst_row others) fall.row

  -- which undo of the package's own failed, of those that were called
  abbrev pub own_undo : List Record → Fall → List Failed → OwnUndo
  own_undo others fall failed =
      cond (is_preinst_reached others fall && has_failed (preinst_row others) (OfPackage own_name) failed) OfPreinstOrPostrm
      (cond (has_prerm (state_of start) && has_failed 0 (OfPackage own_name) failed) OfPrerm NoneFailed)

  -- the table, by the undo that failed and whether the preinst's row was reached
  abbrev pub own_end_by : OwnUndo → Bool → Option Record
  own_end_by NoneFailed reached = start
  own_end_by OfPrerm false = Some (half_configured (own_of start incoming))
  own_end_by OfPrerm true = Some (unpacked (own_of start incoming))
  own_end_by OfPreinstOrPostrm reached = Some (half_installed (own_of start incoming))

  -- the package's own record after unwinding
  abbrev pub own_end : List Record → Fall → List Failed → Option Record
  own_end others fall failed = own_end_by (own_undo others fall failed) (is_preinst_reached others fall)

  -- the record of each name after unwinding
  abbrev pub unwound_end : List Record → List Record → Fall → List Failed → List ℕ → Option Record
  unwound_end others table fall failed q =
      cond (bytes_eq own_name q) (own_end others fall failed) (others_end others_row others fall failed (record_in table) q)

  -- the record of each name where all rows succeeded, before it is committed
  abbrev pub forward_end : List Record → List Record → List ℕ → Option Record
  forward_end others table q =
      cond (bytes_eq own_name q) (Some (half_installed (own_of start incoming))) (others_forward others (record_in table) q)

  -- the record of each name, however the rows ended
  abbrev pub end_record : List Record → List Record → Ended → List ℕ → Option Record
  end_record others table Committed q = forward_end others table q
  end_record others table (Unwound fall failed) q = unwound_end others table fall failed q
