-- How far the files are, by how far the rows are.
use Rattle.std.specs.Prelude.{Bool, true, false, cond, ◌||◌, List, [], ◌∷◌, Option, take}
use Rattle.undo_rows.specs.declared.fall.StepFault.{StepFault}
use Rattle.undo_rows.specs.Place.{Place, Forward, Ready, Back, is_declined}
use Rattle.unpack_rows.specs.declared.kinds.RowKind.{RowKind}
use Rattle.unpack_rows.specs.declared.kinds.RowKind.TheVariants.{Prerm, Other, Preinst, Files, Postrm}

-- what the file row and its undo have done
pub data Stage : Type 0 where
  -- the file row hasn't written
  Unwritten : Stage
  -- it has written all
  Wrote : Stage
  -- all that it has written is put back
  Restored : Stage

-- it is the row of the files
abbrev pub is_files : RowKind → Bool
is_files Prerm = false
is_files (Other r) = false
is_files Preinst = false
is_files Files = true
is_files Postrm = false

-- one of these rows is that of the files
abbrev pub has_files : List RowKind → Bool
has_files [] = false
has_files (k ∷ ks) = is_files k || has_files ks

-- the stage where the file row itself has failed: it has written nothing, unless a step was declined; then all is put back
abbrev pub failed_at : Option StepFault → Stage
failed_at fault = cond (is_declined fault) Restored Unwritten

-- the stage at a place
abbrev pub stage_of : List RowKind → Place → Stage
stage_of kinds (Forward k) = cond (has_files (take k kinds)) Wrote Unwritten
stage_of kinds (Ready k) = cond (has_files (take k kinds)) Wrote Unwritten
stage_of kinds (Back k fall failed) =
    cond (has_files (take fall.row kinds)) (cond (has_files (take k kinds)) Wrote Restored) (failed_at fall.fault)
