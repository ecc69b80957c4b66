-- Which kind a row has.
use Rattle.std.proofs.Common.{◌≡◌, ℕ, ◌<◌, zero, suc, false, List, [], ◌∷◌, length, get_or, refl, sym, ◌∙◌, arith}
use Rattle.undo_rows.specs.declared.rows.Owner.{Owner}
use Rattle.undo_rows.specs.declared.rows.Owner.TheVariants.{Files as OfFiles}
use Rattle.undo_rows.specs.declared.rows.Row.{Row}
use Rattle.unpack_rows.specs.ForwardRows.{Fits}
use Rattle.unpack_rows.specs.Kinds.{owner_of}
use Rattle.unpack_rows.specs.Stages.{is_files}
use Rattle.unpack_rows.specs.declared.kinds.RowKind.{RowKind}
use Rattle.unpack_rows.specs.declared.kinds.RowKind.TheVariants.{Prerm, Other, Preinst, Files, Postrm}
use Rattle.unpack_steps.specs.Task.{IsFileRow}

-- the row at an index
pub kind_at : (l : List RowKind) (i : ℕ) → i < length l → (k : RowKind) × (k ≡ get_or l i k)
kind_at [] i within = absurd (omega (arith, within))
kind_at (x ∷ l) zero within = (x, refl)
kind_at (x ∷ l) (suc i) within = kind_at l i (omega (arith, within))

pub not_files : (name : List ℕ) (k : RowKind) (o : Owner) → o ≡ owner_of name k → (o ≡ OfFiles → ⊥) → is_files k ≡ false
not_files name Prerm o e ne = refl
not_files name (Other r) o e ne = refl
not_files name Preinst o e ne = refl
not_files name Files o e ne = absurd (ne e)
not_files name Postrm o e ne = refl

files_kind : (name : List ℕ) (k : RowKind) → owner_of name k ≡ OfFiles → k ≡ Files
files_kind name Prerm e = absurd cc
files_kind name (Other r) e = absurd cc
files_kind name Preinst e = absurd cc
files_kind name Files e = refl
files_kind name Postrm e = absurd cc

-- the row of the files is of their kind
pub file_row : (name : List ℕ) (kinds : List RowKind) (i : ℕ) (row : Row) → Fits name kinds i row → row.owner ≡ OfFiles → IsFileRow kinds i
file_row name kinds i row fits is = (fits.0, λ k at. files_kind name k (sym (fits.1 k at) ∙ is))
