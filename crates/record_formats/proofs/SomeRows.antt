-- A table has lines where it has rows.
use Rattle.std.proofs.Common.{◌≡◌, ◌∙◌, ◌==◌, Bool, true, false, List, [], ◌∷◌, length, refl, sym}
use Rattle.record_formats.specs.Tables.{lines_text, rows_text}
use Rattle.record_formats.specs.declared.rows.Row.{Row}

pub some_rows : (rows : List Row) (empty : Bool) → empty ≡ (length rows == 0) → empty ≡ false → lines_text rows ≡ rows_text rows
some_rows [] empty is none = absurd (let e : true ≡ false = sym is ∙ none in cc)
some_rows (row ∷ rows) empty is none = refl
