-- Which owners have an undo call that failed.
use Rattle.std.specs.Prelude.{ℕ, Bool, true, false, ◌&&◌, nat_le, List}
use Rattle.std.specs.List.{list_any}
use Rattle.std.specs.Str.{bytes_eq}
use Rattle.undo_rows.specs.declared.rows.Owner.{Owner}
use Rattle.undo_rows.specs.declared.rows.Owner.TheVariants.{Package as OfPackage, Files as OfFiles}
use Rattle.undo_rows.specs.declared.failed.Failed.{Failed}

-- two owners are the same
abbrev pub is_same : Owner → Owner → Bool
is_same (OfPackage a) (OfPackage b) = bytes_eq a b
is_same (OfPackage a) OfFiles = false
is_same OfFiles (OfPackage b) = false
is_same OfFiles OfFiles = true

-- an undo call of this row or a later one failed, and is this owner's
abbrev pub has_failed : ℕ → Owner → List Failed → Bool
has_failed row owner failed = list_any (λ f. nat_le row f.row && is_same owner f.owner) failed
