-- What can be noted: a record of a package that isn't gone, or that a package has none.
use Rattle.std.specs.Prelude.{◌≡◌, false, Option, Some, None}
use Rattle.status_records.specs.Words.{is_not_installed}
use Rattle.unpack_rows.specs.declared.notes.Note.{Note}
use Rattle.unpack_rows.specs.declared.notes.Note.TheVariants.{Put, Drop}

abbrev pub IsNotable : Option Note → Type 0
IsNotable None = Unit {0}
IsNotable (Some (Put r)) = is_not_installed r.state ≡ false
IsNotable (Some (Drop name)) = Unit {0}
