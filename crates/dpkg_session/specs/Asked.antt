-- Which packages are to be configured.
use Rattle.std.specs.Prelude.{ℕ, List, Option, Some, None}
use Rattle.configure_run.specs.Asked.{waiting_names}
use Rattle.status_records.specs.declared.record.Record.{Record}

-- those that are named, or all that wait
abbrev pub names_asked : Option (List (List ℕ)) → List Record → List (List ℕ)
names_asked (Some names) records = names
names_asked None records = waiting_names records
