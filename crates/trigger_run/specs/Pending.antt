-- The packages that have triggers to process (deb-triggers).
use Rattle.std.specs.Prelude.{ℕ, Bool, false, List, Option, Some, None, is_some}
use Rattle.status_records.specs.Records.{record_in}
use Rattle.status_records.specs.declared.record.Record.{Record}

-- names are pending: only of an installed package they are
abbrev pub is_pending : Record → Bool
is_pending r = is_some r.triggers.pending

-- a package without a record has none
abbrev pub is_pending_by : Option Record → Bool
is_pending_by None = false
is_pending_by (Some r) = is_pending r

-- a package of this name has triggers to process
abbrev pub is_pending_in : List Record → List ℕ → Bool
is_pending_in records name = is_pending_by (record_in records name)
