-- What is pending, as records tell of it (deb-triggers).
use Rattle.std.specs.Prelude.{ℕ, ◌==◌, Bool, not, List, filter, length, map}
use Rattle.std.specs.List.{flat_map}
use Rattle.status_records.specs.declared.record.Record.{Record}
use Rattle.record_changes.specs.Activated.{pending_text, words_of}
use Rattle.record_changes.specs.declared.pending.PendingTrigger.{PendingTrigger}

abbrev pub is_name : List ℕ → Bool
is_name word = not (length word == 0)

-- the names of a text, in their order: between two spaces stands nothing, which is none
abbrev pub names_in : List ℕ → List (List ℕ)
names_in text = filter is_name (words_of text)

abbrev pub pending_by : List ℕ → List ℕ → PendingTrigger
pending_by owner name = record { «package» = owner; trigger = name }

-- the triggers that are pending of a package, in the order of its record
abbrev pub pending_of : Record → List PendingTrigger
pending_of r = map (pending_by r.name) (names_in (pending_text r.triggers.pending))

-- of all packages, in the order of the records
abbrev pub pending_triggers : List Record → List PendingTrigger
pending_triggers records = flat_map pending_of records
