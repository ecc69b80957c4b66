-- What packages still await, as records tell of it (deb-triggers).
use Rattle.std.specs.Prelude.{ℕ, ◌==◌, Bool, false, cond, List, [], ◌∷◌, Option, Some, None, filter, is_some}
use Rattle.std.specs.List.{before_first, flat_map, list_all}
use Rattle.status_records.specs.Records.{record_in}
use Rattle.status_records.specs.declared.record.Record.{Record}
use Rattle.record_changes.specs.Activated.{with_names}
use Rattle.record_changes.specs.Pending.{names_in}
use Rattle.record_changes.specs.declared.change.Change.TheVariants as change
use Rattle.record_changes.specs.declared.change.RecordChange.{RecordChange}

-- the package that is awaited: dpkg names some with their architecture, behind a colon
abbrev pub package_named : List ℕ → List ℕ
package_named name = before_first (λ byte. byte == 58) name

-- something is pending of it
abbrev pub is_pending_of : Option Record → Bool
is_pending_of None = false
is_pending_of (Some r) = is_some r.triggers.pending

-- something is pending of the package of a name, by the records
abbrev pub is_due : List Record → List ℕ → Bool
is_due records name = is_pending_of (record_in records (package_named name))

-- a text of names, where it has some
abbrev pub some_names : List ℕ → Option (List ℕ)
some_names [] = None
some_names (b ∷ bs) = Some (b ∷ bs)

-- the names of a text of which something is pending, each once
abbrev pub names_due : List Record → List ℕ → Option (List ℕ)
names_due records text = some_names (with_names [] (filter (is_due records) (names_in text)))

-- what is to be changed of the package of a name that awaits these, where of some nothing is pending
abbrev pub settled_of : List Record → List ℕ → Option (List ℕ) → List RecordChange
settled_of records name None = []
settled_of records name (Some text) =
    cond (list_all (is_due records) (names_in text)) [] ((record { name = name; change = change.Await (names_due records text) }) ∷ [])

-- of all packages, in the order of the records
abbrev pub settled_awaits : List Record → List RecordChange
settled_awaits records = flat_map (λ r. settled_of records r.name r.triggers.awaited) records
