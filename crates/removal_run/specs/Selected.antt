-- The packages that are to go, as it is recorded of them.
use Rattle.std.specs.Prelude.{ℕ, Bool, true, false, not, List, filter}
use Rattle.status_db.specs.Order.{names_of}
use Rattle.status_records.specs.declared.record.Record.{Record}
use Rattle.status_records.specs.declared.words.Want.{Want}
use Rattle.status_records.specs.declared.words.Want.TheVariants as want
use Rattle.removal_run.specs.Refusals.{is_config_files}

-- by what is wanted, and whether nothing but its configuration files is left
abbrev pub goes_as_wanted : Want → Bool → Bool
goes_as_wanted want.Unknown alone = false
goes_as_wanted want.Install alone = false
goes_as_wanted want.Hold alone = false
goes_as_wanted want.Deinstall alone = not alone
goes_as_wanted want.Purge alone = true

-- its purge is wanted, or its removal, and it isn't removed yet
abbrev pub goes_away : Record → Bool
goes_away r = goes_as_wanted r.want (is_config_files r.state)

-- the names of all that are to go, in name order
abbrev pub selected_names : List Record → List (List ℕ)
selected_names records = names_of (filter goes_away records)
