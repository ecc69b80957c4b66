-- Which other packages have a row in an unpack, and why: first those that the incoming package breaks, then those that lose what
-- they depend on, then the conflicting ones (Policy 6.6, step 2; 7.3, 7.4).
use Rattle.std.specs.Prelude.{ℕ, cond, List, [], ◌∷◌, ◌++◌, Option, Some, None, map}
use Rattle.std.specs.List.{flat_map}
use Rattle.status_records.specs.Records.{record_in}
use Rattle.status_records.specs.declared.record.Record.{Record}
use Rattle.unpack_relations.specs.declared.beside.Beside.{Beside}
use Rattle.unpack_relations.specs.declared.beside.Dependent.{Dependent}
use Rattle.unpack_rows.specs.Kinds.{has_prerm}
use Rattle.in_favour_rows.specs.declared.entries.Entry.{Entry}
use Rattle.in_favour_rows.specs.declared.entries.Role.{Role}
use Rattle.in_favour_rows.specs.declared.entries.Role.TheVariants as role

-- a recorded package in this role
abbrev pub entry_of : Role → Option Record → List Entry
entry_of why None = []
entry_of why (Some r) = record { «record» = r; role = why } ∷ []

-- the record of a package whose prerm is to be called, since it is configured, or half so
abbrev pub with_prerm : Option Record → Option Record
with_prerm None = None
with_prerm (Some r) = cond (has_prerm r.state) (Some r) None

-- Policy 7.3: each is deconfigured
abbrev pub broken_entries : List Record → List (List ℕ) → List Entry
broken_entries table names = flat_map (λ q. entry_of role.Broken (record_in table q)) names

-- each is deconfigured, since a package that it depends on is removed
abbrev pub dependent_entries : List Record → List Dependent → List Entry
dependent_entries table dependents = flat_map (λ d. entry_of (role.Dependent d.removing d.version) (record_in table d.name)) dependents

-- Policy 7.4: each is removed
abbrev pub conflicting_entries : List Record → List (List ℕ) → List Entry
conflicting_entries table names = flat_map (λ q. entry_of role.Conflicting (with_prerm (record_in table q))) names

abbrev pub entries_of : List Record → Beside → List Entry
entries_of table b = broken_entries table b.broken ++ (dependent_entries table b.dependents.items ++ conflicting_entries table b.conflicting)

-- the records of these packages
abbrev pub entry_records : List Entry → List Record
entry_records entries = map (λ e. e.«record») entries
