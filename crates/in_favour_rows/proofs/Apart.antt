-- The packages that have rows are of names of their own.
use Rattle.std.proofs.Common.{◌≡◌, ℕ, Bool, true, false, cond, List, [], ◌∷◌, ◌++◌, Option, Some, None, map, refl, sym, ap, subst, ◌∙◌}
use Rattle.std.proofs.lemmas.List.{map-append}
use Rattle.status_records.specs.Records.{AreApart, IsWithout, record_in}
use Rattle.status_records.specs.declared.record.Record.{Record}
use Rattle.unpack_relations.specs.Checks as checks
use Rattle.unpack_relations.specs.Checks.{names_beside}
use Rattle.unpack_relations.specs.declared.beside.Beside.{Beside}
use Rattle.unpack_relations.specs.declared.beside.Dependent.{Dependent}
use Rattle.unpack_rows.specs.EndStates.{AreRecorded}
use Rattle.unpack_rows.specs.Kinds.{has_prerm}
use Rattle.in_favour_rows.specs.Entries.{broken_entries, conflicting_entries, dependent_entries, entries_of, entry_of, entry_records, with_prerm}
use Rattle.in_favour_rows.specs.declared.entries.Entry.{Entry}
use Rattle.in_favour_rows.specs.declared.entries.Role.{Role}
use Rattle.in_favour_rows.specs.declared.entries.Role.TheVariants as role
use Rattle.in_favour_rows.proofs.Among.{AreAmong, among_apart, among_both, among_recorded, among_without}

module _ (table : List Record) where
  -- one name more, with its record if there is one
  entered_more : (why : Role) (q : List ℕ) (names : List (List ℕ)) (rest : List Entry) (found : Option Record) → record_in table q ≡ found
      → AreAmong table names (entry_records rest) → AreAmong table (q ∷ names) (entry_records (entry_of why found ++ rest))
  entered_more why q names rest None is among = AreAmong.passed q names (entry_records rest) among
  entered_more why q names rest (Some r) is among = AreAmong.taken q names r (entry_records rest) is among

  -- or only where the package is configured, or half so
  with_prerm_more : (why : Role) (q : List ℕ) (names : List (List ℕ)) (rest : List Entry) (found : Option Record) → record_in table q ≡ found
      → AreAmong table names (entry_records rest) → AreAmong table (q ∷ names) (entry_records (entry_of why (with_prerm found) ++ rest))
  with_prerm_more why q names rest None is among = AreAmong.passed q names (entry_records rest) among
  with_prerm_more why q names rest (Some r) is among = by (has_prerm r.state)
    where
      by : (b : Bool) → AreAmong table (q ∷ names) (entry_records (entry_of why (cond b (Some r) None) ++ rest))
      by true = AreAmong.taken q names r (entry_records rest) is among
      by false = AreAmong.passed q names (entry_records rest) among

  broken_among : (names : List (List ℕ)) → AreAmong table names (entry_records (broken_entries table names))
  broken_among [] = AreAmong.none
  broken_among (q ∷ names) = entered_more role.Broken q names (broken_entries table names) (record_in table q) refl (broken_among names)

  dependents_among : (ds : List Dependent) → AreAmong table (map (λ d. d.name) ds) (entry_records (dependent_entries table ds))
  dependents_among [] = AreAmong.none
  dependents_among (d ∷ ds) =
      entered_more (role.Dependent d.removing d.version) d.name (map (λ (x : Dependent). x.name) ds) (dependent_entries table ds) (record_in table d.name) refl (dependents_among ds)

  conflicting_among : (names : List (List ℕ)) → AreAmong table names (entry_records (conflicting_entries table names))
  conflicting_among [] = AreAmong.none
  conflicting_among (q ∷ names) = with_prerm_more role.Conflicting q names (conflicting_entries table names) (record_in table q) refl (conflicting_among names)

  -- of what is beside an unpack
  module _ (b : Beside) where
    entries_among : AreAmong table (names_beside b) (entry_records (entries_of table b))
    entries_among =
        let name_of = λ (d : Dependent). d.name in
        let record_of = λ (e : Entry). e.«record» in
        let first = broken_entries table b.broken in
        let next = dependent_entries table b.dependents.items in
        let last = conflicting_entries table b.conflicting in
        subst (AreAmong table (names_beside b)) (sym (map-append record_of first (next ++ last) ∙ ap (λ (rs : List Record). entry_records first ++ rs) (map-append record_of next last)))
        (among_both table b.broken (map name_of b.dependents.items ++ b.conflicting) (entry_records first) (entry_records next ++ entry_records last) (broken_among b.broken)
        (among_both table (map name_of b.dependents.items) b.conflicting (entry_records next) (entry_records last) (dependents_among b.dependents.items) (conflicting_among b.conflicting)))

    module _ (rs : List Record) (are : rs ≡ entry_records (entries_of table b)) where
      among_beside : AreAmong table (names_beside b) rs
      among_beside = subst (AreAmong table (names_beside b)) (sym are) entries_among

      pub entries_recorded : AreRecorded table rs
      entries_recorded = among_recorded table (names_beside b) rs among_beside

      pub entries_unnamed : (name : List ℕ) → checks.AreApart name table b → IsWithout name rs
      entries_unnamed name apart = among_without table (names_beside b) rs name among_beside apart.distinct.0

      pub entries_apart : (name : List ℕ) → checks.AreApart name table b → AreApart rs
      entries_apart name apart = among_apart table (names_beside b) rs among_beside apart.distinct.1
