-- The record of a package among others.
use Rattle.std.proofs.Common.{◌≡◌, ◌≢◌, ℕ, Bool, true, false, cond, List, [], ◌∷◌, Option, Some, None, is_some, refl, sym, ap, ◌∙◌}
use Rattle.std.specs.Str.{bytes_eq}
use Rattle.std.proofs.Props.{props}
use Rattle.std.proofs.Math.Logic.{∥∥₁_elim}
use Rattle.std.proofs.lemmas.Bool.{false_from_ne_true, cond-true, cond-false}
use Rattle.std.proofs.lemmas.Slice.Eq.{bytes_eq-Decides}
use Rattle.texts.specs.PackageNames.{is_package_name}
use Rattle.file_lists.specs.Owners.{paths_of}
use Rattle.file_lists.specs.Writing.{with_list}
use Rattle.file_lists.specs.declared.paths.PackageList.{PackageList}
use Rattle.file_lists.proofs.TakingAll.{paths_with}
use Rattle.status_records.specs.Records.{drop_record, put_record, record_in}
use Rattle.status_records.specs.declared.record.Record.{Record}
use Rattle.status_records.proofs.Tables.{record_in-drop_record, record_in-put_record}

pub named : (r : Record) → is_package_name r.name ≡ true
named r = ∥∥₁_elim r.writable (hlevel props) (λ known. known.named)

abbrev held : Record → Option Record → Record
held r None = r
held r (Some s) = s

pub one_record : (r s : Record) → Some r ≡ Some s → r ≡ s
one_record r s e = ap (held r) e

-- it has that name
pub is_named : (rs : List Record) (name : List ℕ) (r : Record) → record_in rs name ≡ Some r → r.name ≡ name
is_named [] name r found = cc
is_named (x ∷ rs) name r found = by (bytes_eq x.name name) refl (is_named rs name r) found
  where
    by : (b : Bool) → bytes_eq x.name name ≡ b → (record_in rs name ≡ Some r → r.name ≡ name) → cond b (Some x) (record_in rs name) ≡ Some r → r.name ≡ name
    by true same rest is = ap (λ (s : Record). s.name) (sym (one_record x r is)) ∙ (bytes_eq-Decides x.name name).0 same
    by false other rest is = rest is

-- once one of it is noted
pub put_own : (r : Record) (rs : List Record) (name : List ℕ) → r.name ≡ name → record_in (put_record r rs) name ≡ Some r
put_own r rs name own = record_in-put_record r rs name ∙ cond-true (bytes_eq r.name name) (Some r) (record_in rs name) ((bytes_eq-Decides r.name name).1 own)

differs : (name q : List ℕ) → q ≢ name → bytes_eq name q ≡ false
differs name q other = false_from_ne_true (bytes_eq name q) (λ t. other (sym ((bytes_eq-Decides name q).0 t)))

pub put_other : (r : Record) (rs : List Record) (name q : List ℕ) → r.name ≡ name → q ≢ name → record_in (put_record r rs) q ≡ record_in rs q
put_other r rs name q own other =
    record_in-put_record r rs q ∙ cond-false (bytes_eq r.name q) (Some r) (record_in rs q) (ap (λ (n : List ℕ). bytes_eq n q) own ∙ differs name q other)

-- once it is gone
pub drop_own : (name : List ℕ) (rs : List Record) → record_in (drop_record name rs) name ≡ None
drop_own name rs = record_in-drop_record name rs name ∙ cond-true (bytes_eq name name) None (record_in rs name) ((bytes_eq-Decides name name).1 refl)

pub drop_other : (name : List ℕ) (rs : List Record) (q : List ℕ) → q ≢ name → record_in (drop_record name rs) q ≡ record_in rs q
drop_other name rs q other = record_in-drop_record name rs q ∙ cond-false (bytes_eq name q) None (record_in rs q) (differs name q other)

pub known_put : (r : Record) (rs : List Record) (name : List ℕ) → r.name ≡ name → is_some (record_in (put_record r rs) name) ≡ true
known_put r rs name own = ap is_some (put_own r rs name own)

-- a list that was written without a path has none
pub none_listed : (name : List ℕ) (ls : List PackageList) → paths_of (with_list name [] ls) name ≡ []
none_listed name ls = paths_with ls name name [] ∙ cond-true (bytes_eq name name) [] (paths_of ls name) ((bytes_eq-Decides name name).1 refl)
