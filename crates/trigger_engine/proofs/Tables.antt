-- The record of a package among others.
use Rattle.std.proofs.Common.{◌≡◌, ◌≢◌, Bool, true, false, cond, List, [], ◌∷◌, Option, Some, None, ℕ, refl, sym, ap, ◌∙◌}
use Rattle.std.specs.Str.{bytes_eq}
use Rattle.std.proofs.Props.{props}
use Rattle.std.proofs.Math.Logic.{∥∥₁_elim}
use Rattle.std.proofs.lemmas.Bool.{false_from_ne_true, cond-true, cond-false}
use Rattle.std.proofs.lemmas.Slice.Eq.{bytes_eq-Decides}
use Rattle.texts.specs.PackageNames.{is_package_name}
use Rattle.status_records.specs.Records.{put_record, record_in}
use Rattle.status_records.specs.declared.record.Record.{Record}
use Rattle.status_records.proofs.Tables.{record_in-put_record}

pub named : (r : Record) → is_package_name r.name ≡ true
named r = ∥∥₁_elim r.writable (hlevel props) (λ known. known.named)

abbrev held : Record → Option Record → Record
held r None = r
held r (Some s) = s

pub one_record : (r s : Record) → Some r ≡ Some s → r ≡ s
one_record r s e = ap (held r) e

-- it has that name
pub is_named : (rs : List Record) (name : List ℕ) (r : Record) → record_in rs name ≡ Some r → r.name ≡ name
is_named [] name r found = cc
is_named (x ∷ rs) name r found = by (bytes_eq x.name name) refl (is_named rs name r) found
  where
    by : (b : Bool) → bytes_eq x.name name ≡ b → (record_in rs name ≡ Some r → r.name ≡ name) → cond b (Some x) (record_in rs name) ≡ Some r → r.name ≡ name
    by true same rest is = ap (λ (s : Record). s.name) (sym (one_record x r is)) ∙ (bytes_eq-Decides x.name name).0 same
    by false other rest is = rest is

-- once one of it is noted
pub put_own : (r : Record) (rs : List Record) (name : List ℕ) → r.name ≡ name → record_in (put_record r rs) name ≡ Some r
put_own r rs name own = record_in-put_record r rs name ∙ cond-true (bytes_eq r.name name) (Some r) (record_in rs name) ((bytes_eq-Decides r.name name).1 own)

pub put_other : (r : Record) (rs : List Record) (name q : List ℕ) → r.name ≡ name → q ≢ name → record_in (put_record r rs) q ≡ record_in rs q
put_other r rs name q own other =
    record_in-put_record r rs q ∙ cond-false (bytes_eq r.name q) (Some r) (record_in rs q) (false_from_ne_true (bytes_eq r.name q) (λ t. other (sym ((bytes_eq-Decides r.name q).0 t) ∙ own)))
