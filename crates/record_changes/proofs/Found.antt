-- A record that is found in a table.
use Rattle.std.proofs.Common.{◌≡◌, ℕ, Bool, true, false, cond, not, List, [], ◌∷◌, Option, Some, None, is_some, refl, sym, ap, subst, ◌∙◌}
use Rattle.std.specs.Str.{bytes_eq}
use Rattle.std.proofs.lemmas.Slice.Eq.{bytes_eq-Decides}
use Rattle.status_records.specs.Records.{record_in, standing}
use Rattle.status_records.specs.Words.{is_not_installed}
use Rattle.status_records.specs.declared.record.Record.{Record}

abbrev or_else : Record → Option Record → Record
or_else r None = r
or_else r (Some other) = other

pub some_is : (x r : Record) → Some x ≡ Some r → x ≡ r
some_is x r e = ap (or_else x) e

-- it is of the name
pub found_name : (rs : List Record) (name : List ℕ) (r : Record) → record_in rs name ≡ Some r → r.name ≡ name
found_name [] name r e = absurd cc
found_name (x ∷ xs) name r e = by (bytes_eq x.name name) refl (found_name xs name r) e
  where
    by : (b : Bool) → bytes_eq x.name name ≡ b → (record_in xs name ≡ Some r → r.name ≡ name) → cond b (Some x) (record_in xs name) ≡ Some r → r.name ≡ name
    by true same rest is = sym (ap (λ (y : Record). y.name) (some_is x r is)) ∙ (bytes_eq-Decides x.name name).0 same
    by false other rest is = rest is

standing_one : (rs : List Record) (name : List ℕ) (r : Record) → record_in (standing rs) name ≡ Some r → is_not_installed r.state ≡ false
standing_one [] name r e = absurd cc
standing_one (x ∷ xs) name r e = by (is_not_installed x.state) refl (standing_one xs name r) e
  where
    here : (b : Bool) → is_not_installed x.state ≡ false → (record_in (standing xs) name ≡ Some r → is_not_installed r.state ≡ false) → cond b (Some x) (record_in (standing xs) name) ≡ Some r → is_not_installed r.state ≡ false
    here true stands rest is = subst (λ (y : Record). is_not_installed y.state ≡ false) (some_is x r is) stands
    here false stands rest is = rest is

    by : (b : Bool) → is_not_installed x.state ≡ b → (record_in (standing xs) name ≡ Some r → is_not_installed r.state ≡ false) → record_in (cond (not b) (x ∷ standing xs) (standing xs)) name ≡ Some r → is_not_installed r.state ≡ false
    by true gone rest is = rest is
    by false stands rest is = here (bytes_eq x.name name) stands rest is

-- its package isn't gone
pub found_stands : (rs : List Record) (name : List ℕ) (r : Record) → standing rs ≡ rs → record_in rs name ≡ Some r → is_not_installed r.state ≡ false
found_stands rs name r all found = standing_one rs name r (ap (λ (l : List Record). record_in l name) all ∙ found)

pub is_known : (rs : List Record) (name : List ℕ) (r : Record) → record_in rs name ≡ Some r → is_some (record_in rs r.name) ≡ true
is_known rs name r found = ap (λ (n : List ℕ). is_some (record_in rs n)) (found_name rs name r found) ∙ ap is_some found
