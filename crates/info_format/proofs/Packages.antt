-- The packages whose names have an architecture, by the records.
use Rattle.std.proofs.Common.{◌≡◌, ◌⊎◌, ◌&&◌, arith, inl, inr, ℕ, Bool, true, false, cond, List, [], ◌∷◌, ◌++◌, Option, Some, None, codes, refl, sym, ap, subst, ◌∙◌, Contains}
use Rattle.std.specs.Str.{bytes_eq}
use Rattle.std.proofs.lemmas.Bool.{and_parts, true≢false}
use Rattle.std.proofs.lemmas.List.Elements.{Contains-append_left, Contains-append_right, Contains-push, Contains-push_cases}
use Rattle.std.proofs.lemmas.Slice.Eq.{bytes_eq-Decides}
use Rattle.administration.proofs.Emptying.{no_element}
use Rattle.texts.specs.PackageNames.{is_package_name}
use Rattle.status_records.specs.Records.{record_in}
use Rattle.status_records.specs.declared.record.Record.{Record}
use Rattle.info_format.specs.Names.{Architectures, architecture_of, architectures, in_record, long_front, value_in}
use Rattle.info_format.specs.Naming.{AreQualified, IsQualified, IsQualifiedBy, IsQualifiedIn}
use Rattle.info_format.specs.declared.naming.Qualified.{Qualified}

pub in_first : {X : Type 0} (x : X) (xs : List X) → Contains (x ∷ xs) x
in_first x xs = Contains-append_left (x ∷ []) xs x (Contains-push [] x)

pub in_rest : {X : Type 0} (x y : X) (xs : List X) → Contains xs y → Contains (x ∷ xs) y
in_rest x y xs has = Contains-append_right (x ∷ []) xs y has

-- the record of a name is of that name
named_at : (b : Bool) (r : Record) (rs : List Record) (name : List ℕ) (found : Record) → bytes_eq r.name name ≡ b → Some found ≡ cond b (Some r) (record_in rs name) → (Some found ≡ record_in rs name → (found.name ≡ name) × Contains rs found) → (found.name ≡ name) × Contains (r ∷ rs) found
named_at true r rs name found e is rest =
    let same : found ≡ r = (let both : Some found ≡ Some r = is in cc both) in
    (ap (λ (x : Record). x.name) same ∙ (bytes_eq-Decides r.name name).0 e, subst (Contains (r ∷ rs)) (sym same) (in_first r rs))
named_at false r rs name found e is rest = let more = rest is in (more.0, in_rest r found rs more.1)

pub record_named : (table : List Record) (name : List ℕ) (found : Record) → Some found ≡ record_in table name → (found.name ≡ name) × Contains table found
record_named [] name found is = absurd (let e : Some found ≡ None = is in cc e)
record_named (r ∷ rs) name found is = named_at (bytes_eq r.name name) r rs name found refl is (record_named rs name found)

-- an architecture is of a record that has one
arch_at : (b : Bool) (r : Record) (architecture : List ℕ) → (bytes_eq (value_in (codes "multi-arch") r) (codes "same") && (is_package_name r.name && is_package_name (value_in (codes "architecture") r))) ≡ b → cond b (Some (value_in (codes "architecture") r)) None ≡ Some architecture
    → (is_package_name r.name ≡ true) × (is_package_name architecture ≡ true)
arch_at true r architecture e is =
    let parts = and_parts (bytes_eq (value_in (codes "multi-arch") r) (codes "same")) (is_package_name r.name && is_package_name (value_in (codes "architecture") r)) e in
    let names = and_parts (is_package_name r.name) (is_package_name (value_in (codes "architecture") r)) parts.1 in
    let same : value_in (codes "architecture") r ≡ architecture = (let both : Some (value_in (codes "architecture") r) ≡ Some architecture = is in cc both) in
    (names.0, ap is_package_name (sym same) ∙ names.1)
arch_at false r architecture e is = absurd (let both : None ≡ Some architecture = is in cc both)

arch_named : (r : Record) (architecture : List ℕ) → architecture_of r ≡ Some architecture → (is_package_name r.name ≡ true) × (is_package_name architecture ≡ true)
arch_named r architecture is = arch_at (bytes_eq (value_in (codes "multi-arch") r) (codes "same") && (is_package_name r.name && is_package_name (value_in (codes "architecture") r))) r architecture refl is

pub found_in : (table : List Record) (name : List ℕ) (r : Record) (found : Option Qualified) → Some r ≡ record_in table name → IsQualifiedBy r found → IsQualifiedIn table name found
found_in table name r None is by = ap in_record (sym is) ∙ by
found_in table name r (Some q) is by =
    let named = record_named table name r is in
    let at : q.name ≡ name = by.0 ∙ named.0 in
    let both = arch_named r by.1.0 by.1.1 in (
      at,
      record {
        architecture = by.1.0;
        of = ap (architectures table) at ∙ ap in_record (sym is) ∙ by.1.1;
        named = ap is_package_name by.0 ∙ both.0;
        called = both.1;
        front_is = by.1.2 ∙ ap (λ (n : List ℕ). long_front n by.1.0) (sym by.0);
      },
    )

pub none_in : (table : List Record) (name : List ℕ) → None ≡ record_in table name → IsQualifiedIn table name None
none_in table name is = ap in_record (sym is)

-- those of the first records
pub record AreFrom (arches : Architectures) (seen : List Record) (found : List Qualified) : Type 0 where
  pub sound : (q : Qualified) → Contains found q → IsQualified arches q
  pub whole : (r : Record) → Contains seen r → (architecture : List ℕ) → arches r.name ≡ Some architecture → Contains found (record { name = r.name; front = long_front r.name architecture })

pub from_start : (arches : Architectures) → AreFrom arches [] []
from_start arches = record { sound = λ q has. absurd (no_entry q has); whole = λ r has. absurd (no_entry r has) }
  where
    no_entry : {X : Type 0} (x : X) → Contains [] x → ⊥
    no_entry x has = absurd (omega (arith, has.1))

pub from_passed : (table : List Record) (seen : List Record) (r : Record) (found : List Qualified) → AreFrom (architectures table) seen found → IsQualifiedIn table r.name None → AreFrom (architectures table) (seen ++ r ∷ []) found
from_passed table seen r found before none = record {
  sound = before.sound;
  whole = λ s has architecture of. elim (Contains-push_cases seen r s has) [
    | inl earlier ↦ before.whole s earlier architecture of
    | inr same ↦ absurd (let e : None ≡ Some architecture = sym none ∙ ap (λ (x : Record). architectures table x.name) same ∙ of in cc e)
  ];
}

pub from_more : (table : List Record) (seen : List Record) (r : Record) (found : List Qualified) (q : Qualified) → AreFrom (architectures table) seen found → IsQualifiedIn table r.name (Some q) → AreFrom (architectures table) (seen ++ r ∷ []) (found ++ q ∷ [])
from_more table seen r found q before is = record {
  sound = λ p has. elim (Contains-push_cases found q p has) [ inl earlier ↦ before.sound p earlier | inr same ↦ subst (IsQualified (architectures table)) same is.1 ];
  whole = λ s has architecture of. elim (Contains-push_cases seen r s has) [
    | inl earlier ↦ Contains-append_left found (q ∷ []) _ (before.whole s earlier architecture of)
    | inr same ↦
        let here : architectures table r.name ≡ Some architecture = ap (λ (x : Record). architectures table x.name) same ∙ of in
        let arch : is.1.architecture ≡ architecture = (let both : Some is.1.architecture ≡ Some architecture = sym is.1.of ∙ ap (architectures table) is.0 ∙ here in cc both) in
        let name : q.name ≡ s.name = is.0 ∙ ap (λ (x : Record). x.name) same in
        let front : q.front ≡ long_front s.name architecture = is.1.front_is ∙ ap (λ (n : List ℕ). long_front n is.1.architecture) name ∙ ap (long_front s.name) arch in
        subst (Contains (found ++ q ∷ [])) (λ i. record { name = name i; front = front i }) (Contains-push found q)
  ];
}

pub all_qualified : (table : List Record) (found : List Qualified) → AreFrom (architectures table) table found → AreQualified (architectures table) found
all_qualified table found from = record {
  sound = from.sound;
  whole = λ name architecture of. at name architecture (record_in table name) refl of;
}
  where
    at : (name architecture : List ℕ) (r : Option Record) → r ≡ record_in table name → in_record (record_in table name) ≡ Some architecture → Contains found (record { name = name; front = long_front name architecture })
    at name architecture None is of = absurd (let e : None ≡ Some architecture = ap in_record is ∙ of in cc e)
    at name architecture (Some r) is of =
        let named = record_named table name r is in
        subst (λ (n : List ℕ). Contains found (record { name = n; front = long_front n architecture })) named.0 (from.whole r named.1 architecture (ap (architectures table) named.0 ∙ of))

-- where nothing was found
pub not_found : {X : Type 0} (P : Option X → Type 0) (o : Option X) → ((x : X) → o ≡ Some x → ⊥) → P o → P None
not_found P None not is = is
not_found P (Some x) not is = absurd (not x refl)
