-- The architecture of a root, record after record.
use Rattle.std.proofs.Common.{◌≡◌, ℕ, zero, suc, ◌+◌, ◌<◌, ◌≤◌, List, [], ◌∷◌, Option, Some, None, length, get_or, drop, refl, sym, ap, subst, ◌∙◌, arith}
use Rattle.stated_relations.specs.Relations.{architecture_of, counted_as}
use Rattle.status_records.specs.declared.record.Record.{Record}
use Rattle.recorded_packages.specs.Packages.{root_architecture}

-- from this record on
at_record : (rs : List Record) (i : ℕ) (r : Record) → i < length rs → root_architecture (drop i rs) ≡ counted_as (root_architecture (drop (i + 1) rs)) (architecture_of (get_or rs i r).fields)
at_record [] i r lt = absurd (omega (arith, lt))
at_record (x ∷ xs) zero r lt = refl
at_record (x ∷ xs) (suc i) r lt =
    let later : i + 1 ≡ suc i = omega arith in
    let rest : suc i + 1 ≡ suc (i + 1) = omega arith in
    let P : ℕ → Type 0 = λ n. root_architecture (drop i xs) ≡ counted_as (root_architecture (drop n (x ∷ xs))) (architecture_of (get_or xs i r).fields) in
    subst P (sym rest) (at_record xs i r (omega (arith, lt)))

-- the record names its own
pub own_is_root : (rs : List Record) (i : ℕ) (r : Record) (own : List ℕ) → i < length rs → r ≡ get_or rs i r → architecture_of r.fields ≡ Some own → root_architecture rs ≡ root_architecture (drop i rs) → Some own ≡ root_architecture rs
own_is_root rs i r own lt is names before =
    sym (before ∙ (at_record rs i r lt ∙ ap (λ (o : Option (List ℕ)). counted_as (root_architecture (drop (i + 1) rs)) o) (ap (λ (x : Record). architecture_of x.fields) (sym is) ∙ names)))

-- it names none
pub none_is_later : (rs : List Record) (i : ℕ) (r : Record) → i < length rs → r ≡ get_or rs i r → architecture_of r.fields ≡ None → root_architecture rs ≡ root_architecture (drop i rs) → root_architecture rs ≡ root_architecture (drop (i + 1) rs)
none_is_later rs i r lt is names before =
    before ∙ (at_record rs i r lt ∙ ap (λ (o : Option (List ℕ)). counted_as (root_architecture (drop (i + 1) rs)) o) (ap (λ (x : Record). architecture_of x.fields) (sym is) ∙ names))

-- no record is left
pub none_at_end : (rs : List Record) (i : ℕ) → length rs ≤ i → root_architecture rs ≡ root_architecture (drop i rs) → ◌≡◌ {A = Option (List ℕ)} None (root_architecture rs)
none_at_end rs i le before = sym (before ∙ gone rs i le)
  where
    gone : (rs : List Record) (i : ℕ) → length rs ≤ i → root_architecture (drop i rs) ≡ None
    gone [] zero le = refl
    gone [] (suc i) le = refl
    gone (x ∷ xs) zero le = absurd (omega (arith, le))
    gone (x ∷ xs) (suc i) le = gone xs i (omega (arith, le))
