-- The names of the records, once one was noted or went.
use Rattle.std.proofs.Common.{◌≡◌, ◌≢◌, ◌⊎◌, inl, inr, ℕ, ◌||◌, Bool, true, false, cond, List, [], ◌∷◌, Option, Some, None, is_some, refl, sym, ap, ◌∙◌, Contains}
use Rattle.std.specs.Str.{bytes_eq}
use Rattle.std.specs.List.{list_any}
use Rattle.std.proofs.lemmas.Bool.{true≢false, false_from_ne_true, cond-true, cond-false}
use Rattle.std.proofs.lemmas.Cmp.{nat_list_eq_equiv}
use Rattle.std.proofs.lemmas.Map.Views.{Contains-from_any, list_any-from_Contains}
use Rattle.std.proofs.lemmas.Slice.Eq.{bytes_eq-Decides}
use Rattle.host_core.proofs.Paths.{decide}
use Rattle.status_records.specs.Records.{drop_record, put_record, record_in}
use Rattle.status_records.specs.declared.record.Record.{Record}
use Rattle.status_records.proofs.Tables.{record_in-drop_record, record_in-put_record}
use Rattle.held_administration.specs.Order.{record_names}

-- a name is among these or not

any_has : (names : List (List ℕ)) (name : List ℕ) → list_any (bytes_eq name) names ≡ true → Contains names name
any_has names name is = Contains-from_any (λ x y e. (bytes_eq-Decides x y).0 e) name names is

has_any : (names : List (List ℕ)) (name : List ℕ) → Contains names name → list_any (bytes_eq name) names ≡ true
has_any names name has = list_any-from_Contains nat_list_eq_equiv name names has

pub among : (names : List (List ℕ)) (name : List ℕ) → Contains names name ⊎ (Contains names name → ⊥)
among names name = at (list_any (bytes_eq name) names) refl
  where
    at : (b : Bool) → list_any (bytes_eq name) names ≡ b → Contains names name ⊎ (Contains names name → ⊥)
    at true is = inl (any_has names name is)
    at false none = inr (λ has. true≢false (sym (has_any names name has) ∙ none))

-- it is among those of the records exactly where it has a record

or_some : (b : Bool) (r : Record) (rest : Option Record) → (b || is_some rest) ≡ is_some (cond b (Some r) rest)
or_some true r rest = refl
or_some false r rest = refl

any_named : (table : List Record) (n : List ℕ) → list_any (bytes_eq n) (record_names table) ≡ is_some (record_in table n)
any_named [] n = refl
any_named (r ∷ rs) n = ap (λ b. bytes_eq n r.name || b) (any_named rs n) ∙ ap (λ b. b || is_some (record_in rs n)) (nat_list_eq_equiv.symm n r.name) ∙ or_some (bytes_eq r.name n) r (record_in rs n)

has_record : (table : List Record) (n : List ℕ) → Contains (record_names table) n → is_some (record_in table n) ≡ true
has_record table n has = sym (any_named table n) ∙ has_any (record_names table) n has

pub is_recorded : (table : List Record) (n : List ℕ) → is_some (record_in table n) ≡ true → Contains (record_names table) n
is_recorded table n is = any_has (record_names table) n (any_named table n ∙ is)

same_recorded : (a b : List Record) (n : List ℕ) → record_in a n ≡ record_in b n → Contains (record_names a) n → Contains (record_names b) n
same_recorded a b n same has = is_recorded b n (ap is_some (sym same) ∙ has_record a n has)

differ : (a b : List ℕ) → a ≢ b → bytes_eq a b ≡ false
differ a b ne = false_from_ne_true (bytes_eq a b) (λ t. ne ((bytes_eq-Decides a b).0 t))

-- a record that was noted in the place of one of its name leaves the names

module _ (r : Record) (table : List Record) (known : is_some (record_in table r.name) ≡ true) (q : List ℕ) where
  other : q ≢ r.name → record_in (put_record r table) q ≡ record_in table q
  other ne = record_in-put_record r table q ∙ cond-false (bytes_eq r.name q) (Some r) (record_in table q) (differ r.name q (λ e. ne (sym e)))

  here : q ≡ r.name → Contains (record_names (put_record r table)) q
  here same = is_recorded (put_record r table) q
      (ap is_some (record_in-put_record r table q ∙ cond-true (bytes_eq r.name q) (Some r) (record_in table q) ((bytes_eq-Decides r.name q).1 (sym same))))

  pub put_had : Contains (record_names (put_record r table)) q → Contains (record_names table) q
  put_had has = elim (decide q r.name) [
    | inl same ↦ is_recorded table q (ap (λ (n : List ℕ). is_some (record_in table n)) same ∙ known)
    | inr ne ↦ same_recorded (put_record r table) table q (other ne) has
  ]

  pub put_has : Contains (record_names table) q → Contains (record_names (put_record r table)) q
  put_has has = elim (decide q r.name) [
    | inl same ↦ here same
    | inr ne ↦ same_recorded table (put_record r table) q (sym (other ne)) has
  ]

-- one that went leaves the others

module _ (name : List ℕ) (table : List Record) (q : List ℕ) where
  dropped_other : q ≢ name → record_in (drop_record name table) q ≡ record_in table q
  dropped_other ne = record_in-drop_record name table q ∙ cond-false (bytes_eq name q) None (record_in table q) (differ name q (λ e. ne (sym e)))

  pub dropped_has : q ≢ name → Contains (record_names table) q → Contains (record_names (drop_record name table)) q
  dropped_has ne has = same_recorded table (drop_record name table) q (sym (dropped_other ne)) has

  pub dropped_had : Contains (record_names (drop_record name table)) q → Contains (record_names table) q
  dropped_had has = elim (decide q name) [
    | inl same ↦ absurd (true≢false (sym (has_record (drop_record name table) q has) ∙ ap is_some (record_in-drop_record name table q ∙ cond-true (bytes_eq name q) None (record_in table q) ((bytes_eq-Decides name q).1 (sym same)))))
    | inr ne ↦ same_recorded (drop_record name table) table q (dropped_other ne) has
  ]
