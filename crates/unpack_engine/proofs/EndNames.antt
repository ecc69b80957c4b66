-- The names of the records in the end of a unit.
use Rattle.std.proofs.Common.{◌≡◌, ◌≢◌, ◌⊎◌, ◌↔◌, inl, inr, ℕ, zero, ◌||◌, ◌&&◌, Bool, true, false, cond, List, [], ◌∷◌, ◌++◌, Option, Some, is_some, filter, map, refl, sym, ap, subst, ◌∙◌, arith, Contains}
use Rattle.std.specs.Str.{bytes_eq}
use Rattle.std.specs.List.{list_any}
use Rattle.std.proofs.lemmas.Bool.{false_from_ne_true, cond-true, cond-false}
use Rattle.std.proofs.lemmas.Cmp.{nat_list_eq_equiv}
use Rattle.std.proofs.lemmas.List.Elements.{Contains-append_cases, Contains-append_left, Contains-append_right}
use Rattle.std.proofs.lemmas.Slice.Eq.{bytes_eq-Decides}
use Rattle.host_core.specs.Paths.{Path}
use Rattle.host_core.proofs.Paths.{decide}
use Rattle.diversions.specs.Ways.{Ways}
use Rattle.status_records.specs.Records.{put_record, record_in}
use Rattle.status_records.specs.declared.record.Record.{Record}
use Rattle.status_records.proofs.Tables.{record_in-put_record}
use Rattle.unpack_commit.specs.Takeover.{losing_records, loses_conffile, put_records, without_conffiles}
use Rattle.held_administration.specs.Order.{record_names}
use Rattle.unpack_engine.proofs.ListEnds.{any_has, has_any, none_has}

-- a name is among those of the records exactly where it has a record

or_some : (b : Bool) (r : Record) (rest : Option Record) → (b || is_some rest) ≡ is_some (cond b (Some r) rest)
or_some true r rest = refl
or_some false r rest = refl

any_named : (table : List Record) (n : List ℕ) → list_any (bytes_eq n) (record_names table) ≡ is_some (record_in table n)
any_named [] n = refl
any_named (r ∷ rs) n = ap (λ b. bytes_eq n r.name || b) (any_named rs n) ∙ ap (λ b. b || is_some (record_in rs n)) (nat_list_eq_equiv.symm n r.name) ∙ or_some (bytes_eq r.name n) r (record_in rs n)

pub has_record : (table : List Record) (n : List ℕ) → Contains (record_names table) n → is_some (record_in table n) ≡ true
has_record table n has = sym (any_named table n) ∙ has_any (record_names table) n has

pub is_recorded : (table : List Record) (n : List ℕ) → is_some (record_in table n) ≡ true → Contains (record_names table) n
is_recorded table n is = any_has (record_names table) n (any_named table n ∙ is)

-- where a name has a record in both tables or in neither
pub both_recorded : (a b : List Record) (n : List ℕ) → is_some (record_in a n) ≡ is_some (record_in b n) → Contains (record_names a) n → Contains (record_names b) n
both_recorded a b n same has = is_recorded b n (sym same ∙ has_record a n has)

same_recorded : (a b : List Record) (n : List ℕ) → record_in a n ≡ record_in b n → Contains (record_names a) n → Contains (record_names b) n
same_recorded a b n same has = both_recorded a b n (ap is_some same) has

-- with the records that are noted

put_is : (r : Record) (table : List Record) (q : List ℕ) → record_in (put_record r table) q ≡ cond (bytes_eq r.name q) (Some r) (record_in table q)
put_is r table q = record_in-put_record r table q

put_named : (r : Record) (table : List Record) (q : List ℕ) → Contains (record_names (put_record r table)) q ↔ ((q ≡ r.name) ⊎ Contains (record_names table) q)
put_named r table q = (forth, back)
  where
    other : q ≢ r.name → record_in (put_record r table) q ≡ record_in table q
    other ne = put_is r table q ∙ cond-false (bytes_eq r.name q) (Some r) (record_in table q) (false_from_ne_true (bytes_eq r.name q) (λ t. ne (sym ((bytes_eq-Decides r.name q).0 t))))

    forth : Contains (record_names (put_record r table)) q → (q ≡ r.name) ⊎ Contains (record_names table) q
    forth has = elim (decide q r.name) [
      | inl same ↦ inl same
      | inr ne ↦ inr (same_recorded (put_record r table) table q (other ne) has)
    ]

    here : q ≡ r.name → Contains (record_names (put_record r table)) q
    here same = is_recorded (put_record r table) q (ap is_some (put_is r table q ∙ cond-true (bytes_eq r.name q) (Some r) (record_in table q) ((bytes_eq-Decides r.name q).1 (sym same))))

    back : (q ≡ r.name) ⊎ Contains (record_names table) q → Contains (record_names (put_record r table)) q
    back (inl same) = here same
    back (inr has) = elim (decide q r.name) [
      | inl same ↦ here same
      | inr ne ↦ same_recorded table (put_record r table) q (sym (other ne)) has
    ]

pub puts_named : (rs table : List Record) (q : List ℕ) → Contains (record_names (put_records rs table)) q → Contains (record_names rs) q ⊎ Contains (record_names table) q
puts_named [] table q has = inr has
puts_named (r ∷ rs) table q has = elim (puts_named rs (put_record r table) q has) [
  | inl later ↦ inl (Contains-append_right (r.name ∷ []) (record_names rs) q later)
  | inr there ↦ elim ((put_named r table q).0 there) [
    | inl same ↦ inl (zero, omega arith, sym same)
    | inr had ↦ inr had
  ]
]

pub puts_keep : (rs table : List Record) (q : List ℕ) → Contains (record_names table) q → Contains (record_names (put_records rs table)) q
puts_keep [] table q has = has
puts_keep (r ∷ rs) table q has = puts_keep rs (put_record r table) q ((put_named r table q).1 (inr has))

pub puts_last : (front : List Record) (r : Record) (table : List Record) → Contains (record_names (put_records (front ++ r ∷ []) table)) r.name
puts_last [] r table = (put_named r table r.name).1 (inl refl)
puts_last (x ∷ front) r table = puts_last front r (put_record x table)

-- names of some of the records

mapped_kept : (f : Record → Record) (keep : Record → Bool) → ((r : Record) → (f r).name ≡ r.name) → (rs : List Record) (q : List ℕ) → Contains (record_names (map f (filter keep rs))) q → Contains (record_names rs) q
mapped_kept f keep same [] q has = absurd (none_has q has)
mapped_kept f keep same (r ∷ rs) q has = by (keep r) (λ h. mapped_kept f keep same rs q h) has
  where
    by : (b : Bool) → (Contains (record_names (map f (filter keep rs))) q → Contains (record_names rs) q) → Contains (record_names (map f (cond b (r ∷ filter keep rs) (filter keep rs)))) q → Contains (record_names (r ∷ rs)) q
    by true rest there = elim (Contains-append_cases ((f r).name ∷ []) (record_names (map f (filter keep rs))) q there) [
      | inl one ↦ Contains-append_left (r.name ∷ []) (record_names rs) q (subst (λ n. Contains (n ∷ []) q) (same r) one)
      | inr later ↦ Contains-append_right (r.name ∷ []) (record_names rs) q (rest later)
    ]
    by false rest there = Contains-append_right (r.name ∷ []) (record_names rs) q (rest there)

pub losing_named : (ways : Ways) (places : List Path) (names : List (List ℕ)) (records : List Record) (q : List ℕ) → Contains (record_names (losing_records ways places names records)) q → Contains (record_names records) q
losing_named ways places names records q has = mapped_kept (without_conffiles ways places) (λ r. list_any (bytes_eq r.name) names && loses_conffile ways places r) (λ r. refl) records q has
