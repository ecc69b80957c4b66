-- What the reading of notes has to do with the greatest note of each name.
use Rattle.std.proofs.Common.{◌≡◌, ◌⊎◌, inl, inr, ℕ, zero, suc, ◌<◌, ◌≤◌, Bool, true, false, cond, List, Option, Some, None, refl, sym, ap, subst, ◌∙◌, arith}
use Rattle.std.specs.Str.{bytes_eq}
use Rattle.std.proofs.lemmas.Bool.{cases_lt}
use Rattle.status_records.specs.declared.record.Record.{Record}
use Rattle.status_db.specs.Notes.{Lookup, Note, entered, with_notes}

-- the entry of a name in the greatest note that has it
abbrev over : Option Note → List ℕ → Option (Option Record) → Option (Option Record)
over None q l = l
over (Some note) q l = cond (bytes_eq note.name q) (Some note.entry) l

abbrev last : (ℕ → Option Note) → ℕ → List ℕ → Option (Option Record)
last notes zero q = None
last notes (suc n) q = over (notes n) q (last notes n q)

abbrev pick : Option (Option Record) → Option Record → Option Record
pick None x = x
pick (Some e) x = e

entered_is : (note : Option Note) (t : Lookup) (q : List ℕ) (l : Option (Option Record)) (x : Option Record) → t q ≡ pick l x → entered note t q ≡ pick (over note q l) x
entered_is None t q l x is = is
entered_is (Some note) t q l x is = at (bytes_eq note.name q)
  where
    at : (b : Bool) → cond b note.entry (t q) ≡ pick (cond b (Some note.entry) l) x
    at true = refl
    at false = is

reading_is : (notes : ℕ → Option Note) (n : ℕ) (t : Lookup) (q : List ℕ) → with_notes notes n t q ≡ pick (last notes n q) (t q)
reading_is notes zero t q = refl
reading_is notes (suc n) t q = entered_is (notes n) (with_notes notes n t) q (last notes n q) (t q) (reading_is notes n t q)

-- where the notes below a number are gone

none_below : (later : ℕ → Option Note) (number : ℕ) → ((n : ℕ) → n < number → later n ≡ None) → (n : ℕ) → n ≤ number → (q : List ℕ) → last later n q ≡ None
none_below later number gone zero le q = refl
none_below later number gone (suc n) le q = ap (λ o. over o q (last later n q)) (gone n (omega (arith, le))) ∙ none_below later number gone n (omega (arith, le)) q

same_over : (note : Option Note) (q : List ℕ) (a b : Option (Option Record)) → (a ≡ None) ⊎ (a ≡ b) → (over note q a ≡ None) ⊎ (over note q a ≡ over note q b)
same_over None q a b is = is
same_over (Some note) q a b is = at (bytes_eq note.name q)
  where
    at : (t : Bool) → (cond t (Some note.entry) a ≡ None) ⊎ (cond t (Some note.entry) a ≡ cond t (Some note.entry) b)
    at true = inr refl
    at false = is

none_or_same : (notes later : ℕ → Option Note) (number : ℕ) → ((n : ℕ) → n < number → later n ≡ None) → ((n : ℕ) → number ≤ n → later n ≡ notes n)
    → (n : ℕ) (q : List ℕ) → (last later n q ≡ None) ⊎ (last later n q ≡ last notes n q)
none_or_same notes later number gone kept zero q = inl refl
none_or_same notes later number gone kept (suc n) q = elim (cases_lt n number) [
  | inl lt ↦ inl (none_below later number gone (suc n) (omega (arith, lt)) q)
  | inr le ↦ subst (λ o. (over o q (last later n q) ≡ None) ⊎ (over o q (last later n q) ≡ over (notes n) q (last notes n q))) (sym (kept n le))
      (same_over (notes n) q (last later n q) (last notes n q) (none_or_same notes later number gone kept n q))
]

picked_again : (a b : Option (Option Record)) (x : Option Record) → (a ≡ None) ⊎ (a ≡ b) → pick a (pick b x) ≡ pick b x
picked_again a b x (inl none) = ap (λ o. pick o (pick b x)) none
picked_again a None x (inr same) = ap (λ o. pick o x) same
picked_again a (Some e) x (inr same) = ap (λ o. pick o e) same

-- the notes that are left change nothing in a table that has them all
pub merged_table : (notes later : ℕ → Option Note) (number : ℕ) → ((n : ℕ) → n < number → later n ≡ None) → ((n : ℕ) → number ≤ n → later n ≡ notes n)
    → (n : ℕ) (t : Lookup) (q : List ℕ) → with_notes later n (with_notes notes n t) q ≡ with_notes notes n t q
merged_table notes later number gone kept n t q =
    reading_is later n (with_notes notes n t) q ∙ ap (pick (last later n q)) (reading_is notes n t q)
    ∙ picked_again (last later n q) (last notes n q) (t q) (none_or_same notes later number gone kept n q) ∙ sym (reading_is notes n t q)

-- the reading depends on the notes below the number alone
pub same_below : (notes later : ℕ → Option Note) (n : ℕ) → ((k : ℕ) → k < n → later k ≡ notes k) → (t : Lookup) → with_notes later n t ≡ with_notes notes n t
same_below notes later zero same t = refl
same_below notes later (suc n) same t =
    ap (λ o. entered o (with_notes later n t)) (same n (omega arith)) ∙ ap (entered (notes n)) (same_below notes later n (λ k lt. same k (omega (arith, lt))) t)

-- where no note has this number or a greater, the notes below are all
pub none_above : (notes : ℕ → Option Note) (number n : ℕ) → number ≤ n → ((k : ℕ) → number ≤ k → k < n → notes k ≡ None) → (t : Lookup) → with_notes notes n t ≡ with_notes notes number t
none_above notes number zero le none t = ap (λ k. with_notes notes k t) (let e : zero ≡ number = omega (arith, le) in e)
none_above notes number (suc n) le none t = elim (cases_lt n number) [
  | inl lt ↦ ap (λ k. with_notes notes k t) (let e : suc n ≡ number = omega (arith, le, lt) in e)
  | inr ge ↦ ap (λ o. entered o (with_notes notes n t)) (none n ge (omega arith)) ∙ none_above notes number n ge (λ k large small. none k large (omega (arith, small))) t
]

-- one note more, under a number greater than all others
pub greatest_last : (notes later : ℕ → Option Note) (number limit : ℕ) (note : Note) → ((n : ℕ) → n < number → later n ≡ notes n) → later number ≡ Some note
    → ((n : ℕ) → number ≤ n → n < limit → notes n ≡ None) → ((n : ℕ) → number < n → n < limit → later n ≡ None) → number < limit
    → (t : Lookup) → with_notes later limit t ≡ entered (Some note) (with_notes notes limit t)
greatest_last notes later number limit note below here none above lt t =
    none_above later (suc number) limit (omega (arith, lt)) (λ k large small. above k (omega (arith, large)) small) t
    ∙ ap (λ o. entered o (with_notes later number t)) here
    ∙ ap (entered (Some note)) (same_below notes later number below t ∙ sym (none_above notes number limit (omega (arith, lt)) none t))
