-- Records in the order of names, as any values with a name.
use Rattle.std.proofs.Common.{◌≡◌, ◌≢◌, ℕ, Bool, true, false, cond, not, List, [], ◌∷◌, Option, Some, None, refl, sym, ap, subst, ◌∙◌}
use Rattle.std.specs.Str.{bytes_eq}
use Rattle.std.specs.Ordering.{nat_cmp, is_lt, ordering_reverse}
use Rattle.std.specs.Cmp.Lexicographic.{slice_cmp}
use Rattle.std.specs.declared.cmp.Ordering.{Ordering}
use Rattle.std.specs.declared.cmp.Ordering.TheVariants.{Less, Equal, Greater}
use Rattle.std.proofs.lemmas.Bool.{true≢false}
use Rattle.std.proofs.lemmas.Cmp.{nat_list_cmp_total}
use Rattle.std.proofs.lemmas.Map.Lookups.{exact_bytes}
use Rattle.std.proofs.lemmas.Slice.Eq.{bytes_eq-Decides}
use Rattle.name_tables.specs.Tables.{value_in, place_value, put_value}
pub use Rattle.name_tables.proofs.Names.{before_differs}
use Rattle.name_tables.proofs.Names.{differs}
use Rattle.name_tables.proofs.Ordered as values
use Rattle.status_records.specs.declared.record.Record.{Record}
use Rattle.status_db.specs.Order.{IsBefore, IsBeforeAll, AreInOrder, name_of}
use Rattle.status_records.specs.Records.{record_in, drop_record, place_record, put_record, IsWithout, AreApart, AreStanding, standing}
use Rattle.status_records.specs.Words.{is_not_installed}
use Rattle.status_records.proofs.Tables.{found_here, passed_over}

-- the words for records are those for values with a name

pub record_is : (rs : List Record) (name : List ℕ) → value_in name_of rs name ≡ record_in rs name
record_is [] name = refl
record_is (r ∷ rs) name = ap (λ (o : Option Record). cond (bytes_eq r.name name) (Some r) o) (record_is rs name)

placed_is : (r : Record) (rs : List Record) → place_value name_of r rs ≡ place_record r rs
placed_is r [] = refl
placed_is r (x ∷ xs) = ap (λ (l : List Record). cond (is_lt (slice_cmp nat_cmp x.name r.name)) (x ∷ l) (r ∷ x ∷ xs)) (placed_is r xs)

pub put_is : (r : Record) (rs : List Record) → put_value name_of r rs ≡ put_record r rs
put_is r rs = placed_is r (drop_record r.name rs)

pub no_record : (name : List ℕ) (rs : List Record) → IsBeforeAll name rs → record_in rs name ≡ None
no_record name rs all = sym (record_is rs name) ∙ values.no_value name_of name rs all

-- what a table keeps

pub dropped_order : (name : List ℕ) (rs : List Record) → AreInOrder rs → AreInOrder (drop_record name rs)
dropped_order name rs order = values.dropped_order name_of name rs order

pub put_order : (r : Record) (rs : List Record) → AreInOrder rs → AreInOrder (put_record r rs)
put_order r rs order = subst AreInOrder (put_is r rs) (values.put_order name_of r rs order)

pub dropped_standing : (name : List ℕ) (rs : List Record) → AreStanding rs → AreStanding (drop_record name rs)
dropped_standing name rs all = values.all_left name_of (λ r. is_not_installed r.state ≡ false) name rs all

pub put_standing : (r : Record) (rs : List Record) → is_not_installed r.state ≡ false → AreStanding rs → AreStanding (put_record r rs)
put_standing r rs here all = subst AreStanding (put_is r rs) (values.all_put name_of (λ s. is_not_installed s.state ≡ false) r rs here all)

-- names differ in a table in order
pub order_apart : (rs : List Record) → AreInOrder rs → AreApart rs
order_apart [] order = tt
order_apart (r ∷ rs) order = (without r.name rs order.0, order_apart rs order.1)
  where
    without : (name : List ℕ) (xs : List Record) → IsBeforeAll name xs → IsWithout name xs
    without name [] all = tt
    without name (x ∷ xs) all = (differs x.name name (λ e. before_differs name x.name all.0 (sym e)), without name xs all.1)

-- all of them stand

pub standing_same : (rs : List Record) → AreStanding rs → standing rs ≡ rs
standing_same [] all = refl
standing_same (r ∷ rs) all = ap (λ b. cond (not b) (r ∷ standing rs) (standing rs)) all.0 ∙ ap (λ (l : List Record). r ∷ l) (standing_same rs all.1)

stand : (rs : List Record) → AreStanding (standing rs)
stand [] = tt
stand (r ∷ rs) = by (is_not_installed r.state) refl (stand rs)
  where
    by : (b : Bool) → is_not_installed r.state ≡ b → AreStanding (standing rs) → AreStanding (cond (not b) (r ∷ standing rs) (standing rs))
    by true e rest = rest
    by false e rest = (e, rest)

pub same_standing : (rs : List Record) → standing rs ≡ rs → AreStanding rs
same_standing rs e = subst AreStanding e (stand rs)

-- tables in order with the same look-ups are one

none_some : (r : Record) → None ≡ Some r → ⊥
none_some r e = cc e

first_same : (x y : Record) (xs ys : List Record) → AreInOrder (x ∷ xs) → AreInOrder (y ∷ ys) → ((q : List ℕ) → record_in (x ∷ xs) q ≡ record_in (y ∷ ys) q) → x.name ≡ y.name
first_same x y xs ys first second same = at (slice_cmp nat_cmp x.name y.name) refl
  where
    at : (o : Ordering) → slice_cmp nat_cmp x.name y.name ≡ o → x.name ≡ y.name
    at Less e = absurd (none_some x (sym (no_record x.name (y ∷ ys) (e, values.before_all_then name_of x.name y.name ys e second.0)) ∙ sym (same x.name) ∙ found_here xs x x.name refl))
    at Equal e = exact_bytes x.name y.name e
    at Greater e =
        let less : IsBefore y.name x.name = nat_list_cmp_total.antisymm y.name x.name ∙ ap ordering_reverse e in
        absurd (none_some y (sym (no_record y.name (x ∷ xs) (less, values.before_all_then name_of y.name x.name xs less first.0)) ∙ same y.name ∙ found_here ys y y.name refl))

rest_same : (x y : Record) (xs ys : List Record) → AreInOrder (x ∷ xs) → AreInOrder (y ∷ ys) → x.name ≡ y.name → ((q : List ℕ) → record_in (x ∷ xs) q ≡ record_in (y ∷ ys) q) → (q : List ℕ) → record_in xs q ≡ record_in ys q
rest_same x y xs ys first second e same q = at (bytes_eq x.name q) refl
  where
    at : (b : Bool) → bytes_eq x.name q ≡ b → record_in xs q ≡ record_in ys q
    at true is =
        let here = (bytes_eq-Decides x.name q).0 is in
        no_record q xs (subst (λ (n : List ℕ). IsBeforeAll n xs) here first.0) ∙ sym (no_record q ys (subst (λ (n : List ℕ). IsBeforeAll n ys) (sym e ∙ here) second.0))
    at false is =
        let ne : x.name ≢ q = λ s. absurd (true≢false (sym ((bytes_eq-Decides x.name q).1 s) ∙ is)) in
        sym (passed_over xs x q ne) ∙ same q ∙ passed_over ys y q (λ s. ne (e ∙ s))

some_same : (x y : Record) → Some x ≡ Some y → x ≡ y
some_same x y e = cc e

pub one_table : (a b : List Record) → AreInOrder a → AreInOrder b → ((q : List ℕ) → record_in a q ≡ record_in b q) → a ≡ b
one_table [] [] first second same = refl
one_table [] (y ∷ ys) first second same = absurd (none_some y (same y.name ∙ found_here ys y y.name refl))
one_table (x ∷ xs) [] first second same = absurd (none_some x (sym (same x.name) ∙ found_here xs x x.name refl))
one_table (x ∷ xs) (y ∷ ys) first second same =
    let e = first_same x y xs ys first second same in
    let here : x ≡ y = some_same x y (sym (found_here xs x x.name refl) ∙ same x.name ∙ found_here ys y x.name (sym e)) in
    (λ i. here i ∷ one_table xs ys first.1 second.1 (rest_same x y xs ys first second e same) i)
