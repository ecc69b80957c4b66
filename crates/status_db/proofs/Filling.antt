-- A table that is filled from a list of records.
use Rattle.std.proofs.Common.{◌≡◌, ℕ, Bool, true, false, cond, List, [], ◌∷◌, ◌++◌, Option, Some, None, refl, sym, ap, subst, ◌∙◌}
use Rattle.std.specs.Str.{bytes_eq}
use Rattle.status_records.specs.declared.record.Record.{Record}
use Rattle.status_records.specs.Records.{AreStanding, record_in, put_record}
use Rattle.status_records.specs.Words.{is_not_installed}
use Rattle.status_records.proofs.Tables.{record_in-put_record}

-- the first, or else the second
abbrev pub over : Option Record → Option Record → Option Record
over None o = o
over (Some r) o = Some r

pub over_none : (o : Option Record) → over o None ≡ o
over_none None = refl
over_none (Some r) = refl

over_either : (b : Bool) (r : Record) (n o : Option Record) → cond b (Some r) (over n o) ≡ over (cond b (Some r) n) o
over_either true r n o = refl
over_either false r n o = refl

record_in-append : (xs ys : List Record) (name : List ℕ) → record_in (xs ++ ys) name ≡ over (record_in xs name) (record_in ys name)
record_in-append [] ys name = refl
record_in-append (x ∷ xs) ys name =
    ap (λ o. cond (bytes_eq x.name name) (Some x) o) (record_in-append xs ys name) ∙ over_either (bytes_eq x.name name) x (record_in xs name) (record_in ys name)

moved : (m : Option Record) (b : Bool) (r : Record) (o : Option Record) → over m (cond b (Some r) o) ≡ over (over m (cond b (Some r) None)) o
moved None true r o = refl
moved None false r o = refl
moved (Some x) b r o = refl

-- the last record goes from the list into the table
pub put_last : (left : List Record) (r : Record) (items table new : List Record) (name : List ℕ) (found : Option Record) → items ≡ left ++ r ∷ [] → new ≡ put_record r table → over (record_in items name) (record_in table name) ≡ found → over (record_in left name) (record_in new name) ≡ found
put_last left r items table new name found is put so_far =
    ap (over (record_in left name)) (ap (λ (l : List Record). record_in l name) put ∙ record_in-put_record r table name)
    ∙ moved (record_in left name) (bytes_eq r.name name) r (record_in table name)
    ∙ ap (λ o. over o (record_in table name)) (sym (record_in-append left (r ∷ []) name) ∙ ap (λ (l : List Record). record_in l name) (sym is))
    ∙ so_far

pub standing_front : (left : List Record) (r : Record) (items : List Record) → items ≡ left ++ r ∷ [] → AreStanding items → AreStanding left
standing_front left r items is all = front left (subst AreStanding is all)
  where
    front : (xs : List Record) → AreStanding (xs ++ r ∷ []) → AreStanding xs
    front [] all = tt
    front (x ∷ xs) all = (all.0, front xs all.1)

pub standing_last : (left : List Record) (r : Record) (items : List Record) → items ≡ left ++ r ∷ [] → AreStanding items → is_not_installed r.state ≡ false
standing_last left r items is all = back left (subst AreStanding is all)
  where
    back : (xs : List Record) → AreStanding (xs ++ r ∷ []) → is_not_installed r.state ≡ false
    back [] all = all.0
    back (x ∷ xs) all = back xs all.1
