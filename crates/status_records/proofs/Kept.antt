-- What is left of a paragraph without the fields of some names.
use Rattle.std.proofs.Common.{◌≡◌, ℕ, Bool, true, false, cond, not, List, [], ◌∷◌, ◌++◌, map, Bor, refl, sym, ap, subst, ◌∙◌, append_assoc, codes}
use Rattle.std.specs.Prelude.{filter}
use Rattle.std.specs.Str.{bytes_eq}
use Rattle.std.specs.List.{list_any, AllByRecursion}
use Rattle.std.proofs.Props.{props}
use Rattle.std.proofs.Math.Logic.{∥∥₁_elim, ∥∥₁_map}
use Rattle.texts.specs.PackageNames.{is_package_name}
use Rattle.std.proofs.lemmas.Bool.{or_from, or_parts, not-true}
use Rattle.std.proofs.lemmas.List.{append-nil, map-append}
use Rattle.std.proofs.lemmas.List.Elements.{filter-append}
use Rattle.std.proofs.lemmas.Cmp.{nat_list_eq_equiv}
use Rattle.control_fields.specs.Names.{lower, is_called, stands}
use Rattle.control_fields.specs.Spelling.{AreFields}
use Rattle.control_fields.specs.declared.field.Field.{Field}
use Rattle.status_records.specs.Fields.{own_names, is_one_of, fields_but, recorded_fields}
use Rattle.status_records.specs.declared.values.Kind.{Kind}
use Rattle.status_records.specs.declared.values.Kind.TheVariants.{PackageName, StatusWords, VersionText, Yes, ConffileLines, PendingLines, TriggerNames}
use Rattle.status_records.specs.Values.{kind_of, control_kind, IsReadableAs, IsReadable, IsReadableControl}
use Rattle.status_records.specs.Writable.{IsWritable}

-- a name that stands nowhere stands in no part

pub called_filter : (text : List ℕ) (keep : Field → Bool) (fs : List Field) → is_called text fs ≡ false → is_called text (filter keep fs) ≡ false
called_filter text keep [] e = refl
called_filter text keep (f ∷ fs) e =
    let parts = or_parts (bytes_eq (lower f.name) text) (is_called text fs) e in
    by (keep f) parts.0 (called_filter text keep fs parts.1)
  where
    by : (b : Bool) → bytes_eq (lower f.name) text ≡ false → is_called text (filter keep fs) ≡ false → is_called text (cond b (f ∷ filter keep fs) (filter keep fs)) ≡ false
    by true here rest = or_from (bytes_eq (lower f.name) text) (is_called text (filter keep fs)) here rest
    by false here rest = rest

pub called_append : (text : List ℕ) (xs ys : List Field) → is_called text xs ≡ false → is_called text ys ≡ false → is_called text (xs ++ ys) ≡ false
called_append text [] ys none rest = rest
called_append text (f ∷ xs) ys none rest =
    let parts = or_parts (bytes_eq (lower f.name) text) (is_called text xs) none in
    or_from (bytes_eq (lower f.name) text) (is_called text (xs ++ ys)) parts.0 (called_append text xs ys parts.1 rest)

pub called_parts : (text : List ℕ) (xs ys : List Field) → is_called text (xs ++ ys) ≡ false → (is_called text xs ≡ false) × (is_called text ys ≡ false)
called_parts text [] ys none = (refl, none)
called_parts text (f ∷ xs) ys none =
    let parts = or_parts (bytes_eq (lower f.name) text) (is_called text (xs ++ ys)) none in
    let rest = called_parts text xs ys parts.1 in
    (or_from (bytes_eq (lower f.name) text) (is_called text xs) parts.0 rest.0, rest.1)

pub new_among : (before xs : List Field) (f : Field) (ys : List Field) → AreFields before (xs ++ f ∷ ys) → stands f.name (before ++ xs) ≡ false
new_among before [] f ys are = subst (λ (l : List Field). stands f.name l ≡ false) (sym (append-nil before)) are.1
new_among before (g ∷ xs) f ys are =
    subst (λ (l : List Field). stands f.name l ≡ false) (append_assoc before (g ∷ []) xs) (new_among (before ++ g ∷ []) xs f ys are.2)

-- the step of a loop that copies the fields but some

filter_last : (keep : Field → Bool) (ys : List (Bor Field)) (x : Bor Field) (b : Bool) → keep x.now ≡ b → filter keep (map (λ b. b.now) (ys ++ x ∷ [])) ≡ filter keep (map (λ b. b.now) ys) ++ cond b (x.now ∷ []) []
filter_last keep ys x b e =
    ap (filter keep) (map-append (λ (b : Bor Field). b.now) ys (x ∷ [])) ∙ filter-append keep (map (λ b. b.now) ys) (x.now ∷ []) ∙ ap (λ y. filter keep (map (λ b. b.now) ys) ++ cond y (x.now ∷ []) []) e

pub kept_more_by : (keep : Field → Bool) (kept next : List Field) (ys : List (Bor Field)) (x : Bor Field) (f : Field) → keep x.now ≡ true → kept ≡ filter keep (map (λ b. b.now) ys) → next ≡ kept ++ f ∷ [] → f ≡ x.now → next ≡ filter keep (map (λ b. b.now) (ys ++ x ∷ []))
kept_more_by keep kept next ys x f stays e n same =
    n ∙ ap (λ (l : List Field). l ++ f ∷ []) e ∙ ap (λ (g : Field). filter keep (map (λ b. b.now) ys) ++ g ∷ []) same ∙ sym (filter_last keep ys x true stays)

pub kept_same_by : (keep : Field → Bool) (kept : List Field) (ys : List (Bor Field)) (x : Bor Field) → keep x.now ≡ false → kept ≡ filter keep (map (λ b. b.now) ys) → kept ≡ filter keep (map (λ b. b.now) (ys ++ x ∷ []))
kept_same_by keep kept ys x out e =
    e ∙ sym (append-nil (filter keep (map (λ b. b.now) ys))) ∙ sym (filter_last keep ys x false out)

pub kept_new_by : (keep : Field → Bool) (kept all left next : List Field) (ys : List (Bor Field)) (x : Bor Field) (f : Field) → ∥ AreFields [] all ∥₁ → kept ≡ filter keep (map (λ b. b.now) ys) → all ≡ map (λ b. b.now) ys ++ left → left ≡ x.now ∷ next → f ≡ x.now → stands f.name kept ≡ false
kept_new_by keep kept all left next ys x f are e walked l same = ∥∥₁_elim are (hlevel props)
    (λ known.
    let here = new_among [] (map (λ b. b.now) ys) x.now next (subst (AreFields []) (walked ∙ ap (λ (r : List Field). map (λ b. b.now) ys ++ r) l) known) in
    ap (stands f.name) e ∙ ap (λ (g : Field). stands g.name (filter keep (map (λ b. b.now) ys))) same
    ∙ called_filter (lower x.now.name) keep (map (λ b. b.now) ys) here)

-- without the fields of some names

pub kept_more : (names : List (List ℕ)) (kept next : List Field) (ys : List (Bor Field)) (x : Bor Field) (f : Field) → is_one_of names x.now ≡ false → kept ≡ fields_but names (map (λ b. b.now) ys) → next ≡ kept ++ f ∷ [] → f ≡ x.now → next ≡ fields_but names (map (λ b. b.now) (ys ++ x ∷ []))
kept_more names kept next ys x f out e n same = kept_more_by (λ g. not (is_one_of names g)) kept next ys x f (ap not out) e n same

pub kept_same : (names : List (List ℕ)) (kept : List Field) (ys : List (Bor Field)) (x : Bor Field) → is_one_of names x.now ≡ true → kept ≡ fields_but names (map (λ b. b.now) ys) → kept ≡ fields_but names (map (λ b. b.now) (ys ++ x ∷ []))
kept_same names kept ys x out e = kept_same_by (λ g. not (is_one_of names g)) kept ys x (ap not out) e

pub kept_new : (names : List (List ℕ)) (kept all left next : List Field) (ys : List (Bor Field)) (x : Bor Field) (f : Field) → ∥ AreFields [] all ∥₁ → kept ≡ fields_but names (map (λ b. b.now) ys) → all ≡ map (λ b. b.now) ys ++ left → left ≡ x.now ∷ next → f ≡ x.now → stands f.name kept ≡ false
kept_new names kept all left next ys x f are e walked l same = kept_new_by (λ g. not (is_one_of names g)) kept all left next ys x f are e walked l same

-- what is left can be written behind fields of the names that were left out

pub left_over : (keep : Field → Bool) (firsts : List Field) → ((f : Field) → keep f ≡ true → stands f.name firsts ≡ false) → (before fs : List Field) → AreFields before fs → AreFields (firsts ++ filter keep before) (filter keep fs)
left_over keep firsts apart before [] are = tt
left_over keep firsts apart before (f ∷ fs) are = by (keep f) refl (left_over keep firsts apart (before ++ f ∷ []) fs are.2)
  where
    by : (b : Bool) → keep f ≡ b → AreFields (firsts ++ filter keep (before ++ f ∷ [])) (filter keep fs) → AreFields (firsts ++ filter keep before) (cond b (f ∷ filter keep fs) (filter keep fs))
    by true e rest = (
      are.0,
      called_append (lower f.name) firsts (filter keep before) (apart f e) (called_filter (lower f.name) keep before are.1),
      subst (λ (l : List Field). AreFields l (filter keep fs))
          (ap (λ (l : List Field). firsts ++ l) (filter-append keep before (f ∷ []) ∙ ap (λ y. filter keep before ++ cond y (f ∷ []) []) e) ∙ sym (append_assoc firsts (filter keep before) (f ∷ []))) rest,
    )
    by false e rest = subst (λ (l : List Field). AreFields (firsts ++ l) (filter keep fs)) (filter-append keep before (f ∷ []) ∙ ap (λ y. filter keep before ++ cond y (f ∷ []) []) e ∙ append-nil (filter keep before)) rest

pub swapped : (a b : List ℕ) → bytes_eq a b ≡ false → bytes_eq b a ≡ false
swapped a b e = nat_list_eq_equiv.symm b a ∙ e

-- what a record keeps

pub recorded_written : (fs : List Field) → AreFields [] fs → AreFields [] (recorded_fields fs)
recorded_written fs are = left_over (λ f. not (is_one_of own_names f)) [] (λ f kept. refl) [] fs are

pub recorded_other : (fs : List Field) → AllByRecursion (λ f. is_one_of own_names f ≡ false) (recorded_fields fs)
recorded_other [] = tt
recorded_other (f ∷ fs) = by (is_one_of own_names f) refl (recorded_other fs)
  where
    by : (b : Bool) → is_one_of own_names f ≡ b → AllByRecursion (λ f. is_one_of own_names f ≡ false) (recorded_fields fs) → AllByRecursion (λ f. is_one_of own_names f ≡ false) (cond (not b) (f ∷ recorded_fields fs) (recorded_fields fs))
    by true e rest = rest
    by false e rest = (e, rest)

pub others_stay : (fs : List Field) → AllByRecursion (λ f. is_one_of own_names f ≡ false) fs → recorded_fields fs ≡ fs
others_stay [] all = refl
others_stay (f ∷ fs) all = ap (λ b. cond (not b) (f ∷ recorded_fields fs) (recorded_fields fs)) all.0 ∙ ap (λ (l : List Field). f ∷ l) (others_stay fs all.1)

-- what is left can be read

kept_by : (b : Bool) (f : Field) (rest : List Field) → (b ≡ true → IsReadable f) → AllByRecursion IsReadable rest → AllByRecursion IsReadable (cond b (f ∷ rest) rest)
kept_by true f rest here all = (here refl, all)
kept_by false f rest here all = all

kept_readable : (keep : Field → Bool) (fs : List Field) → AllByRecursion IsReadable fs → AllByRecursion IsReadable (filter keep fs)
kept_readable keep [] all = tt
kept_readable keep (f ∷ fs) all = kept_by (keep f) f (filter keep fs) (λ e. all.0) (kept_readable keep fs all.1)

pub other_kind : (l : List ℕ) → list_any (bytes_eq l) own_names ≡ false → kind_of l ≡ control_kind l
other_kind l out =
    let a = or_parts (bytes_eq l (codes "package")) _ out in
    let b = or_parts (bytes_eq l (codes "status")) _ a.1 in
    let c = or_parts (bytes_eq l (codes "version")) _ b.1 in
    let d = or_parts (bytes_eq l (codes "config-version")) _ c.1 in
    let e = or_parts (bytes_eq l (codes "removed-since")) _ d.1 in
    let f = or_parts (bytes_eq l (codes "conffiles")) _ e.1 in
    let g = or_parts (bytes_eq l (codes "new-conffiles")) _ f.1 in
    let h = or_parts (bytes_eq l (codes "triggers-pending")) _ g.1 in
    let i = or_parts (bytes_eq l (codes "triggers-awaited")) _ h.1 in
    ap (λ x. cond x PackageName (kind_but_package l)) a.0 ∙ ap (λ x. cond x StatusWords (kind_but_status l)) b.0 ∙ ap (λ x. cond x VersionText (kind_but_version l)) c.0
    ∙ ap (λ x. cond x VersionText (kind_but_earlier l)) d.0 ∙ ap (λ x. cond x Yes (kind_but_removed l)) e.0
    ∙ ap (λ x. cond x ConffileLines (kind_but_conffiles l)) f.0 ∙ ap (λ x. cond x PendingLines (kind_but_conffile_fields l)) g.0
    ∙ ap (λ x. cond x TriggerNames (kind_but_pending l)) h.0 ∙ ap (λ x. cond x TriggerNames (control_kind l)) i.0
  where
    kind_but_pending : List ℕ → Kind
    kind_but_pending l = cond (bytes_eq l (codes "triggers-awaited")) TriggerNames (control_kind l)

    kind_but_conffile_fields : List ℕ → Kind
    kind_but_conffile_fields l = cond (bytes_eq l (codes "triggers-pending")) TriggerNames (kind_but_pending l)

    kind_but_conffiles : List ℕ → Kind
    kind_but_conffiles l = cond (bytes_eq l (codes "new-conffiles")) PendingLines (kind_but_conffile_fields l)

    kind_but_removed : List ℕ → Kind
    kind_but_removed l = cond (bytes_eq l (codes "conffiles")) ConffileLines (kind_but_conffiles l)

    kind_but_earlier : List ℕ → Kind
    kind_but_earlier l = cond (bytes_eq l (codes "removed-since")) Yes (kind_but_removed l)

    kind_but_version : List ℕ → Kind
    kind_but_version l = cond (bytes_eq l (codes "config-version")) VersionText (kind_but_earlier l)

    kind_but_status : List ℕ → Kind
    kind_but_status l = cond (bytes_eq l (codes "version")) VersionText (kind_but_version l)

    kind_but_package : List ℕ → Kind
    kind_but_package l = cond (bytes_eq l (codes "status")) StatusWords (kind_but_status l)

pub recorded_readable : (fs : List Field) → AllByRecursion IsReadableControl fs → AllByRecursion IsReadable (recorded_fields fs)
recorded_readable [] all = tt
recorded_readable (f ∷ fs) all =
    kept_by (not (is_one_of own_names f)) f (recorded_fields fs)
    (λ e. subst (λ k. IsReadableAs k f) (sym (other_kind (lower f.name) (not-true (is_one_of own_names f) e))) all.0) (recorded_readable fs all.1)

pub writable_others : (name other : List ℕ) (fields paragraph : List Field) → name ≡ other → is_package_name other ≡ true → fields ≡ recorded_fields paragraph → ∥ AreFields [] paragraph ∥₁ → AllByRecursion IsReadable paragraph → ∥ IsWritable name fields ∥₁
writable_others name other fields paragraph is named left are all = ∥∥₁_map are (λ known. record {
  named = ap is_package_name is ∙ named;
  written = subst (AreFields []) (sym left) (recorded_written paragraph known);
  others = subst (AllByRecursion (λ f. is_one_of own_names f ≡ false)) (sym left) (recorded_other paragraph);
  readable = subst (AllByRecursion IsReadable) (sym left) (kept_readable (λ f. not (is_one_of own_names f)) paragraph all);
})
