-- Fields put among others, and in dpkg's order.
use Rattle.std.proofs.Common.{◌≡◌, ℕ, suc, ◌+◌, ◌<◌, ◌≤◌, Bool, true, false, not, cond, ◌||◌, Option, Some, List, [], ◌∷◌, ◌++◌, take, drop, get_or, length, Bor, map, refl, sym, ap, subst, ◌∙◌, append_assoc, arith}
use Rattle.std.specs.Prelude.{filter, fold, nat_lt}
use Rattle.std.specs.Str.{bytes_eq}
use Rattle.std.specs.List.{AllByRecursion, insert, prefix_len}
use Rattle.std.proofs.Props.{props}
use Rattle.std.proofs.Math.Logic.{∥∥₁_elim, ∥∥₁_map}
use Rattle.std.proofs.lemmas.Bool.{or_from, or_parts, ltb-true, ltb-false, lt-ltb, le-ltb}
use Rattle.std.proofs.lemmas.List.{map-append, drop_more, take-append-drop}
use Rattle.std.proofs.lemmas.List.Folds.{list_any-append}
use Rattle.std.proofs.lemmas.List.Sums.{prefix_len-le-length}
use Rattle.control_fields.specs.Names.{lower, is_called, stands}
use Rattle.control_fields.specs.Spelling.{AreFields}
use Rattle.control_fields.specs.declared.field.Field.{Field}
use Rattle.status_records.specs.Order.{dpkgs_names, rank, before_first, merged, in_dpkgs_order}
use Rattle.texts.specs.PackageNames.{is_package_name}
use Rattle.status_records.specs.Fields.{own_names, is_one_of, recorded_fields}
use Rattle.status_records.specs.Values.{IsReadable, IsReadableControl}
use Rattle.status_records.specs.Writable.{IsWritable}
use Rattle.status_records.specs.Paragraphs.{field_in}
use Rattle.status_records.proofs.Kept.{called_append, new_among, swapped, recorded_written, recorded_other, recorded_readable}
use Rattle.status_records.proofs.Sayings.{not_called}

pub all_append : (P : Field → Type 0) (xs ys : List Field) → AllByRecursion P xs → AllByRecursion P ys → AllByRecursion P (xs ++ ys)
all_append P [] ys first rest = rest
all_append P (f ∷ xs) ys first rest = (first.0, all_append P xs ys first.1 rest)

-- nothing else stands there

pub merged_none : (fs : List Field) → merged fs [] ≡ fs
merged_none [] = refl
merged_none (f ∷ fs) = ap (λ (l : List Field). f ∷ l) (merged_none fs)

-- what holds of each

pub all_merged : (P : Field → Type 0) (fs gs : List Field) → AllByRecursion P fs → AllByRecursion P gs → AllByRecursion P (merged fs gs)
all_merged P [] gs first rest = rest
all_merged P (f ∷ fs) gs first rest = among (λ hs later. all_merged P fs hs first.1 later) gs rest
  where
    among : ((hs : List Field) → AllByRecursion P hs → AllByRecursion P (merged fs hs)) → (hs : List Field) → AllByRecursion P hs → AllByRecursion P (before_first f (merged fs) hs)
    among on [] later = (first.0, on [] tt)
    among on (h ∷ hs) later = by (nat_lt (rank f) (rank h)) (first.0, on (h ∷ hs) later) (later.0, among on hs later.1)
      where
        by : (b : Bool) → AllByRecursion P (f ∷ merged fs (h ∷ hs)) → AllByRecursion P (h ∷ before_first f (merged fs) hs) → AllByRecursion P (cond b (f ∷ merged fs (h ∷ hs)) (h ∷ before_first f (merged fs) hs))
        by true here there = here
        by false here there = there

-- the field of a name that no other one has

pub found_merged : (text : List ℕ) (fs gs : List Field) → is_called text gs ≡ false → field_in text (merged fs gs) ≡ field_in text fs
found_merged text [] gs none = not_called text gs none
found_merged text (f ∷ fs) gs none = among (λ hs other. found_merged text fs hs other) gs none
  where
    among : ((hs : List Field) → is_called text hs ≡ false → field_in text (merged fs hs) ≡ field_in text fs) → (hs : List Field) → is_called text hs ≡ false → field_in text (before_first f (merged fs) hs) ≡ field_in text (f ∷ fs)
    among on [] other = ap (λ (o : Option Field). cond (bytes_eq (lower f.name) text) (Some f) o) (on [] refl)
    among on (h ∷ hs) other =
        let parts = or_parts (bytes_eq (lower h.name) text) (is_called text hs) other in
        by (nat_lt (rank f) (rank h)) (ap (λ (o : Option Field). cond (bytes_eq (lower f.name) text) (Some f) o) (on (h ∷ hs) other))
        (ap (λ b. cond b (Some h) (field_in text (before_first f (merged fs) hs))) parts.0 ∙ among on hs parts.1)
      where
        by : (b : Bool) → field_in text (f ∷ merged fs (h ∷ hs)) ≡ field_in text (f ∷ fs) → field_in text (h ∷ before_first f (merged fs) hs) ≡ field_in text (f ∷ fs)
            → field_in text (cond b (f ∷ merged fs (h ∷ hs)) (h ∷ before_first f (merged fs) hs)) ≡ field_in text (f ∷ fs)
        by true here there = here
        by false here there = there

-- what is left without the fields that were put among them

pub left_merged : (keep : Field → Bool) (fs gs : List Field) → AllByRecursion (λ f. keep f ≡ false) fs → filter keep (merged fs gs) ≡ filter keep gs
left_merged keep [] gs out = refl
left_merged keep (f ∷ fs) gs out = among (λ hs. left_merged keep fs hs out.1) gs
  where
    dropped : (l : List Field) → filter keep (f ∷ l) ≡ filter keep l
    dropped l = ap (λ b. cond b (f ∷ filter keep l) (filter keep l)) out.0

    among : ((hs : List Field) → filter keep (merged fs hs) ≡ filter keep hs) → (hs : List Field) → filter keep (before_first f (merged fs) hs) ≡ filter keep hs
    among on [] = dropped (merged fs []) ∙ on []
    among on (h ∷ hs) = by (nat_lt (rank f) (rank h)) (dropped (merged fs (h ∷ hs)) ∙ on (h ∷ hs)) (ap (λ (l : List Field). cond (keep h) (h ∷ l) l) (among on hs))
      where
        by : (b : Bool) → filter keep (f ∷ merged fs (h ∷ hs)) ≡ filter keep (h ∷ hs) → filter keep (h ∷ before_first f (merged fs) hs) ≡ filter keep (h ∷ hs)
            → filter keep (cond b (f ∷ merged fs (h ∷ hs)) (h ∷ before_first f (merged fs) hs)) ≡ filter keep (h ∷ hs)
        by true here there = here
        by false here there = there

-- names that stand once

pub front_fields : (before xs ys : List Field) → AreFields before (xs ++ ys) → AreFields before xs
front_fields before [] ys are = tt
front_fields before (f ∷ xs) ys are = (are.0, are.1, front_fields (before ++ f ∷ []) xs ys are.2)

called_last : (text : List ℕ) (xs : List Field) (f : Field) → is_called text (xs ++ f ∷ []) ≡ (is_called text xs || is_called text (f ∷ []))
called_last text xs f = list_any-append (λ (g : Field). bytes_eq (lower g.name) text) xs (f ∷ [])

pub same_before : (before other fs : List Field) → ((text : List ℕ) → is_called text before ≡ is_called text other) → AreFields before fs → AreFields other fs
same_before before other [] same are = tt
same_before before other (f ∷ fs) same are = (
  are.0,
  sym (same (lower f.name)) ∙ are.1,
  same_before (before ++ f ∷ []) (other ++ f ∷ []) fs (λ text. called_last text before f ∙ ap (λ b. b || is_called text (f ∷ [])) (same text) ∙ sym (called_last text other f)) are.2,
)

exchanged : (a b c : Bool) → ((a || (b || false)) || (c || false)) ≡ ((a || (c || false)) || (b || false))
exchanged true b c = refl
exchanged false true true = refl
exchanged false true false = refl
exchanged false false true = refl
exchanged false false false = refl

one_more : (before fs : List Field) (f : Field) → AreFields before fs → stands f.name fs ≡ false → AreFields (before ++ f ∷ []) fs
one_more before [] f are none = tt
one_more before (g ∷ fs) f are none =
    let parts = or_parts (bytes_eq (lower g.name) (lower f.name)) (is_called (lower f.name) fs) none in (
      are.0,
      called_append (lower g.name) before (f ∷ []) are.1 (or_from (bytes_eq (lower f.name) (lower g.name)) false (swapped (lower g.name) (lower f.name) parts.0) refl),
      same_before ((before ++ g ∷ []) ++ f ∷ []) ((before ++ f ∷ []) ++ g ∷ []) fs
          (λ text.
          called_last text (before ++ g ∷ []) f ∙ ap (λ b. b || is_called text (f ∷ [])) (called_last text before g)
          ∙ exchanged (is_called text before) (bytes_eq (lower g.name) text) (bytes_eq (lower f.name) text)
          ∙ sym (called_last text (before ++ f ∷ []) g ∙ ap (λ b. b || is_called text (g ∷ [])) (called_last text before f))) (one_more (before ++ g ∷ []) fs f are.2 parts.1),
    )

-- none of the fields has the name of one of the others
abbrev pub AreOut : List Field → List Field → Type 0
AreOut fs gs = AllByRecursion (λ f. stands f.name gs ≡ false) fs

still_out : (fs : List Field) (g : Field) (gs : List Field) → AreOut fs (g ∷ gs) → AreOut fs gs
still_out [] g gs out = tt
still_out (f ∷ fs) g gs out = ((or_parts (bytes_eq (lower g.name) (lower f.name)) (is_called (lower f.name) gs) out.0).1, still_out fs g gs out.1)

pub fields_merged : (before fs gs : List Field) → AreFields before fs → AreFields before gs → AreOut fs gs → AreOut gs fs → AreFields before (merged fs gs)
fields_merged before [] gs first rest out back = rest
fields_merged before (f ∷ fs) gs first rest out back = among (λ so_far hs own other one two. fields_merged so_far fs hs own other one two) before gs first rest out back
  where
    among : ((so_far hs : List Field) → AreFields so_far fs → AreFields so_far hs → AreOut fs hs → AreOut hs fs → AreFields so_far (merged fs hs))
        → (so_far hs : List Field) → AreFields so_far (f ∷ fs) → AreFields so_far hs → AreOut (f ∷ fs) hs → AreOut hs (f ∷ fs) → AreFields so_far (before_first f (merged fs) hs)
    among on so_far [] first rest out back = (first.0, first.1, on (so_far ++ f ∷ []) [] first.2 tt out.1 tt)
    among on so_far (h ∷ hs) first rest out back =
        by (nat_lt (rank f) (rank h))
        (first.0, first.1, on (so_far ++ f ∷ []) (h ∷ hs) first.2 (one_more so_far (h ∷ hs) f rest out.0) out.1 (still_out (h ∷ hs) f fs back))
        (rest.0, rest.1, among on (so_far ++ h ∷ []) hs (one_more so_far (f ∷ fs) h first back.0) rest.2 (still_out (f ∷ fs) h hs out) back.1)
      where
        by : (b : Bool) → AreFields so_far (f ∷ merged fs (h ∷ hs)) → AreFields so_far (h ∷ before_first f (merged fs) hs) → AreFields so_far (cond b (f ∷ merged fs (h ∷ hs)) (h ∷ before_first f (merged fs) hs))
        by true here there = here
        by false here there = there

-- in dpkg's order

abbrev put_all : List Field → List Field → List Field
put_all gs fs = fold (λ hs f. merged (f ∷ []) hs) gs fs

all_put : (P : Field → Type 0) (gs fs : List Field) → AllByRecursion P gs → AllByRecursion P fs → AllByRecursion P (put_all gs fs)
all_put P gs [] first rest = first
all_put P gs (f ∷ fs) first rest = all_put P (merged (f ∷ []) gs) fs (all_merged P (f ∷ []) gs (rest.0, tt) first) rest.1

pub all_in_order : (P : Field → Type 0) (fs : List Field) → AllByRecursion P fs → AllByRecursion P (in_dpkgs_order fs)
all_in_order P fs all = all_put P [] fs tt all

turned : (a b c : Bool) → (a || (b || c)) ≡ (b || (c || (a || false)))
turned true true c = refl
turned true false true = refl
turned true false false = refl
turned false true c = refl
turned false false true = refl
turned false false false = refl

called_merged : (text : List ℕ) (f : Field) (gs : List Field) → is_called text (merged (f ∷ []) gs) ≡ is_called text (gs ++ f ∷ [])
called_merged text f [] = refl
called_merged text f (g ∷ gs) =
    by (nat_lt (rank f) (rank g))
    (turned (bytes_eq (lower f.name) text) (bytes_eq (lower g.name) text) (is_called text gs) ∙ ap (λ b. bytes_eq (lower g.name) text || b) (sym (called_last text gs f)))
    (ap (λ b. bytes_eq (lower g.name) text || b) (called_merged text f gs))
  where
    by : (b : Bool) → is_called text (f ∷ g ∷ gs) ≡ is_called text (g ∷ (gs ++ f ∷ [])) → is_called text (g ∷ merged (f ∷ []) gs) ≡ is_called text (g ∷ (gs ++ f ∷ []))
        → is_called text (cond b (f ∷ g ∷ gs) (g ∷ merged (f ∷ []) gs)) ≡ is_called text (g ∷ (gs ++ f ∷ []))
    by true here there = here
    by false here there = there

out_of_one : (gs : List Field) (f : Field) → stands f.name gs ≡ false → AreOut gs (f ∷ [])
out_of_one [] f none = tt
out_of_one (g ∷ gs) f none =
    let parts = or_parts (bytes_eq (lower g.name) (lower f.name)) (is_called (lower f.name) gs) none in
    (or_from (bytes_eq (lower f.name) (lower g.name)) false (swapped (lower g.name) (lower f.name) parts.0) refl, out_of_one gs f parts.1)

fields_put : (gs fs : List Field) → AreFields [] gs → AreFields gs fs → AreFields [] (put_all gs fs)
fields_put gs [] first rest = first
fields_put gs (f ∷ fs) first rest =
    fields_put (merged (f ∷ []) gs) fs (fields_merged [] (f ∷ []) gs (rest.0, refl, tt) first (rest.1, tt) (out_of_one gs f rest.1))
    (same_before (gs ++ f ∷ []) (merged (f ∷ []) gs) fs (λ text. sym (called_merged text f gs)) rest.2)

pub fields_in_order : (fs : List Field) → AreFields [] fs → AreFields [] (in_dpkgs_order fs)
fields_in_order fs are = fields_put [] fs tt are

pub one_put : (fs : List Field) (f : Field) → in_dpkgs_order (fs ++ f ∷ []) ≡ merged (f ∷ []) (in_dpkgs_order fs)
one_put fs f = more [] fs
  where
    more : (gs hs : List Field) → put_all gs (hs ++ f ∷ []) ≡ merged (f ∷ []) (put_all gs hs)
    more gs [] = refl
    more gs (h ∷ hs) = more (merged (h ∷ []) gs) hs

-- by places

pub merged_at : (fs : List Field) (g : Field) (gs : List Field) → merged fs (g ∷ gs) ≡ take (prefix_len (λ f. nat_lt (rank f) (rank g)) fs) fs ++ g ∷ merged (drop (prefix_len (λ f. nat_lt (rank f) (rank g)) fs) fs) gs
merged_at [] g gs = refl
merged_at (f ∷ fs) g gs = by (nat_lt (rank f) (rank g)) (merged_at fs g gs)
  where
    by : (b : Bool) → merged fs (g ∷ gs) ≡ take (prefix_len (λ h. nat_lt (rank h) (rank g)) fs) fs ++ g ∷ merged (drop (prefix_len (λ h. nat_lt (rank h) (rank g)) fs) fs) gs
        → cond b (f ∷ merged fs (g ∷ gs)) (g ∷ before_first f (merged fs) gs)
        ≡ take (cond b (1 + prefix_len (λ h. nat_lt (rank h) (rank g)) fs) 0) (f ∷ fs) ++ g ∷ merged (drop (cond b (1 + prefix_len (λ h. nat_lt (rank h) (rank g)) fs) 0) (f ∷ fs)) gs
    by true rest =
        let count = prefix_len (λ h. nat_lt (rank h) (rank g)) fs in
        let on : suc count ≡ 1 + count = omega arith in
        ap (λ (l : List Field). f ∷ l) rest ∙ ap (λ n. take n (f ∷ fs) ++ g ∷ merged (drop n (f ∷ fs)) gs) on
    by false rest = refl

not_behind : (a b : ℕ) → nat_lt a (b + 1) ≡ true → nat_lt b a ≡ false
not_behind a b e = le-ltb b a (omega (arith, ltb-true a (b + 1) e))

is_behind : (a b : ℕ) → nat_lt a (b + 1) ≡ false → nat_lt b a ≡ true
is_behind a b e = lt-ltb b a (omega (arith, ltb-false a (b + 1) e))

pub put_at : (f : Field) (xs : List Field) → merged (f ∷ []) xs ≡ insert xs (prefix_len (λ x. nat_lt (rank x) (rank f + 1)) xs) f
put_at f [] = refl
put_at f (x ∷ xs) = by (nat_lt (rank x) (rank f + 1)) refl (put_at f xs)
  where
    by : (b : Bool) → nat_lt (rank x) (rank f + 1) ≡ b → merged (f ∷ []) xs ≡ insert xs (prefix_len (λ y. nat_lt (rank y) (rank f + 1)) xs) f
        → cond (nat_lt (rank f) (rank x)) (f ∷ x ∷ xs) (x ∷ merged (f ∷ []) xs) ≡ insert (x ∷ xs) (cond b (1 + prefix_len (λ y. nat_lt (rank y) (rank f + 1)) xs) 0) f
    by true e rest =
        let count = prefix_len (λ y. nat_lt (rank y) (rank f + 1)) xs in
        let on : suc count ≡ 1 + count = omega arith in
        ap (λ b. cond b (f ∷ x ∷ xs) (x ∷ merged (f ∷ []) xs)) (not_behind (rank x) (rank f) e) ∙ ap (λ (l : List Field). x ∷ l) rest ∙ ap (λ n. insert (x ∷ xs) n f) on
    by false e rest = ap (λ b. cond b (f ∷ x ∷ xs) (x ∷ merged (f ∷ []) xs)) (is_behind (rank x) (rank f) e)

-- behind the place of each
pub none_behind : (place : ℕ) → 33 ≤ place → (fs : List Field) → length fs ≡ prefix_len (λ f. nat_lt (rank f) (place + 1)) fs
none_behind place end [] = refl
none_behind place end (f ∷ fs) =
    let rest = prefix_len (λ h. nat_lt (rank h) (place + 1)) fs in
    let within : rank f ≤ 33 = prefix_len-le-length (λ n. not (bytes_eq (lower f.name) n)) dpkgs_names in
    let so_far : length fs ≡ rest = none_behind place end fs in
    let on : suc (length fs) ≡ 1 + rest = omega (arith, so_far) in
    on ∙ ap (λ b. cond b (1 + rest) 0) (sym (lt-ltb (rank f) (place + 1) (omega (arith, within, end))))

-- the steps of loops that write them

pub front_written : (xs ys zs all : List Field) → ∥ AreFields [] all ∥₁ → (xs ++ ys) ++ zs ≡ all → ∥ AreFields [] (xs ++ ys) ∥₁
front_written xs ys zs all are is = ∥∥₁_map are (λ known. front_fields [] (xs ++ ys) zs (subst (AreFields []) (sym is) known))

pub next_new : (xs : List Field) (f g : Field) (ys all : List Field) → ∥ AreFields [] all ∥₁ → xs ++ f ∷ ys ≡ all → g ≡ f → stands g.name xs ≡ false
next_new xs f g ys all are is same = ∥∥₁_elim are (hlevel props) (λ known. ap (λ (h : Field). stands h.name xs) same ∙ new_among [] xs f ys (subst (AreFields []) (sym is) known))

-- a merge so far, before and behind the next other field
pub merged_ahead : (so_far left ahead behind rest next all : List Field) (x : Field) → so_far ++ merged left rest ≡ all → rest ≡ x ∷ next → ahead ≡ take (prefix_len (λ f. nat_lt (rank f) (rank x)) left) left
    → behind ≡ drop (prefix_len (λ f. nat_lt (rank f) (rank x)) left) left → (so_far ++ ahead) ++ x ∷ merged behind next ≡ all
merged_ahead so_far left ahead behind rest next all x is walked front back =
    append_assoc so_far ahead (x ∷ merged behind next)
    ∙ ap (λ (l : List Field). so_far ++ l) ((λ i. front i ++ x ∷ merged (back i) next) ∙ sym (merged_at left x next) ∙ sym (ap (merged left) walked)) ∙ is

pub merged_behind : (so_far ahead behind now after next all : List Field) (f x : Field) → (so_far ++ ahead) ++ x ∷ merged behind next ≡ all → now ≡ so_far ++ ahead → after ≡ now ++ f ∷ [] → f ≡ x → after ++ merged behind next ≡ all
merged_behind so_far ahead behind now after next all f x is e n same =
    ap (λ (l : List Field). l ++ merged behind next) (n ∙ (λ i. e i ++ same i ∷ [])) ∙ append_assoc (so_far ++ ahead) (x ∷ []) (merged behind next) ∙ is

-- one more field in dpkg's order
pub put_more : (sorted after : List Field) (ys : List (Bor Field)) (x : Bor Field) (f : Field) (place : ℕ) → sorted ≡ in_dpkgs_order (map (λ b. b.now) ys) → after ≡ insert sorted place f → f ≡ x.now → place ≡ prefix_len (λ g. nat_lt (rank g) (rank x.now + 1)) sorted
    → after ≡ in_dpkgs_order (map (λ b. b.now) (ys ++ x ∷ []))
put_more sorted after ys x f place e n same at =
    n ∙ (λ i. insert sorted (at i) (same i)) ∙ sym (put_at x.now sorted) ∙ ap (merged (x.now ∷ [])) e ∙ sym (ap in_dpkgs_order (map-append (λ (b : Bor Field). b.now) ys (x ∷ [])) ∙ one_put (map (λ b. b.now) ys) x.now)

pub item_new : (before fields paragraph : List Field) (i : ℕ) (f g : Field) → ∥ AreFields [] (before ++ fields) ∥₁ → i < length fields → f ≡ get_or fields i f → paragraph ≡ before ++ take i fields → g ≡ f → stands g.name paragraph ≡ false
item_new before fields paragraph i f g are lt at is same =
    let here : take i fields ++ f ∷ drop (i + 1) fields ≡ fields = ap (λ (h : Field). take i fields ++ h ∷ drop (i + 1) fields) at ∙ ap (λ (l : List Field). take i fields ++ l) (sym (drop_more fields i f lt)) ∙ take-append-drop i fields in
    next_new paragraph f g (drop (i + 1) fields) (before ++ fields) are
    (ap (λ (l : List Field). l ++ f ∷ drop (i + 1) fields) is ∙ append_assoc before (take i fields) (f ∷ drop (i + 1) fields) ∙ ap (λ (l : List Field). before ++ l) here) same
