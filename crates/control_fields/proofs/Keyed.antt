-- Fields under their names in lower case.
use Rattle.std.proofs.Common.{◌≡◌, ℕ, zero, suc, ◌-◌, ◌<◌, length, slice_get, Bool, true, false, cond, ◌||◌, if◌then◌else◌, List, [], ◌∷◌, ◌++◌, map, Option, Some, None, refl, sym, ap, subst, ◌∙◌, append_assoc, Bor}
use Rattle.std.specs.Prelude.{option_copied, IfSome, IfNone}
use Rattle.std.specs.Str.{bytes_eq}
use Rattle.std.specs.List.{AllByRecursion}
use Rattle.std.specs.Map.{lookup}
use Rattle.std.proofs.lemmas.Bool.{or_from, false_from_ne_true, false≢true, or_right}
use Rattle.std.proofs.lemmas.List.{append-nil, map-append}
use Rattle.std.proofs.lemmas.Slice.Eq.{bytes_eq-Decides}
use Rattle.indexmap.specs.IndexMap.{insert_entry, set_value_at}
use Rattle.indexmap.proofs.EntryLemmas.{last_parts}
use Rattle.control_fields.specs.Names.{lower, is_called, stands, AreNew, fields_of, IsKeyed, IsFieldCalled}
use Rattle.control_fields.specs.declared.field.Field.{Field}

-- names in lower case that differ

pub alike : (a b : List ℕ) → bytes_eq a b ≡ true → a ≡ b
alike a b e = (bytes_eq-Decides a b).0 e

pub told_same : (a b : List ℕ) → a ≡ b → bytes_eq a b ≡ true
told_same a b e = (bytes_eq-Decides a b).1 e

pub told_apart : (a b : List ℕ) → (a ≡ b → ⊥) → bytes_eq a b ≡ false
told_apart a b ne = false_from_ne_true (bytes_eq a b) (λ t. ne (alike a b t))

apart : (a b : List ℕ) → bytes_eq a b ≡ false → a ≡ b → ⊥
apart a b e same = false≢true (sym e ∙ told_same a b same)

first_not : (text : List ℕ) (f : Field) (fs : List Field) → is_called text (f ∷ fs) ≡ false → (lower f.name ≡ text → ⊥) × (is_called text fs ≡ false)
first_not text f fs e = by (bytes_eq (lower f.name) text) refl
  where
    by : (b : Bool) → bytes_eq (lower f.name) text ≡ b → (lower f.name ≡ text → ⊥) × (is_called text fs ≡ false)
    by true h = absurd (false≢true (sym e ∙ ap (λ y. y || is_called text fs) h))
    by false h = (apart (lower f.name) text h, ap (λ y. y || is_called text fs) (sym h) ∙ e)

called_cons : (text : List ℕ) (f : Field) (fs : List Field) → (lower f.name ≡ text → ⊥) → is_called text fs ≡ false → is_called text (f ∷ fs) ≡ false
called_cons text f fs ne rest = or_from (bytes_eq (lower f.name) text) (is_called text fs) (told_apart (lower f.name) text ne) rest

-- a new key goes last
pub inserted : {K : Type 0} (eq : K → K → Bool) (key : K → List ℕ) (es : List (K × Field)) (k : K) (f : Field) → ((a b : K) → eq a b ≡ bytes_eq (key a) (key b)) → AllByRecursion (λ e. key e.0 ≡ lower e.1.name) es
    → key k ≡ lower f.name → stands f.name (fields_of es) ≡ false → insert_entry eq es k f ≡ es ++ (k, f) ∷ []
inserted eq key [] k f agree keyed is new = refl
inserted eq key (e ∷ es) k f agree keyed is new =
    let n = first_not (lower f.name) e.1 (fields_of es) new in
    let other : eq k e.0 ≡ false = agree k e.0 ∙ told_apart (key k) (key e.0) (λ same. n.0 (sym keyed.0 ∙ sym same ∙ is)) in
    ap (λ b. if b then (e.0, f) ∷ es else e ∷ insert_entry eq es k f) other ∙ ap (λ l. e ∷ l) (inserted eq key es k f agree keyed.1 is n.1)

pub fields_last : {K : Type 0} (es : List (K × Field)) (k : K) (f : Field) → fields_of (es ++ (k, f) ∷ []) ≡ fields_of es ++ f ∷ []
fields_last es k f = map-append (λ e. e.1) es ((k, f) ∷ [])

add_new : (before fs : List Field) (f : Field) → AreNew before fs → stands f.name (before ++ fs) ≡ false → AreNew before (fs ++ f ∷ [])
add_new before [] f are new = (subst (λ (l : List Field). stands f.name l ≡ false) (append-nil before) new, tt)
add_new before (g ∷ fs) f are new = (are.0, add_new (before ++ g ∷ []) fs f are.1 (subst (λ (l : List Field). stands f.name l ≡ false) (sym (append_assoc before (g ∷ []) fs)) new))

add_keyed : {K : Type 0} (key : K → List ℕ) (es : List (K × Field)) (k : K) (f : Field) → AllByRecursion (λ e. key e.0 ≡ lower e.1.name) es → key k ≡ lower f.name → AllByRecursion (λ e. key e.0 ≡ lower e.1.name) (es ++ (k, f) ∷ [])
add_keyed key [] k f keyed is = (is, tt)
add_keyed key (e ∷ es) k f keyed is = (keyed.0, add_keyed key es k f keyed.1 is)

pub pushed : {K : Type 0} (eq : K → K → Bool) (key : K → List ℕ) (es new : List (K × Field)) (k : K) (f : Field) → ((a b : K) → eq a b ≡ bytes_eq (key a) (key b)) → IsKeyed key es
    → key k ≡ lower f.name → stands f.name (fields_of es) ≡ false → new ≡ insert_entry eq es k f → IsKeyed key new × (fields_of new ≡ fields_of es ++ f ∷ [])
pushed eq key es new k f agree keyed is fresh e =
    let all : es ++ (k, f) ∷ [] ≡ new = sym (e ∙ inserted eq key es k f agree keyed.keyed is fresh) in
    subst (λ l. IsKeyed key l × (fields_of l ≡ fields_of es ++ f ∷ [])) all (
      record {
        keyed = add_keyed key es k f keyed.keyed is;
        new = subst (AreNew []) (sym (fields_last es k f)) (add_new [] (fields_of es) f keyed.new fresh);
      },
      fields_last es k f,
    )

-- the last field taken off

front_new : (before fs : List Field) (f : Field) → AreNew before (fs ++ f ∷ []) → AreNew before fs × (stands f.name (before ++ fs) ≡ false)
front_new before [] f are = (tt, subst (λ (l : List Field). stands f.name l ≡ false) (sym (append-nil before)) are.0)
front_new before (g ∷ fs) f are =
    let m = front_new (before ++ g ∷ []) fs f are.1 in
    ((are.0, m.0), subst (λ (l : List Field). stands f.name l ≡ false) (append_assoc before (g ∷ []) fs) m.1)

front_keyed : {K : Type 0} (key : K → List ℕ) (es : List (K × Field)) (k : K) (f : Field) → AllByRecursion (λ e. key e.0 ≡ lower e.1.name) (es ++ (k, f) ∷ []) → AllByRecursion (λ e. key e.0 ≡ lower e.1.name) es × (key k ≡ lower f.name)
front_keyed key [] k f keyed = (tt, keyed.0)
front_keyed key (e ∷ es) k f keyed = let m = front_keyed key es k f keyed.1 in ((keyed.0, m.0), m.1)

pub popped : {K : Type 0} (key : K → List ℕ) (es front : List (K × Field)) (k : K) (f : Field) → IsKeyed key es → es ≡ front ++ (k, f) ∷ [] → IsKeyed key front × (key k ≡ lower f.name) × (stands f.name (fields_of front) ≡ false)
popped key es front k f keyed e =
    let is : IsKeyed key (front ++ (k, f) ∷ []) = subst (IsKeyed key) e keyed in
    let n = front_new [] (fields_of front) f (subst (AreNew []) (fields_last front k f) is.new) in
    let m = front_keyed key front k f is.keyed in
    (record { keyed = m.0; new = n.0 }, m.1, n.1)

-- the last field written, its name kept

value_entry : {K : Type 0} (es : List (K × Field)) (i : ℕ) (f : Field) → slice_get (fields_of es) i ≡ Some f → (k : K) × (slice_get es i ≡ Some (k, f))
value_entry [] i f at = absurd (cc at)
value_entry (e ∷ es) zero f at = let same : e.1 ≡ f = cc at in (e.0, ap (λ x. Some (e.0, x)) same)
value_entry (e ∷ es) (suc i) f at = value_entry es i f at

pub record IsLastWritten {K : Type 0} (key : K → List ℕ) (es new : List (K × Field)) (f w : Field) : Type 0 where
  pub keyed : IsKeyed key new
  pub front : List Field
  pub before : fields_of es ≡ front ++ f ∷ []
  pub after : fields_of new ≡ front ++ w ∷ []

pub last_written : {K : Type 0} (key : K → List ℕ) (es : List (K × Field)) (f w : Field) → IsKeyed key es → 0 < length es → slice_get (fields_of es) (length es - 1) ≡ Some f → w.name ≡ f.name
    → IsLastWritten key es (set_value_at es (length es - 1) w) f w
last_written key es f w keyed some at named =
    let entry = value_entry es (length es - 1) f at in
    let parts = last_parts es entry.0 f w (length es - 1) refl some entry.1 in
    let off = popped key es parts.0 entry.0 f keyed parts.1 in
    let grown : IsKeyed key (parts.0 ++ (entry.0, w) ∷ []) = record {
      keyed = add_keyed key parts.0 entry.0 w off.0.keyed (off.1 ∙ ap lower (sym named));
      new = subst (AreNew []) (sym (fields_last parts.0 entry.0 w)) (add_new [] (fields_of parts.0) w off.0.new (ap (λ n. stands n (fields_of parts.0)) named ∙ off.2));
    } in
    record {
      keyed = subst (IsKeyed key) (sym parts.2) grown;
      front = fields_of parts.0;
      before = ap fields_of parts.1 ∙ fields_last parts.0 entry.0 f;
      after = ap fields_of parts.2 ∙ fields_last parts.0 entry.0 w;
    }

-- a field found by its key

still : (text : List ℕ) (before : List Field) (f : Field) → is_called text before ≡ true → is_called text (before ++ f ∷ []) ≡ true
still text [] f there = absurd (false≢true there)
still text (g ∷ gs) f there = still_by (bytes_eq (lower g.name) text) (is_called text gs) (is_called text (gs ++ f ∷ [])) (λ e. still text gs f e) there
  where
    still_by : (b x y : Bool) → (x ≡ true → y ≡ true) → (b || x) ≡ true → (b || y) ≡ true
    still_by true x y more e = refl
    still_by false x y more e = more e

at_end : (text : List ℕ) (before : List Field) (f : Field) → lower f.name ≡ text → is_called text (before ++ f ∷ []) ≡ true
at_end text [] f named = ap (λ y. y || false) (told_same (lower f.name) text named)
at_end text (g ∷ gs) f named = ap (λ y. bytes_eq (lower g.name) text || y) (at_end text gs f named) ∙ or_right (bytes_eq (lower g.name) text) true refl

not_later : (text : List ℕ) (before fs : List Field) → is_called text before ≡ true → AreNew before fs → is_called text fs ≡ false
not_later text before [] there are = refl
not_later text before (f ∷ fs) there are =
    called_cons text f fs (λ same. false≢true (sym are.0 ∙ ap (λ (t : List ℕ). is_called t before) same ∙ there))
    (not_later text (before ++ f ∷ []) fs (still text before f there) are.1)

here : (text key : List ℕ) (before fs : List Field) (g f : Field) → g ≡ f → key ≡ lower g.name → bytes_eq text key ≡ true → AreNew (before ++ g ∷ []) fs → IsFieldCalled text (g ∷ fs) f
here text key before fs g f same is told are =
    let named : lower g.name ≡ text = sym is ∙ sym (alike text key told) in
    subst (λ (x : Field). IsFieldCalled text (g ∷ fs) x) same (record { front = []; rest = fs; is = refl; named = named; first = refl; only = not_later text (before ++ g ∷ []) fs (at_end text before g named) are })

there : (text key : List ℕ) (fs : List Field) (g f : Field) → key ≡ lower g.name → bytes_eq text key ≡ false → IsFieldCalled text fs f → IsFieldCalled text (g ∷ fs) f
there text key fs g f is told m = record { front = g ∷ m.front; rest = m.rest; is = ap (λ (l : List Field). g ∷ l) m.is; named = m.named; first = called_cons text g m.front (λ e. apart text key told (sym e ∙ sym is)) m.first; only = m.only }

found_by : {K : Type 0} (key : K → List ℕ) (text : List ℕ) (before : List Field) (e : K × Field) (es : List (K × Field)) (f : Field) (b : Bool) → bytes_eq text (key e.0) ≡ b → key e.0 ≡ lower e.1.name → AreNew (before ++ e.1 ∷ []) (fields_of es)
    → cond b (Some e.1) (lookup (λ k. bytes_eq text (key k)) es) ≡ Some f → (lookup (λ k. bytes_eq text (key k)) es ≡ Some f → IsFieldCalled text (fields_of es) f) → IsFieldCalled text (e.1 ∷ fields_of es) f
found_by key text before e es f true told is are has more = let same : e.1 ≡ f = cc has in here text (key e.0) before (fields_of es) e.1 f same is told are
found_by key text before e es f false told is are has more = there text (key e.0) (fields_of es) e.1 f is told (more has)

found_in : {K : Type 0} (key : K → List ℕ) (text : List ℕ) (before : List Field) (es : List (K × Field)) (f : Field) → AllByRecursion (λ e. key e.0 ≡ lower e.1.name) es → AreNew before (fields_of es)
    → lookup (λ k. bytes_eq text (key k)) es ≡ Some f → IsFieldCalled text (fields_of es) f
found_in key text before [] f keyed are has = absurd (cc has)
found_in key text before (e ∷ es) f keyed are has =
    found_by key text before e es f (bytes_eq text (key e.0)) refl keyed.0 are.1 has (λ h. found_in key text (before ++ e.1 ∷ []) es f keyed.1 are.1 h)

missing_by : {K : Type 0} (key : K → List ℕ) (text : List ℕ) (e : K × Field) (es : List (K × Field)) (b : Bool) → bytes_eq text (key e.0) ≡ b → key e.0 ≡ lower e.1.name
    → cond b (Some e.1) (lookup (λ k. bytes_eq text (key k)) es) ≡ None → (lookup (λ k. bytes_eq text (key k)) es ≡ None → is_called text (fields_of es) ≡ false) → is_called text (e.1 ∷ fields_of es) ≡ false
missing_by key text e es true told is has more = absurd (cc has)
missing_by key text e es false told is has more = called_cons text e.1 (fields_of es) (λ h. apart text (key e.0) told (sym h ∙ sym is)) (more has)

missing : {K : Type 0} (key : K → List ℕ) (text : List ℕ) (es : List (K × Field)) → AllByRecursion (λ e. key e.0 ≡ lower e.1.name) es → lookup (λ k. bytes_eq text (key k)) es ≡ None → is_called text (fields_of es) ≡ false
missing key text [] keyed has = refl
missing key text (e ∷ es) keyed has = missing_by key text e es (bytes_eq text (key e.0)) refl keyed.0 has (λ h. missing key text es keyed.1 h)

pub get_some : {K : Type 0} (key : K → List ℕ) (text : List ℕ) (es : List (K × Field)) (r : Option (Bor Field)) → IsKeyed key es → option_copied r ≡ lookup (λ k. bytes_eq text (key k)) es → IfSome r (λ f. IsFieldCalled text (fields_of es) f.now)
get_some key text es None keyed e = tt
get_some key text es (Some f) keyed e = found_in key text [] es f.now keyed.keyed keyed.new (sym e)

pub get_none : {K : Type 0} (key : K → List ℕ) (text : List ℕ) (es : List (K × Field)) (r : Option (Bor Field)) → IsKeyed key es → option_copied r ≡ lookup (λ k. bytes_eq text (key k)) es → IfNone r (is_called text (fields_of es) ≡ false)
get_none key text es None keyed e = missing key text es keyed.keyed (sym e)
get_none key text es (Some f) keyed e = tt

-- the name of a field stands nowhere before it
pub new_mid : (before xs : List Field) (f : Field) (ys : List Field) → AreNew before (xs ++ f ∷ ys) → stands f.name (before ++ xs) ≡ false
new_mid before [] f ys are = subst (λ (l : List Field). stands f.name l ≡ false) (sym (append-nil before)) are.0
new_mid before (g ∷ xs) f ys are =
    subst (λ (l : List Field). stands f.name l ≡ false) (append_assoc before (g ∷ []) xs) (new_mid (before ++ g ∷ []) xs f ys are.1)

-- going over the fields

pub walk_more : (all left next : List Field) (ys : List (Bor Field)) (x : Bor Field) → all ≡ map (λ b. b.now) ys ++ left → left ≡ x.now ∷ next → all ≡ map (λ b. b.now) (ys ++ x ∷ []) ++ next
walk_more all left next ys x e f =
    e ∙ ap (λ (l : List Field). map (λ b. b.now) ys ++ l) f ∙ sym (append_assoc (map (λ b. b.now) ys) (x.now ∷ []) next) ∙ ap (λ (l : List Field). l ++ next) (sym (map-append (λ (b : Bor Field). b.now) ys (x ∷ [])))

called_last : (text : List ℕ) (xs : List Field) (f : Field) → is_called text xs ≡ false → (lower f.name ≡ text → ⊥) → is_called text (xs ++ f ∷ []) ≡ false
called_last text [] f before ne = called_cons text f [] ne refl
called_last text (g ∷ xs) f before ne = let n = first_not text g xs before in called_cons text g (xs ++ f ∷ []) n.0 (called_last text xs f n.1 ne)

pub called_more : (text : List ℕ) (ys : List (Bor Field)) (x : Bor Field) → is_called text (map (λ b. b.now) ys) ≡ false → (lower x.now.name ≡ text → ⊥) → is_called text (map (λ b. b.now) (ys ++ x ∷ [])) ≡ false
called_more text ys x before ne = ap (is_called text) (map-append (λ (b : Bor Field). b.now) ys (x ∷ [])) ∙ called_last text (map (λ b. b.now) ys) x.now before ne

called_mid : (text : List ℕ) (xs : List Field) (f : Field) (ys : List Field) → lower f.name ≡ text → is_called text (xs ++ f ∷ ys) ≡ true
called_mid text [] f ys named = ap (λ y. y || is_called text ys) (told_same (lower f.name) text named)
called_mid text (g ∷ xs) f ys named = ap (λ y. bytes_eq (lower g.name) text || y) (called_mid text xs f ys named) ∙ or_right (bytes_eq (lower g.name) text) true refl

-- a field that was found by a name stands
pub called_there : (text : List ℕ) (fs : List Field) (f : Field) → IsFieldCalled text fs f → true ≡ is_called text fs
called_there text fs f found = sym (ap (is_called text) found.is ∙ called_mid text found.front f found.rest found.named)

pub called_at : (text : List ℕ) (all left next : List Field) (ys : List (Bor Field)) (x : Bor Field) → all ≡ map (λ b. b.now) ys ++ left → left ≡ x.now ∷ next → lower x.now.name ≡ text → true ≡ is_called text all
called_at text all left next ys x e f named = sym (ap (is_called text) (e ∙ ap (λ (l : List Field). map (λ b. b.now) ys ++ l) f) ∙ called_mid text (map (λ b. b.now) ys) x.now next named)

pub copied_new : (copied all left next : List Field) (ys : List (Bor Field)) (x : Bor Field) (f : Field) → AreNew [] all → copied ≡ map (λ b. b.now) ys → all ≡ map (λ b. b.now) ys ++ left → left ≡ x.now ∷ next → f ≡ x.now → stands f.name copied ≡ false
copied_new copied all left next ys x f are c e l same =
    ap (stands f.name) c ∙ ap (λ (g : Field). stands g.name (map (λ b. b.now) ys)) same
    ∙ new_mid [] (map (λ b. b.now) ys) x.now next (subst (AreNew []) (e ∙ ap (λ (r : List Field). map (λ b. b.now) ys ++ r) l) are)
