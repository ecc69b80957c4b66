-- The cases of a line, and what no case takes.
use Rattle.std.proofs.Common.{◌≡◌, ◌≢◌, ◌+◌, ◌<◌, ◌≤◌, ℕ, true, false, eqb, List, [], ◌∷◌, ◌++◌, length, get_or, refl, sym, ap, subst, ◌∙◌, inl, inr, arith}
use Rattle.std.specs.Prelude.{nat_eq}
use Rattle.std.specs.Str.{IsUtf8}
use Rattle.std.proofs.lemmas.Bool.{false≢true, true≢false, eqb-true, or_cases}
use Rattle.control_fields.specs.Names.{Lacks, is_blank, trim_end, settled_last, IsName, stands, with_line, begin_line}
use Rattle.control_fields.specs.Grammar.{Reading, nothing, with_last, IsCut, field_of, Takes, Run}
use Rattle.control_fields.specs.Faults.{BeginsBlank, IsFaultAt}
use Rattle.control_fields.specs.declared.field.Field.{Field}
use Rattle.control_fields.specs.declared.located.Located.{Located}
use Rattle.control_fields.specs.declared.reading.Kind.TheVariants.{NotUtf8, OrphanContinuation, NoColon, BadName, Twice}
use Rattle.control_fields.proofs.Parts.{stands_there, one_cut}
use Rattle.control_fields.proofs.Trims.{cut_ended}

abbrev pub at : List Located → ℕ → List Field → Reading
at d i n = record { done = d; begun = record { line = i; paragraph = n } }

pub same_at : (d e : List Located) (i j : ℕ) (n m : List Field) → d ≡ e → i ≡ j → n ≡ m → at d i n ≡ at e j m
same_at d e i j n m p q r = λ k. record { done = p k; begun = record { line = q k; paragraph = r k } }

pub takes_separator : (number : ℕ) (bytes : List ℕ) (s : Reading) → IsUtf8 bytes → trim_end bytes ≡ [] → Takes number bytes s (record { done = with_last s.done s.begun; begun = nothing })
takes_separator number bytes s utf8 blank = (utf8, inl (record { blank = blank; to = refl }))

-- a list with an end
last_of : (x : Field) (xs : List Field) → (front : List Field) × (last : Field) × (x ∷ xs ≡ front ++ last ∷ [])
last_of x [] = ([], x, refl)
last_of x (y ∷ ys) = let m = last_of y ys in (x ∷ m.0, m.1, ap (λ (l : List Field). x ∷ l) m.2)

pub takes_continuation : (number : ℕ) (bytes : List ℕ) (d e : List Located) (i j : ℕ) (n m : List Field) (b : ℕ) (bs : List ℕ) → IsUtf8 bytes → trim_end bytes ≡ b ∷ bs → is_blank b ≡ true → eqb (length n) 0 ≡ false → e ≡ d → j ≡ i
    → ((front : List Field) (last : Field) → n ≡ front ++ last ∷ [] → m ≡ front ++ with_line last bytes ∷ []) → Takes number bytes (at d i n) (at e j m)
takes_continuation number bytes d e i j [] m b bs utf8 is blank some same line push = absurd (true≢false some)
takes_continuation number bytes d e i j (x ∷ xs) m b bs utf8 is blank some same line push =
    let l = last_of x xs in
    (utf8, inr (inl (record { begin = b; rest = bs; is = is; blank = blank; front = l.0; last = l.1; now = l.2; to = same_at e d j i m (l.0 ++ with_line l.1 bytes ∷ []) same line (push l.0 l.1 l.2) })))

pub takes_field : (number : ℕ) (bytes : List ℕ) (d e : List Located) (i j : ℕ) (n m : List Field) (name value : List ℕ) → IsUtf8 bytes → bytes ≡ name ++ 58 ∷ value → Lacks name 58 → IsName name → stands name n ≡ false → e ≡ d
    → j ≡ begin_line n i number → m ≡ settled_last n ++ field_of name value ∷ [] → Takes number bytes (at d i n) (at e j m)
takes_field number bytes d e i j n m name value utf8 parts first good new same line push =
    (utf8, inr (inr (record { name = name; value = value; cut = record { parts = parts; first = first }; good = good; new = new; to = same_at e d j (begin_line n i number) m (settled_last n ++ field_of name value ∷ []) same line push })))

no_last : (front : List Field) (last : Field) → [] ≡ front ++ last ∷ [] → ⊥
no_last [] last e = cc
no_last (x ∷ front) last e = cc

blank_small : (b : ℕ) → is_blank b ≡ true → 32 < b → ⊥
blank_small b e lt = elim (or_cases (nat_eq b 32) (nat_eq b 9) e) [ inl h ↦ (let q = eqb-true b 32 h in omega arith) | inr h ↦ (let q = eqb-true b 9 h in omega arith) ]

-- a name doesn't begin with a blank
pub name_begins : (name value : List ℕ) (b : ℕ) (bs : List ℕ) → IsName name → name ++ 58 ∷ value ≡ b ∷ bs → is_blank b ≡ true → ⊥
name_begins [] value b bs good e blank = omega (arith, good.0)
name_begins (x ∷ name) value b bs good e blank = let h : x ≡ b = cc in blank_small x (ap is_blank h ∙ blank) (good.3 0 (omega arith)).0

pub not_utf8 : (bytes : List ℕ) (s : Reading) → (IsUtf8 bytes → ⊥) → IsFaultAt NotUtf8 bytes s
not_utf8 bytes s bad = record { stuck = λ number t takes. bad takes.0; has = bad; first = tt }

pub begins : (text : List ℕ) (b : ℕ) (bs : List ℕ) → text ≡ b ∷ bs → is_blank b ≡ true → BeginsBlank text
begins text b bs e blank = subst BeginsBlank (sym e) blank

orphan : (bytes : List ℕ) (s : Reading) (b : ℕ) (bs : List ℕ) → IsUtf8 bytes → trim_end bytes ≡ b ∷ bs → is_blank b ≡ true → s.begun.paragraph ≡ [] → IsFaultAt OrphanContinuation bytes s
orphan bytes s b bs utf8 is blank none = record {
  stuck = λ number t takes. elim takes.1 [
    | inl k ↦ (let h : [] ≡ b ∷ bs = sym k.blank ∙ is in cc)
    | inr (inl k) ↦ no_last k.front k.last (sym none ∙ k.now)
    | inr (inr k) ↦ name_begins k.name (trim_end k.value) b bs k.good (sym (cut_ended bytes k.name k.value k.cut.parts) ∙ is) blank
  ];
  has = (begins (trim_end bytes) b bs is blank, none);
  first = λ u. u utf8;
}

-- what doesn't begin with a blank, and isn't empty, is a field or faulty
pub no_colon : (bytes : List ℕ) (s : Reading) → IsUtf8 bytes → trim_end bytes ≢ [] → (BeginsBlank (trim_end bytes) → ⊥) → Lacks bytes 58 → IsFaultAt NoColon bytes s
no_colon bytes s utf8 some unblank lacks = record {
  stuck = λ number t takes. elim takes.1 [
    | inl k ↦ some k.blank
    | inr (inl k) ↦ unblank (begins (trim_end bytes) k.begin k.rest k.is k.blank)
    | inr (inr k) ↦ stands_there 58 k.name k.value (subst (λ (l : List ℕ). Lacks l 58) k.cut.parts lacks)
  ];
  has = (some, unblank, lacks);
  first = (λ u. u utf8, λ f. unblank f.0);
}

pub bad_name : (bytes : List ℕ) (s : Reading) (name value : List ℕ) → IsUtf8 bytes → IsCut bytes name value → (BeginsBlank (trim_end bytes) → ⊥) → (IsName name → ⊥) → IsFaultAt BadName bytes s
bad_name bytes s name value utf8 cut unblank bad = record {
  stuck = λ number t takes. elim takes.1 [
    | inl k ↦ stands_there 58 name (trim_end value) (subst (λ (l : List ℕ). Lacks l 58) (sym k.blank ∙ cut_ended bytes name value cut.parts) (λ i lt e. omega arith))
    | inr (inl k) ↦ unblank (begins (trim_end bytes) k.begin k.rest k.is k.blank)
    | inr (inr k) ↦ bad (subst IsName (one_cut 58 k.name name k.value value (sym k.cut.parts ∙ cut.parts) k.cut.first cut.first) k.good)
  ];
  has = (name, value, cut, unblank, bad);
  first = (λ u. u utf8, λ f. unblank f.0, λ f. stands_there 58 name value (subst (λ (l : List ℕ). Lacks l 58) cut.parts f.2));
}

pub twice : (bytes : List ℕ) (s : Reading) (name value : List ℕ) → IsUtf8 bytes → IsCut bytes name value → (BeginsBlank (trim_end bytes) → ⊥) → IsName name → stands name s.begun.paragraph ≡ true → IsFaultAt Twice bytes s
twice bytes s name value utf8 cut unblank good old = record {
  stuck = λ number t takes. elim takes.1 [
    | inl k ↦ stands_there 58 name (trim_end value) (subst (λ (l : List ℕ). Lacks l 58) (sym k.blank ∙ cut_ended bytes name value cut.parts) (λ i lt e. omega arith))
    | inr (inl k) ↦ unblank (begins (trim_end bytes) k.begin k.rest k.is k.blank)
    | inr (inr k) ↦ false≢true (sym k.new ∙ ap (λ (n : List ℕ). stands n s.begun.paragraph) (one_cut 58 k.name name k.value value (sym k.cut.parts ∙ cut.parts) k.cut.first cut.first) ∙ old)
  ];
  has = (name, value, cut, unblank, old);
  first = (
    λ u. u utf8,
    λ f. unblank f.0,
    λ f. stands_there 58 name value (subst (λ (l : List ℕ). Lacks l 58) cut.parts f.2),
    λ f. f.4 (subst IsName (one_cut 58 name f.0 value f.1 (sym cut.parts ∙ f.2.parts) cut.first f.2.first) good),
  );
}

-- one line more was read
pub run_more : (n k : ℕ) (ls : List (List ℕ)) (l : List ℕ) (s t u : Reading) → Run n ls s t → k ≡ length ls + n → Takes k l t u → Run n (ls ++ l ∷ []) s u
run_more n k [] l s t u run e takes = let same : k ≡ n = omega (arith, e) in (u, subst (λ (r : Reading). Takes n l r u) run (subst (λ (i : ℕ). Takes i l t u) same takes), refl)
run_more n k (x ∷ ls) l s t u run e takes = (run.0, run.1, run_more (n + 1) k ls l run.0 t u run.2 (omega (arith, e)) takes)

-- the same from what is left of the line

first_of_text : (text : List ℕ) → 1 ≤ length text → (bs : List ℕ) × (text ≡ get_or text 0 0 ∷ bs)
first_of_text [] some = absurd (omega arith)
first_of_text (b ∷ bs) some = (bs, refl)

pub continues : (number : ℕ) (bytes text : List ℕ) (d : List Located) (i j : ℕ) (n m : List Field) → IsUtf8 bytes → text ≡ trim_end bytes → 1 ≤ length text → is_blank (get_or text 0 0) ≡ true → eqb (length n) 0 ≡ false → j ≡ i
    → ((front : List Field) (last : Field) → n ≡ front ++ last ∷ [] → m ≡ front ++ with_line last bytes ∷ []) → Takes number bytes (at d i n) (at d j m)
continues number bytes text d i j n m utf8 is some blank full line push =
    let f = first_of_text text some in
    takes_continuation number bytes d d i j n m (get_or text 0 0) f.0 utf8 (sym is ∙ f.1) blank full refl line push

unblank_text : (text : List ℕ) → is_blank (get_or text 0 0) ≡ false → BeginsBlank text → ⊥
unblank_text [] e h = h
unblank_text (b ∷ bs) e h = false≢true (sym e ∙ h)

pub unblank : (bytes text : List ℕ) → text ≡ trim_end bytes → is_blank (get_or text 0 0) ≡ false → BeginsBlank (trim_end bytes) → ⊥
unblank bytes text is e h = unblank_text text e (subst BeginsBlank (sym is) h)

pub has_bytes : (bytes text : List ℕ) → text ≡ trim_end bytes → 1 ≤ length text → trim_end bytes ≢ []
has_bytes bytes text is some e = let h : length text ≡ 0 = ap length (is ∙ e) in omega arith

no_fields : (fields : List Field) → eqb (length fields) 0 ≡ true → fields ≡ []
no_fields [] e = refl
no_fields (f ∷ fs) e = let q = eqb-true (length (f ∷ fs)) 0 e in absurd (omega arith)

pub orphaned : (bytes text : List ℕ) (s : Reading) → IsUtf8 bytes → text ≡ trim_end bytes → 1 ≤ length text → is_blank (get_or text 0 0) ≡ true → eqb (length s.begun.paragraph) 0 ≡ true → IsFaultAt OrphanContinuation bytes s
orphaned bytes text s utf8 is some blank none =
    let f = first_of_text text some in
    orphan bytes s (get_or text 0 0) f.0 utf8 (sym is ∙ f.1) blank (no_fields s.begun.paragraph none)
