-- What trimming leaves, and what it takes.
use Rattle.std.proofs.Common.{◌≡◌, ◌≢◌, ◌<◌, ◌≤◌, ℕ, zero, suc, Bool, true, false, cond, List, [], ◌∷◌, ◌++◌, length, get_or, refl, sym, ap, subst, ◌∙◌, inl, inr, arith}
use Rattle.std.specs.Prelude.{nat_eq}
use Rattle.std.specs.Str.{IsUtf8, IsAscii}
use Rattle.std.specs.List.{AllByRecursion}
use Rattle.std.proofs.Math.Seq.{take-append_seam}
use Rattle.std.proofs.lemmas.Bool.{eqb-true, or_cases}
use Rattle.std.proofs.lemmas.List.{length-append, drop_at}
use Rattle.std.proofs.lemmas.Str.{IsUtf8-take, IsUtf8-drop, IsCharBoundary-at_seam, IsCharBoundary-from_take}
use Rattle.std.proofs.lemmas.Str.Ascii.{IsAscii-nil, IsAscii-cons}
use Rattle.control_fields.specs.Names.{Lacks, is_blank, keep_before, trim_end, trim_start}
use Rattle.control_fields.proofs.Parts.{Lacks-tail}

abbrev pub AreBlank : List ℕ → Type 0
AreBlank bs = AllByRecursion (λ b. is_blank b ≡ true) bs

pub blank_is_ascii : (b : ℕ) → is_blank b ≡ true → b < 128
blank_is_ascii b e = elim (or_cases (nat_eq b 32) (nat_eq b 9) e) [ inl h ↦ (let q = eqb-true b 32 h in omega arith) | inr h ↦ (let q = eqb-true b 9 h in omega arith) ]

pub blanks_are_ascii : (bs : List ℕ) → AreBlank bs → IsAscii bs
blanks_are_ascii [] all = IsAscii-nil
blanks_are_ascii (b ∷ bs) all = IsAscii-cons b bs (blank_is_ascii b all.0) (blanks_are_ascii bs all.1)

-- a part of a text, where the other part is a text
pub utf8_front : (xs ys : List ℕ) → IsUtf8 (xs ++ ys) → IsUtf8 ys → IsUtf8 xs
utf8_front xs ys all rest = subst IsUtf8 (take-append_seam xs ys) (IsUtf8-take (xs ++ ys) (length xs) all (IsCharBoundary-at_seam (xs ++ ys) xs ys refl rest))

pub utf8_rest : (xs ys : List ℕ) → IsUtf8 (xs ++ ys) → IsUtf8 xs → IsUtf8 ys
utf8_rest xs ys all front =
    let le : length xs ≤ length (xs ++ ys) = omega (arith, length-append xs ys) in
    subst IsUtf8 (drop_at xs ys (length xs) refl) (IsUtf8-drop (xs ++ ys) (length xs) all (IsCharBoundary-from_take (xs ++ ys) (length xs) all le (subst IsUtf8 (sym (take-append_seam xs ys)) front)))

-- what a part lacks

pub lacks_cons : (x : ℕ) (xs : List ℕ) (m : ℕ) → x ≢ m → Lacks xs m → Lacks (x ∷ xs) m
lacks_cons x xs m ne h = λ i. at i
  where
    at : (i : ℕ) → i < length (x ∷ xs) → get_or (x ∷ xs) i 0 ≢ m
    at zero lt = ne
    at (suc i) lt = h i (omega arith)

pub lacks_front : (xs ys : List ℕ) (m : ℕ) → Lacks (xs ++ ys) m → Lacks xs m
lacks_front [] ys m h = λ i lt e. omega (arith, lt)
lacks_front (x ∷ xs) ys m h = lacks_cons x xs m (h 0 (omega arith)) (lacks_front xs ys m (Lacks-tail x (xs ++ ys) m h))

pub lacks_rest : (xs ys : List ℕ) (m : ℕ) → Lacks (xs ++ ys) m → Lacks ys m
lacks_rest [] ys m h = h
lacks_rest (x ∷ xs) ys m h = lacks_rest xs ys m (Lacks-tail x (xs ++ ys) m h)

pub lacks_append : (xs ys : List ℕ) (m : ℕ) → Lacks xs m → Lacks ys m → Lacks (xs ++ ys) m
lacks_append [] ys m h k = k
lacks_append (x ∷ xs) ys m h k = lacks_cons x (xs ++ ys) m (h 0 (omega arith)) (lacks_append xs ys m (Lacks-tail x xs m h) k)

-- blanks at the end

keep_parts : (b : ℕ) (t w : List ℕ) → AreBlank w → (v : List ℕ) × (b ∷ (t ++ w) ≡ keep_before b t ++ v) × AreBlank v
keep_parts b [] w all = by (is_blank b) refl
  where
    by : (x : Bool) → is_blank b ≡ x → (v : List ℕ) × (b ∷ w ≡ keep_before b [] ++ v) × AreBlank v
    by true e = (b ∷ w, ap (λ y. cond y [] (b ∷ []) ++ b ∷ w) (sym e), (e, all))
    by false e = (w, ap (λ y. cond y [] (b ∷ []) ++ w) (sym e), all)
keep_parts b (c ∷ cs) w all = (w, refl, all)

pub end_parts : (bs : List ℕ) → (v : List ℕ) × (bs ≡ trim_end bs ++ v) × AreBlank v
end_parts [] = ([], refl, tt)
end_parts (b ∷ bs) =
    let m = end_parts bs in
    let k = keep_parts b (trim_end bs) m.0 m.2 in
    (k.0, ap (λ (l : List ℕ). b ∷ l) m.1 ∙ k.1, k.2)

keep_again : (b : ℕ) (t : List ℕ) → trim_end t ≡ t → trim_end (keep_before b t) ≡ keep_before b t
keep_again b [] e = by (is_blank b) refl
  where
    by : (x : Bool) → is_blank b ≡ x → trim_end (keep_before b []) ≡ keep_before b []
    by true h = ap (λ y. trim_end (cond y [] (b ∷ []))) h ∙ ap (λ y. cond y [] (b ∷ [])) (sym h)
    by false h = ap (λ y. trim_end (cond y [] (b ∷ []))) h
keep_again b (c ∷ cs) e = ap (keep_before b) e

pub trim_end_again : (bs : List ℕ) → trim_end (trim_end bs) ≡ trim_end bs
trim_end_again [] = refl
trim_end_again (b ∷ bs) = keep_again b (trim_end bs) (trim_end_again bs)

keep_some : (b : ℕ) (t : List ℕ) → t ≢ [] → keep_before b t ≡ b ∷ t
keep_some b [] some = absurd (some refl)
keep_some b (c ∷ cs) some = refl

some_append : (a w : List ℕ) → w ≢ [] → a ++ w ≢ []
some_append [] w some = some
some_append (x ∷ a) w some = λ e. cc e

-- what stands before a trimmed text isn't trimmed
pub trimmed_after : (a w : List ℕ) → w ≢ [] → trim_end w ≡ w → trim_end (a ++ w) ≡ a ++ w
trimmed_after [] w some e = e
trimmed_after (x ∷ a) w some e = ap (keep_before x) (trimmed_after a w some e) ∙ keep_some x (a ++ w) (some_append a w some)

kept_all : (x : ℕ) (t u : List ℕ) → keep_before x t ≡ x ∷ u → t ≡ u
kept_all x [] u e = by (is_blank x) refl
  where
    by : (y : Bool) → is_blank x ≡ y → [] ≡ u
    by true h = absurd (let k : [] ≡ x ∷ u = ap (λ z. cond z [] (x ∷ [])) (sym h) ∙ e in cc k)
    by false h = let k : x ∷ [] ≡ x ∷ u = ap (λ z. cond z [] (x ∷ [])) (sym h) ∙ e in cc k
kept_all x (c ∷ cs) u e = cc e

-- the end of a trimmed text is trimmed
pub trimmed_part : (a w : List ℕ) → trim_end (a ++ w) ≡ a ++ w → trim_end w ≡ w
trimmed_part [] w e = e
trimmed_part (x ∷ a) w e = trimmed_part a w (kept_all x (trim_end (a ++ w)) (a ++ w) e)

-- a colon and what stands before it stay
pub cut_ended : (bytes name value : List ℕ) → bytes ≡ name ++ 58 ∷ value → trim_end bytes ≡ name ++ 58 ∷ trim_end value
cut_ended bytes name value parts = ap trim_end parts ∙ cut name
  where
    colon : (t : List ℕ) → keep_before 58 t ≡ 58 ∷ t
    colon [] = refl
    colon (c ∷ cs) = refl

    kept : (x : ℕ) (a t : List ℕ) → keep_before x (a ++ 58 ∷ t) ≡ x ∷ (a ++ 58 ∷ t)
    kept x [] t = refl
    kept x (y ∷ a) t = refl

    cut : (a : List ℕ) → trim_end (a ++ 58 ∷ value) ≡ a ++ 58 ∷ trim_end value
    cut [] = colon (trim_end value)
    cut (x ∷ a) = ap (keep_before x) (cut a) ∙ kept x a (trim_end value)

-- blanks at the start

start_by : (b : ℕ) (bs : List ℕ) (x : Bool) → is_blank b ≡ x → (v : List ℕ) → bs ≡ v ++ trim_start bs → AreBlank v → (v : List ℕ) × (b ∷ bs ≡ v ++ trim_start (b ∷ bs)) × AreBlank v
start_by b bs true e v is all = (b ∷ v, ap (λ (l : List ℕ). b ∷ l) is ∙ ap (λ y. b ∷ (v ++ cond y (trim_start bs) (b ∷ bs))) (sym e), (e, all))
start_by b bs false e v is all = ([], ap (λ y. cond y (trim_start bs) (b ∷ bs)) (sym e), tt)

pub start_parts : (bs : List ℕ) → (v : List ℕ) × (bs ≡ v ++ trim_start bs) × AreBlank v
start_parts [] = ([], refl, tt)
start_parts (b ∷ bs) = let m = start_parts bs in start_by b bs (is_blank b) refl m.0 m.1 m.2

again_by : (b : ℕ) (bs : List ℕ) (x : Bool) → is_blank b ≡ x → trim_start (trim_start bs) ≡ trim_start bs → trim_start (trim_start (b ∷ bs)) ≡ trim_start (b ∷ bs)
again_by b bs true e before = ap (λ y. trim_start (cond y (trim_start bs) (b ∷ bs))) e ∙ before ∙ ap (λ y. cond y (trim_start bs) (b ∷ bs)) (sym e)
again_by b bs false e before = ap (λ y. trim_start (cond y (trim_start bs) (b ∷ bs))) e

pub trim_start_again : (bs : List ℕ) → trim_start (trim_start bs) ≡ trim_start bs
trim_start_again [] = refl
trim_start_again (b ∷ bs) = again_by b bs (is_blank b) refl (trim_start_again bs)
