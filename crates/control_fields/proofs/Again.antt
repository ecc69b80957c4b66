-- What is written is read again.
use Rattle.std.proofs.Common.{◌≡◌, ◌+◌, ℕ, Bool, true, false, cond, eqb, List, [], ◌∷◌, ◌++◌, length, refl, sym, ap, subst, ◌∙◌, append_assoc, arith}
use Rattle.std.specs.List.{AllByRecursion}
use Rattle.std.proofs.lemmas.Str.{IsUtf8-nil}
use Rattle.std.proofs.lemmas.Bool.{ne_eqb}
use Rattle.std.proofs.lemmas.List.{append-nil, map-append}
use Rattle.std.proofs.lemmas.List.Concat.{flat_map-cons}
use Rattle.control_fields.specs.Names.{is_blank, trim_end, trim_start, settled_last, stands, with_line, begin_line}
use Rattle.control_fields.specs.Faults.{BeginsBlank}
use Rattle.control_fields.specs.Grammar.{Reading, nothing, closed, with_last, Takes, Run, Reads, lines_of, paragraphs_of}
use Rattle.control_fields.specs.Spelling.{has_no_blank, spell_more, spell_first, spell_field, spell, spell_all, first_line, IsMore, IsField, AreFields, IsParagraph}
use Rattle.control_fields.specs.declared.field.Field.{Field}
use Rattle.control_fields.specs.declared.located.Located.{Located}
use Rattle.control_fields.proofs.Cases.{at, takes_separator, takes_continuation, takes_field}
use Rattle.control_fields.proofs.LinesOf.{lines_cut}
use Rattle.control_fields.proofs.Settled.{settled_end}

abbrev with_lines : Field → List (List ℕ) → Field
with_lines f ls = record { name = f.name; first = f.first; more = f.more ++ ls }

some_last : (front : List Field) (f : Field) → eqb (length (front ++ f ∷ [])) 0 ≡ false
some_last [] f = refl
some_last (x ∷ front) f = ne_eqb (length ((x ∷ front) ++ f ∷ [])) 0 (λ e. omega arith)

pub last_is : (a b : List Field) (f g : Field) → a ++ f ∷ [] ≡ b ++ g ∷ [] → (l : List ℕ) → a ++ with_line f l ∷ [] ≡ b ++ with_line g l ∷ []
last_is [] [] f g e l = let h : f ≡ g = cc e in ap (λ (x : Field). with_line x l ∷ []) h
last_is [] (y ∷ []) f g e l = absurd (let h : [] ≡ g ∷ [] = cc e in cc h)
last_is [] (y ∷ z ∷ b) f g e l = absurd (let h : [] ≡ z ∷ (b ++ g ∷ []) = cc e in cc h)
last_is (x ∷ []) [] f g e l = absurd (let h : f ∷ [] ≡ [] = cc e in cc h)
last_is (x ∷ z ∷ a) [] f g e l = absurd (let h : z ∷ (a ++ f ∷ []) ≡ [] = cc e in cc h)
last_is (x ∷ a) (y ∷ b) f g e l =
    let h : x ≡ y = cc e in
    let t : a ++ f ∷ [] ≡ b ++ g ∷ [] = cc e in
    let m = last_is a b f g t l in cc (h, m)

-- reading these lines ends, and then these paragraphs were read
abbrev pub Finishes : ℕ → List (List ℕ) → Reading → List (List Field) → Type 0
Finishes n ls s ps = (u : Reading) × Run n ls s u × (ps ≡ paragraphs_of (closed u))

first_step : (n : ℕ) (l : List ℕ) (ls : List (List ℕ)) (s m : Reading) (ps : List (List Field)) → Takes n l s m → Finishes (n + 1) ls m ps → Finishes n (l ∷ ls) s ps
first_step n l ls s m ps takes f = (f.0, (m, takes, f.1), f.2)

blank_parts : (text : List ℕ) → BeginsBlank text → (b : ℕ) × (bs : List ℕ) × (text ≡ b ∷ bs) × (is_blank b ≡ true)
blank_parts [] is = absurd is
blank_parts (b ∷ bs) is = (b, bs, refl, is)

takes_more : (n : ℕ) (d : List Located) (i : ℕ) (front : List Field) (f : Field) (l : List ℕ) → IsMore l → Takes n l (at d i (front ++ f ∷ [])) (at d i (front ++ with_line f l ∷ []))
takes_more n d i front f l is =
    let p = blank_parts (trim_end l) is.blank in
    takes_continuation n l d d i i (front ++ f ∷ []) (front ++ with_line f l ∷ []) p.0 p.1 is.utf8 p.2 p.3 (some_last front f) refl refl (λ a g e. last_is front a f g e l)

finish_more : (n : ℕ) (d : List Located) (i : ℕ) (front : List Field) (f : Field) (ls rest : List (List ℕ)) (ps : List (List Field)) → AllByRecursion IsMore ls
    → ((k : ℕ) → Finishes k rest (at d i (front ++ with_lines f ls ∷ [])) ps) → Finishes n (ls ++ rest) (at d i (front ++ f ∷ [])) ps
finish_more n d i front f [] rest ps all later = subst (λ (ms : List (List ℕ)). Finishes n rest (at d i (front ++ (let g : Field = record { name = f.name; first = f.first; more = ms } in g) ∷ [])) ps) (append-nil f.more) (later n)
finish_more n d i front f (l ∷ ls) rest ps all later =
    first_step n l (ls ++ rest) (at d i (front ++ f ∷ [])) (at d i (front ++ with_line f l ∷ [])) ps
    (takes_more n d i front f l all.0)
    (finish_more (n + 1) d i front (with_line f l) ls rest ps all.1
    (λ k. subst (λ (ms : List (List ℕ)). Finishes k rest (at d i (front ++ (let g : Field = record { name = f.name; first = f.first; more = ms } in g) ∷ [])) ps) (sym (append_assoc f.more (l ∷ []) ls)) (later k)))

more_lines : (ls : List (List ℕ)) (tail : List ℕ) → AllByRecursion IsMore ls → lines_of (spell_more ls ++ tail) ≡ ls ++ lines_of tail
more_lines [] tail all = refl
more_lines (l ∷ ls) tail all =
    lines_cut (spell_more (l ∷ ls) ++ tail) l (spell_more ls ++ tail)
    (ap (λ (t : List ℕ). t ++ tail) (flat_map-cons (λ (x : List ℕ). x ++ 10 ∷ []) l ls ∙ append_assoc l (10 ∷ []) (spell_more ls)) ∙ append_assoc l (10 ∷ spell_more ls) tail) all.0.one_line
    ∙ ap (λ (t : List (List ℕ)). l ∷ t) (more_lines ls tail all.1)

field_lines : (f : Field) (tail : List ℕ) → IsField f → lines_of (spell_field f ++ tail) ≡ first_line f ∷ (f.more ++ lines_of tail)
field_lines f tail is =
    lines_cut (spell_field f ++ tail) (first_line f) (spell_more f.more ++ tail)
    (simp append_assoc) is.one_line
    ∙ ap (λ (t : List (List ℕ)). first_line f ∷ t) (more_lines f.more tail is.more)

first_again : (name first : List ℕ) → trim_start first ≡ first → trim_start (spell_first name first) ≡ first
first_again name [] e = by (has_no_blank name [])
  where
    by : (b : Bool) → trim_start (cond b [] (32 ∷ [])) ≡ []
    by true = refl
    by false = refl
first_again name (b ∷ bs) e = e

takes_first : (n : ℕ) (d : List Located) (i : ℕ) (before : List Field) (f : Field) → settled_last before ≡ before → IsField f → stands f.name before ≡ false
    → Takes n (first_line f) (at d i before) (at d (begin_line before i n) (before ++ (let g : Field = record { name = f.name; first = f.first; more = [] } in g) ∷ []))
takes_first n d i before f whole is new = takes_field n (first_line f) d d i (begin_line before i n) before (before ++ (let g : Field = record { name = f.name; first = f.first; more = [] } in g) ∷ []) f.name (spell_first f.name f.first) is.utf8 refl is.no_colon is.name new refl refl
    (ap (λ (fs : List Field). fs ++ (let g : Field = record { name = f.name; first = f.first; more = [] } in g) ∷ []) (sym whole)
    ∙ ap (λ (t : List ℕ). settled_last before ++ (let g : Field = record { name = f.name; first = t; more = [] } in g) ∷ []) (sym (first_again f.name f.first is.start_trimmed)))

whole_last : (before : List Field) (f : Field) → IsField f → settled_last (before ++ f ∷ []) ≡ before ++ f ∷ []
whole_last before f is = settled_end before f ∙ ap (λ (g : Field). before ++ g ∷ []) is.ended

whole_fields : (before fs : List Field) → AreFields before fs → settled_last fs ≡ fs
whole_fields before [] are = refl
whole_fields before (f ∷ []) are = ap (λ (g : Field). g ∷ []) are.0.ended
whole_fields before (f ∷ g ∷ fs) are = ap (λ (l : List Field). f ∷ l) (whole_fields (before ++ f ∷ []) (g ∷ fs) are.2)

-- fields after others, and then what follows them, on whatever line
finish_fields : (n : ℕ) (d : List Located) (i : ℕ) (before p : List Field) (tail : List ℕ) (ps : List (List Field)) → settled_last before ≡ before → AreFields before p
    → ((k j : ℕ) → Finishes k (lines_of tail) (at d j (before ++ p)) ps) → Finishes n (lines_of (spell p ++ tail)) (at d i before) ps
finish_fields n d i before [] tail ps whole are later = subst (λ (fs : List Field). Finishes n (lines_of tail) (at d i fs) ps) (append-nil before) (later n i)
finish_fields n d i before (f ∷ p) tail ps whole are later =
    let bare : Field = record { name = f.name; first = f.first; more = [] } in
    let lines : lines_of (spell (f ∷ p) ++ tail) ≡ first_line f ∷ (f.more ++ lines_of (spell p ++ tail)) = ap (λ (t : List ℕ). lines_of (t ++ tail)) (flat_map-cons spell_field f p) ∙ ap lines_of (append_assoc (spell_field f) (spell p) tail) ∙ field_lines f (spell p ++ tail) are.0 in
    let j : ℕ = begin_line before i n in
    subst (λ (ls : List (List ℕ)). Finishes n ls (at d i before) ps) (sym lines)
    (first_step n (first_line f) (f.more ++ lines_of (spell p ++ tail)) (at d i before) (at d j (before ++ bare ∷ [])) ps (takes_first n d i before f whole are.0 are.1)
    (finish_more (n + 1) d j before bare f.more (lines_of (spell p ++ tail)) ps are.0.more
    (λ k. finish_fields k d j (before ++ f ∷ []) p tail ps (whole_last before f are.0) are.2
    (λ m q. subst (λ (fs : List Field). Finishes m (lines_of tail) (at d q fs) ps) (sym (append_assoc before (f ∷ []) p)) (later m q)))))

after_last : (d : List Located) (j : ℕ) (p : List Field) (ps : List (List Field)) → (p ≡ [] → ⊥) → AreFields [] p → paragraphs_of (with_last d (record { line = j; paragraph = p })) ++ ps ≡ paragraphs_of d ++ p ∷ ps
after_last d j [] ps some are = absurd (some refl)
after_last d j (f ∷ p) ps some are =
    let last : Located = record { line = j; paragraph = settled_last (f ∷ p) } in
    ap (λ (l : List (List Field)). l ++ ps) (map-append (λ (l : Located). l.paragraph) d (last ∷ [])) ∙ append_assoc (paragraphs_of d) (settled_last (f ∷ p) ∷ []) ps
    ∙ ap (λ (q : List Field). paragraphs_of d ++ q ∷ ps) (whole_fields [] (f ∷ p) are)

-- a blank line ends a paragraph
finish_blank : (n : ℕ) (ls : List (List ℕ)) (s : Reading) (ps : List (List Field)) → Finishes (n + 1) ls (record { done = closed s; begun = nothing }) ps → Finishes n ([] ∷ ls) s ps
finish_blank n ls s ps f = first_step n [] ls s (record { done = closed s; begun = nothing }) ps (takes_separator n [] s IsUtf8-nil refl) f

finish_end : (n : ℕ) (s : Reading) → Finishes n ([] ∷ []) s (paragraphs_of (closed s))
finish_end n s = finish_blank n [] s (paragraphs_of (closed s)) (record { done = closed s; begun = nothing }, refl, refl)

finish_all : (n : ℕ) (d : List Located) (ps : List (List Field)) → AllByRecursion IsParagraph ps → Finishes n (lines_of (spell_all ps)) (record { done = d; begun = nothing }) (paragraphs_of d ++ ps)
finish_all n d [] all = subst (λ (qs : List (List Field)). Finishes n ([] ∷ []) (record { done = d; begun = nothing }) qs) (sym (append-nil (paragraphs_of d))) (finish_end n (record { done = d; begun = nothing }))
finish_all n d (p ∷ []) all =
    subst (λ (t : List ℕ). Finishes n (lines_of t) (record { done = d; begun = nothing }) (paragraphs_of d ++ p ∷ [])) (append-nil (spell p))
    (finish_fields n d 0 [] p [] (paragraphs_of d ++ p ∷ []) refl all.0.are
    (λ k j. subst (λ (qs : List (List Field)). Finishes k ([] ∷ []) (at d j p) qs) (sym (append-nil (paragraphs_of (with_last d (record { line = j; paragraph = p })))) ∙ after_last d j p [] all.0.some all.0.are) (finish_end k (at d j p))))
finish_all n d (p ∷ q ∷ ps) all =
    finish_fields n d 0 [] p (10 ∷ spell_all (q ∷ ps)) (paragraphs_of d ++ p ∷ q ∷ ps) refl all.0.are
    (λ k j. finish_blank k (lines_of (spell_all (q ∷ ps))) (at d j p) (paragraphs_of d ++ p ∷ q ∷ ps)
    (subst (λ (qs : List (List Field)). Finishes (k + 1) (lines_of (spell_all (q ∷ ps))) (record { done = closed (at d j p); begun = nothing }) qs) (after_last d j p (q ∷ ps) all.0.some all.0.are)
    (finish_all (k + 1) (closed (at d j p)) (q ∷ ps) all.1)))

pub all_again : (ps : List (List Field)) → AllByRecursion IsParagraph ps → Reads (lines_of (spell_all ps)) ps
all_again ps all = finish_all 1 [] ps all

pub again : (p : List Field) → IsParagraph p → Reads (lines_of (spell p)) (p ∷ [])
again p is = all_again (p ∷ []) (is, tt)
