-- Lines of a field and paragraphs, written one after another.
use Rattle.std.proofs.Common.{◌≡◌, ◌<◌, ◌≤◌, ◌+◌, ℕ, zero, suc, List, [], ◌∷◌, ◌++◌, length, get_or, take, sym, ap, ◌∙◌, append_assoc, arith}
use Rattle.std.proofs.lemmas.List.{take_more, take_all, flat_map_more}
use Rattle.control_fields.specs.Spelling.{first_line, spell_more, spell_field, spell, spell_all}
use Rattle.control_fields.specs.declared.field.Field.{Field}

after_some : (p : List Field) (ps : List (List Field)) (q : List Field) → spell_all ((p ∷ ps) ++ q ∷ []) ≡ (spell_all (p ∷ ps) ++ 10 ∷ []) ++ spell q
after_some p [] q = sym (append_assoc (spell p) (10 ∷ []) (spell q))
after_some p (r ∷ ps) q =
    ap (λ (t : List ℕ). spell p ++ 10 ∷ t) (after_some r ps q) ∙ simp append_assoc

at_later : (ps : List (List Field)) (i : ℕ) (q : List Field) → 0 < i → i < length ps → spell_all (take i ps ++ q ∷ []) ≡ (spell_all (take i ps) ++ 10 ∷ []) ++ spell q
at_later [] i q some lt = absurd (omega arith)
at_later (p ∷ ps) zero q some lt = absurd (omega arith)
at_later (p ∷ ps) (suc i) q some lt = after_some p (take i ps) q

-- the first one
pub spelled_first : (ps : List (List Field)) (i : ℕ) (q : List Field) (out : List ℕ) → i ≡ 0 → i < length ps → q ≡ get_or ps i q → out ≡ spell_all (take i ps) → out ++ spell q ≡ spell_all (take (i + 1) ps)
spelled_first [] i q out none lt is so = absurd (omega arith)
spelled_first (p ∷ ps) zero q out none lt is so = ap (λ (t : List ℕ). t ++ spell q) so ∙ ap spell is
spelled_first (p ∷ ps) (suc i) q out none lt is so = absurd (omega arith)

-- a further one, after a blank line
pub spelled_later : (ps : List (List Field)) (i : ℕ) (q : List Field) (out : List ℕ) → 0 < i → i < length ps → q ≡ get_or ps i q → out ≡ spell_all (take i ps) → (out ++ 10 ∷ []) ++ spell q ≡ spell_all (take (i + 1) ps)
spelled_later ps i q out some lt is so =
    ap (λ (t : List ℕ). (t ++ 10 ∷ []) ++ spell q) so ∙ sym (at_later ps i q some lt)
    ∙ ap (λ (r : List Field). spell_all (take i ps ++ r ∷ [])) is ∙ ap spell_all (sym (take_more ps i q lt))

-- a line more of a field
pub spelled_more : (ls : List (List ℕ)) (i : ℕ) (l before out : List ℕ) → i < length ls → l ≡ get_or ls i l → out ≡ before ++ spell_more (take i ls) → (out ++ l) ++ 10 ∷ [] ≡ before ++ spell_more (take (i + 1) ls)
spelled_more ls i l before out lt is so =
    append_assoc out l (10 ∷ []) ∙ ap (λ (t : List ℕ). t ++ (l ++ 10 ∷ [])) so ∙ flat_map_more (λ (x : List ℕ). x ++ 10 ∷ []) before (take i ls) l
    ∙ ap (λ (x : List ℕ). before ++ spell_more (take i ls ++ x ∷ [])) is ∙ ap (λ (t : List (List ℕ)). before ++ spell_more t) (sym (take_more ls i l lt))

-- all lines of a field
pub spelled_field : (f : Field) (i : ℕ) (before : List ℕ) → length f.more ≤ i → (before ++ (first_line f ++ 10 ∷ [])) ++ spell_more (take i f.more) ≡ before ++ spell_field f
spelled_field f i before all =
    ap (λ (t : List (List ℕ)). (before ++ (first_line f ++ 10 ∷ [])) ++ spell_more t) (take_all i f.more all)
    ∙ append_assoc before (first_line f ++ 10 ∷ []) (spell_more f.more) ∙ ap (λ (t : List ℕ). before ++ t) (append_assoc (first_line f) (10 ∷ []) (spell_more f.more))
