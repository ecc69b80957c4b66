-- The signs of a field on one line: printed ones and blanks, and neither the first nor the last is a blank.
use Rattle.std.proofs.Common.{◌≡◌, ◌≢◌, ℕ, ◌<◌, Bool, true, false, List, [], ◌∷◌, ◌++◌, length, Option, Some, None, sym, refl, ap, ◌∙◌, arith, append_assoc, append-nil}
use Rattle.std.specs.Prelude.{codes}
use Rattle.std.specs.List.{list_all, AllByRecursion}
use Rattle.std.proofs.lemmas.Bool.{and_parts, true≢false}
use Rattle.std.proofs.lemmas.Bool.Decides.{nat_tests}
use Rattle.texts.specs.PackageNames.{is_name_sign}
use Rattle.texts.proofs.PackageNames.{name_some, signs_of_name}
use Rattle.relation_fields.specs.Architectures.{is_architecture_sign}
use Rattle.relation_fields.specs.Grammar.{Reads}
use Rattle.relation_fields.specs.OneLine.{print_clauses, IsOneLine, is_printed}
use Rattle.relation_fields.specs.Printing.{operator, print_architecture, print_restriction, print_alternative, print_clause, IsRestricted, IsSuffixed, IsAlternative, IsClause}
use Rattle.relation_fields.specs.Words.{is_blank}
use Rattle.relation_fields.specs.declared.reading.Rules.{Rules}
use Rattle.relation_fields.specs.declared.restriction.Comparison.{Comparison}
use Rattle.relation_fields.specs.declared.restriction.Comparison.TheVariants.{StrictlyEarlier, EarlierOrEqual, ExactlyEqual, LaterOrEqual, StrictlyLater}
use Rattle.relation_fields.specs.declared.restriction.Restriction.{Restriction}
use Rattle.relation_fields.specs.declared.alternative.Alternative.{Alternative}
use Rattle.relation_fields.proofs.Fronts.{fronts, fronts_in, all_weaker, name_no_blank}
use Rattle.relation_fields.proofs.Suffixes.{architecture_signs}
use Rattle.relation_fields.proofs.VersionSigns.{is_plain, version_plain, all_append}
use Rattle.relation_fields.proofs.TakenApart.{clauses_printable}

-- printed signs
name_printed : (b : ℕ) → is_name_sign b ≡ true → is_printed b ≡ true
name_printed b h = grind (arith, nat_tests)

architecture_printed : (b : ℕ) → is_architecture_sign b ≡ true → is_printed b ≡ true
architecture_printed b h = grind (arith, nat_tests)

plain_printed : (b : ℕ) → is_plain b ≡ true → is_printed b ≡ true
plain_printed b h = grind (arith, nat_tests)

operator_printed : (c : Comparison) → list_all is_printed (operator c) ≡ true
operator_printed StrictlyEarlier = refl
operator_printed EarlierOrEqual = refl
operator_printed ExactlyEqual = refl
operator_printed LaterOrEqual = refl
operator_printed StrictlyLater = refl

suffix_all : (o : Option (List ℕ)) → IsSuffixed o → list_all is_printed (print_architecture o) ≡ true
suffix_all None h = refl
suffix_all (Some word) h = all_append is_printed (58 ∷ []) word refl (all_weaker is_architecture_sign is_printed word architecture_printed (architecture_signs word h))

restriction_all : (o : Option Restriction) → IsRestricted o → list_all is_printed (print_restriction o) ≡ true
restriction_all None h = refl
restriction_all (Some r) h =
    all_append is_printed (codes " (") (operator r.comparison ++ (32 ∷ (r.version ++ codes ")"))) refl
    (all_append is_printed (operator r.comparison) (32 ∷ (r.version ++ codes ")")) (operator_printed r.comparison)
    (all_append is_printed (32 ∷ []) (r.version ++ codes ")") refl
    (all_append is_printed r.version (codes ")") (all_weaker is_plain is_printed r.version plain_printed (version_plain r.version h)) refl)))

alternative_all : (a : Alternative) → IsAlternative a → list_all is_printed (print_alternative a) ≡ true
alternative_all a is =
    all_append is_printed a.name (print_architecture a.architecture ++ print_restriction a.restriction) (all_weaker is_name_sign is_printed a.name name_printed (signs_of_name a.name is.named))
    (all_append is_printed (print_architecture a.architecture) (print_restriction a.restriction) (suffix_all a.architecture is.suffixed) (restriction_all a.restriction is.restricted))

clause_all : (clause : List Alternative) → AllByRecursion IsAlternative clause → list_all is_printed (print_clause clause) ≡ true
clause_all [] is = refl
clause_all (a ∷ []) is = alternative_all a is.0
clause_all (a ∷ b ∷ more) is =
    all_append is_printed (print_alternative a) (codes " | " ++ print_clause (b ∷ more)) (alternative_all a is.0) (all_append is_printed (codes " | ") (print_clause (b ∷ more)) refl (clause_all (b ∷ more) is.1))

clauses_all : (clauses : List (List Alternative)) → AllByRecursion IsClause clauses → list_all is_printed (print_clauses clauses) ≡ true
clauses_all [] is = refl
clauses_all (c ∷ []) is = let k : IsClause c = is.0 in clause_all c k.are
clauses_all (c ∷ d ∷ cs) is =
    let k : IsClause c = is.0 in
    all_append is_printed (print_clause c) (codes ", " ++ print_clauses (d ∷ cs)) (clause_all c k.are) (all_append is_printed (codes ", ") (print_clauses (d ∷ cs)) refl (clauses_all (d ∷ cs) is.1))

pub line_printed : (rules : Rules) (value : List ℕ) (clauses : List (List Alternative)) → Reads rules value clauses → list_all is_printed (print_clauses clauses) ≡ true
line_printed rules value clauses h = clauses_all clauses (clauses_printable rules value clauses h)

-- the first sign is that of a name
alternative_front : (a : Alternative) (rest : List ℕ) → IsAlternative a → fronts is_blank (print_alternative a ++ rest) ≡ false
alternative_front a rest is =
    let tail : List ℕ = (print_architecture a.architecture ++ print_restriction a.restriction) ++ rest in
    ap (fronts is_blank) (append_assoc a.name (print_architecture a.architecture ++ print_restriction a.restriction) rest)
    ∙ fronts_in is_name_sign is_blank a.name tail name_no_blank (signs_of_name a.name is.named) (name_some a.name a.name refl is.named)

clause_front : (clause : List Alternative) (rest : List ℕ) → IsClause clause → fronts is_blank (print_clause clause ++ rest) ≡ false
clause_front [] rest is = absurd (is.some refl)
clause_front (a ∷ []) rest is = alternative_front a rest is.are.0
clause_front (a ∷ b ∷ more) rest is =
    ap (fronts is_blank) (append_assoc (print_alternative a) (codes " | " ++ print_clause (b ∷ more)) rest) ∙ alternative_front a ((codes " | " ++ print_clause (b ∷ more)) ++ rest) is.are.0

clauses_front : (clauses : List (List Alternative)) → AllByRecursion IsClause clauses → fronts is_blank (print_clauses clauses) ≡ false
clauses_front [] is = refl
clauses_front (c ∷ []) is = ap (fronts is_blank) (sym (append-nil (print_clause c))) ∙ clause_front c [] is.0
clauses_front (c ∷ d ∷ cs) is = clause_front c (codes ", " ++ print_clauses (d ∷ cs)) is.0

pub line_front : (rules : Rules) (value : List ℕ) (clauses : List (List Alternative)) → Reads rules value clauses → (rest : List ℕ) → print_clauses clauses ≢ 32 ∷ rest
line_front rules value clauses h rest e =
    true≢false (ap (fronts is_blank) (sym e) ∙ clauses_front clauses (clauses_printable rules value clauses h))

-- the last sign, or this one where there is none
abbrev last_or : ℕ → List ℕ → ℕ
last_or b [] = b
last_or b (x ∷ xs) = last_or x xs

last_behind : (b : ℕ) (xs ys : List ℕ) → last_or b (xs ++ ys) ≡ last_or (last_or b xs) ys
last_behind b [] ys = refl
last_behind b (x ∷ xs) ys = last_behind x xs ys

last_of : (p : ℕ → Bool) (b : ℕ) (xs : List ℕ) → ((x : ℕ) → p x ≡ true → is_blank x ≡ false) → list_all p xs ≡ true → is_blank b ≡ false → is_blank (last_or b xs) ≡ false
last_of p b [] w h k = k
last_of p b (x ∷ xs) w h k = let e = and_parts (p x) (list_all p xs) h in last_of p x xs w e.1 (w x e.0)

last_some : (p : ℕ → Bool) (b : ℕ) (xs : List ℕ) → ((x : ℕ) → p x ≡ true → is_blank x ≡ false) → list_all p xs ≡ true → 0 < length xs → is_blank (last_or b xs) ≡ false
last_some p b [] w h some = absurd (omega arith)
last_some p b (x ∷ xs) w h some = let e = and_parts (p x) (list_all p xs) h in last_of p x xs w e.1 (w x e.0)

architecture_no_blank : (b : ℕ) → is_architecture_sign b ≡ true → is_blank b ≡ false
architecture_no_blank b h = grind (arith, nat_tests)

suffix_last : (b : ℕ) (o : Option (List ℕ)) → IsSuffixed o → is_blank b ≡ false → is_blank (last_or b (print_architecture o)) ≡ false
suffix_last b None is k = k
suffix_last b (Some word) is k = last_of is_architecture_sign 58 word architecture_no_blank (architecture_signs word is) refl

restriction_last : (b : ℕ) (o : Option Restriction) → is_blank b ≡ false → is_blank (last_or b (print_restriction o)) ≡ false
restriction_last b None k = k
restriction_last b (Some r) k = ap is_blank (last_behind 40 (operator r.comparison) (32 ∷ (r.version ++ codes ")")) ∙ last_behind 32 r.version (codes ")"))

alternative_last : (b : ℕ) (a : Alternative) → IsAlternative a → is_blank (last_or b (print_alternative a)) ≡ false
alternative_last b a is =
    let n : ℕ = last_or b a.name in
    let named : is_blank (last_or b a.name) ≡ false = last_some is_name_sign b a.name name_no_blank (signs_of_name a.name is.named) (name_some a.name a.name refl is.named) in
    ap is_blank (last_behind b a.name (print_architecture a.architecture ++ print_restriction a.restriction) ∙ last_behind n (print_architecture a.architecture) (print_restriction a.restriction))
    ∙ restriction_last (last_or n (print_architecture a.architecture)) a.restriction (suffix_last n a.architecture is.suffixed named)

alternatives_last : (b : ℕ) (a : Alternative) (more : List Alternative) → AllByRecursion IsAlternative (a ∷ more) → is_blank (last_or b (print_clause (a ∷ more))) ≡ false
alternatives_last b a [] is = alternative_last b a is.0
alternatives_last b a (d ∷ more) is = ap is_blank (last_behind b (print_alternative a) (codes " | " ++ print_clause (d ∷ more))) ∙ alternatives_last 32 d more is.1

clause_last : (b : ℕ) (clause : List Alternative) → IsClause clause → is_blank (last_or b (print_clause clause)) ≡ false
clause_last b [] is = absurd (is.some refl)
clause_last b (a ∷ more) is = alternatives_last b a more is.are

clauses_last : (b : ℕ) (c : List Alternative) (cs : List (List Alternative)) → AllByRecursion IsClause (c ∷ cs) → is_blank (last_or b (print_clauses (c ∷ cs))) ≡ false
clauses_last b c [] is = clause_last b c is.0
clauses_last b c (d ∷ cs) is = ap is_blank (last_behind b (print_clause c) (codes ", " ++ print_clauses (d ∷ cs))) ∙ clauses_last 32 d cs is.1

whole_last : (clauses : List (List Alternative)) → AllByRecursion IsClause clauses → is_blank (last_or 65 (print_clauses clauses)) ≡ false
whole_last [] is = refl
whole_last (c ∷ cs) is = clauses_last 65 c cs is

pub line_end : (rules : Rules) (value : List ℕ) (clauses : List (List Alternative)) → Reads rules value clauses → (front : List ℕ) → print_clauses clauses ≢ front ++ 32 ∷ []
line_end rules value clauses h front e =
    let blank : is_blank (last_or 65 (print_clauses clauses)) ≡ true = ap (λ (t : List ℕ). is_blank (last_or 65 t)) e ∙ ap is_blank (last_behind 65 front (32 ∷ [])) in
    true≢false (sym blank ∙ whole_last clauses (clauses_printable rules value clauses h))

-- the same of a value as dpkg writes it
pub one_line_printed : (key value text : List ℕ) → IsOneLine key value text → list_all is_printed text ≡ true
one_line_printed key value text h = ap (list_all is_printed) h.written ∙ line_printed h.rules value h.clauses h.reads

pub one_line_front : (key value text : List ℕ) → IsOneLine key value text → (rest : List ℕ) → text ≢ 32 ∷ rest
one_line_front key value text h rest e = line_front h.rules value h.clauses h.reads rest (sym h.written ∙ e)

pub one_line_end : (key value text : List ℕ) → IsOneLine key value text → (front : List ℕ) → text ≢ front ++ 32 ∷ []
one_line_end key value text h front e = line_end h.rules value h.clauses h.reads front (sym h.written ∙ e)
