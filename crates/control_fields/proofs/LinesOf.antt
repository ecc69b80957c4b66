-- Lines one after another.
use Rattle.std.proofs.Common.{◌≡◌, ℕ, cond, List, [], ◌∷◌, ◌++◌, refl, ap, ◌∙◌, arith}
use Rattle.std.specs.List.{onto_first}
use Rattle.std.proofs.lemmas.Bool.{ne_eqb}
use Rattle.control_fields.specs.Names.{Lacks}
use Rattle.control_fields.specs.Grammar.{lines_of}
use Rattle.control_fields.proofs.Parts.{Lacks-tail}

lines_cut_text : (line after : List ℕ) → Lacks line 10 → lines_of (line ++ 10 ∷ after) ≡ line ∷ lines_of after
lines_cut_text [] after h = refl
lines_cut_text (x ∷ line) after h =
    ap (λ b. cond b ([] ∷ lines_of (line ++ 10 ∷ after)) (onto_first x (lines_of (line ++ 10 ∷ after)))) (ne_eqb x 10 (h 0 (omega arith)))
    ∙ ap (onto_first x) (lines_cut_text line after (Lacks-tail x line 10 h))

pub lines_cut : (rest line after : List ℕ) → rest ≡ line ++ 10 ∷ after → Lacks line 10 → lines_of rest ≡ line ∷ lines_of after
lines_cut rest line after e h = ap lines_of e ∙ lines_cut_text line after h

pub lines_last : (rest : List ℕ) → Lacks rest 10 → lines_of rest ≡ rest ∷ []
lines_last [] h = refl
lines_last (x ∷ rest) h =
    ap (λ b. cond b ([] ∷ lines_of rest) (onto_first x (lines_of rest))) (ne_eqb x 10 (h 0 (omega arith)))
    ∙ ap (onto_first x) (lines_last rest (Lacks-tail x rest 10 h))
