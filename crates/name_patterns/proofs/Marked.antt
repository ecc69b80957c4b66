-- What marks over a text say of it: from one of the places marked what is left passes.
use Rattle.std.proofs.Common.{◌≡◌, ℕ, suc, Bool, true, false, not, ◌&&◌, ◌||◌, List, [], ◌∷◌, Option, Some, None, map, length, get_or, inl, inr, refl, sym, ap, subst, ◌∙◌, arith}
use Rattle.std.specs.Prelude.{◌==◌}
use Rattle.std.proofs.lemmas.Bool.{cases_eq, cond_both, ne_eqb}
use Rattle.std.proofs.lemmas.Grind.{common_steps}
use Rattle.name_patterns.specs.Patterns.{behind_one, behind_some, fits, is_end, is_quoting, matches_behind}
use Rattle.name_patterns.specs.Marks.{begun, marked_behind, moved, moved_each, spread}

-- a place that is marked, from which what is left passes
abbrev pub any_marked : (List ℕ → Bool) → List Bool → List ℕ → Bool
any_marked p [] text = false
any_marked p (m ∷ ms) [] = m && p []
any_marked p (m ∷ ms) (b ∷ bs) = (m && p (b ∷ bs)) || any_marked p ms bs

or_false : (a : Bool) → a || false ≡ a
or_false true = refl
or_false false = refl

and_false : (a : Bool) → a && false ≡ false
and_false true = refl
and_false false = refl

-- at the start all is left
pub at_start : (p : List ℕ → Bool) (text : List ℕ) → any_marked p (begun text) text ≡ p text
at_start p [] = refl
at_start p (b ∷ bs) = ap (λ x. p (b ∷ bs) || x) (none_from p bs) ∙ or_false (p (b ∷ bs))
  where
    none_from : (p : List ℕ → Bool) (text : List ℕ) → any_marked p (map (λ b. false) (b ∷ text)) text ≡ false
    none_from p [] = refl
    none_from p (c ∷ cs) = none_from p cs

first_marked : (p : List ℕ → Bool) (x : Bool) (ms : List Bool) (text : List ℕ) → any_marked p (x ∷ ms) text ≡ (x && p text) || any_marked p (false ∷ ms) text
first_marked p x ms [] = sym (or_false (x && p []))
first_marked p x ms (b ∷ bs) = refl

moved_one : (m f a r : Bool) → (m && (f && a)) || r ≡ ((m && f) && a) || r
moved_one true f a r = refl
moved_one false f a r = refl

pub behind_moved : (p : List ℕ → Bool) (wanted : Option ℕ) (ms : List Bool) (text : List ℕ) → length ms ≡ suc (length text)
    → any_marked (behind_one wanted p) ms text ≡ any_marked p (moved wanted ms text) text
behind_moved p wanted [] text is = grind arith
behind_moved p wanted (m ∷ ms) [] is = and_false m
behind_moved p wanted (m ∷ ms) (b ∷ bs) is =
    ap (λ x. (m && (fits wanted b && p bs)) || x) (behind_moved p wanted ms bs (omega (arith, is)))
    ∙ moved_one m (fits wanted b) (p bs) (any_marked p (moved wanted ms bs) bs)
    ∙ sym (first_marked p (m && fits wanted b) (moved_each wanted ms bs) bs)

spread_one : (s m a r t : Bool) → ((s || m) && a) || (((s || m) && r) || t) ≡ (s && (a || r)) || ((m && (a || r)) || t)
spread_one true true true r t = refl
spread_one true true false true t = refl
spread_one true true false false t = refl
spread_one true false true r t = refl
spread_one true false false r t = refl
spread_one false true true r t = refl
spread_one false true false r t = refl
spread_one false false a r t = refl

spread_last : (s m a : Bool) → (s || m) && a ≡ (s && a) || (m && a)
spread_last true m true = refl
spread_last true true false = refl
spread_last true false false = refl
spread_last false m a = refl

spread_from : (p : List ℕ → Bool) (seen : Bool) (ms : List Bool) (text : List ℕ) → length ms ≡ suc (length text)
    → any_marked p (spread seen ms) text ≡ (seen && behind_some p text) || any_marked (behind_some p) ms text
spread_from p seen [] text is = grind arith
spread_from p seen (m ∷ ms) [] is = spread_last seen m (p [])
spread_from p seen (m ∷ ms) (b ∷ bs) is =
    ap (λ x. ((seen || m) && p (b ∷ bs)) || x) (spread_from p (seen || m) ms bs (omega (arith, is)))
    ∙ spread_one seen m (p (b ∷ bs)) (behind_some p bs) (any_marked (behind_some p) ms bs)

pub behind_spread : (p : List ℕ → Bool) (ms : List Bool) (text : List ℕ) → length ms ≡ suc (length text)
    → any_marked (behind_some p) ms text ≡ any_marked p (spread false ms) text
behind_spread p ms text is = sym (spread_from p false ms text is)

-- at the end nothing is left
pub at_end : (ms : List Bool) (text : List ℕ) → length ms ≡ suc (length text) → any_marked is_end ms text ≡ get_or ms (length text) false
at_end [] text is = grind arith
at_end (m ∷ ms) [] is = and_true m
  where
    and_true : (a : Bool) → a && true ≡ a
    and_true true = refl
    and_true false = refl
at_end (m ∷ ms) (b ∷ bs) is = ap (λ x. x || any_marked is_end ms bs) (and_false m) ∙ at_end ms bs (omega (arith, is))

length-moved_each : (wanted : Option ℕ) (ms : List Bool) (text : List ℕ) → length ms ≡ suc (length text) → length (moved_each wanted ms text) ≡ length text
length-moved_each wanted [] text is = grind arith
length-moved_each wanted (m ∷ ms) [] is = refl
length-moved_each wanted (m ∷ ms) (b ∷ bs) is = ap (λ n. suc n) (length-moved_each wanted ms bs (omega (arith, is)))

length-spread : (seen : Bool) (ms : List Bool) → length (spread seen ms) ≡ length ms
length-spread seen [] = refl
length-spread seen (m ∷ ms) = ap (λ n. suc n) (length-spread (seen || m) ms)

pub length-begun : (text : List ℕ) → length (begun text) ≡ suc (length text)
length-begun text = grind (arith, common_steps)

pub length-moved : (wanted : Option ℕ) (ms : List Bool) (text : List ℕ) → length ms ≡ suc (length text) → length (moved wanted ms text) ≡ suc (length text)
length-moved wanted ms text is = ap (λ n. suc n) (length-moved_each wanted ms text is)

pub none_left : (wanted : Option ℕ) (ms : List Bool) → moved_each wanted ms [] ≡ []
none_left wanted [] = refl
none_left wanted (m ∷ ms) = refl

any_same : (p q : List ℕ → Bool) → ((text : List ℕ) → p text ≡ q text) → (ms : List Bool) (text : List ℕ) → any_marked p ms text ≡ any_marked q ms text
any_same p q same [] text = refl
any_same p q same (m ∷ ms) [] = ap (λ x. m && x) (same [])
any_same p q same (m ∷ ms) (b ∷ bs) = ap (λ x. (m && x) || any_marked p ms bs) (same (b ∷ bs)) ∙ ap (λ x. (m && q (b ∷ bs)) || x) (any_same p q same ms bs)

plain_sign : (c : ℕ) (cs : List ℕ) → (c ≡ 42 → ⊥) → (c ≡ 63 → ⊥) → (c ≡ 92 → ⊥) → (text : List ℕ) → matches_behind false (c ∷ cs) text ≡ behind_one (Some c) (matches_behind false cs) text
plain_sign c cs no_star no_mark no_quote text = rw (ne_eqb c 42 no_star, ne_eqb c 63 no_mark, ne_eqb c 92 no_quote) refl

-- one byte of a pattern
pub one_sign : (quoted : Bool) (c : ℕ) (cs : List ℕ) (ms : List Bool) (text : List ℕ) → length ms ≡ suc (length text)
    → any_marked (matches_behind quoted (c ∷ cs)) ms text ≡ any_marked (matches_behind (is_quoting quoted c) cs) (marked_behind quoted c ms text) text
one_sign true c cs ms text is = behind_moved (matches_behind false cs) (Some c) ms text is
one_sign false c cs ms text is = elim (cases_eq c 42) [
  | inl star ↦ subst (λ x. any_marked (matches_behind false (x ∷ cs)) ms text ≡ any_marked (matches_behind (is_quoting false x) cs) (marked_behind false x ms text) text) (sym star) (behind_spread (matches_behind false cs) ms text is)
  | inr no_star ↦ elim (cases_eq c 63) [
    | inl mark ↦ subst (λ x. any_marked (matches_behind false (x ∷ cs)) ms text ≡ any_marked (matches_behind (is_quoting false x) cs) (marked_behind false x ms text) text) (sym mark) (behind_moved (matches_behind false cs) None ms text is)
    | inr no_mark ↦ elim (cases_eq c 92) [
      | inl quote ↦ subst (λ x. any_marked (matches_behind false (x ∷ cs)) ms text ≡ any_marked (matches_behind (is_quoting false x) cs) (marked_behind false x ms text) text) (sym quote) refl
      | inr no_quote ↦
          any_same (matches_behind false (c ∷ cs)) (behind_one (Some c) (matches_behind false cs)) (plain_sign c cs no_star no_mark no_quote) ms text
          ∙ rw (ne_eqb c 42 no_star, ne_eqb c 63 no_mark, ne_eqb c 92 no_quote) (behind_moved (matches_behind false cs) (Some c) ms text is)
    ]
  ]
]

pub length-marked : (quoted : Bool) (c : ℕ) (ms : List Bool) (text : List ℕ) → length ms ≡ suc (length text) → length (marked_behind quoted c ms text) ≡ suc (length text)
length-marked true c ms text is = length-moved (Some c) ms text is
length-marked false c ms text is =
    cond_both (c == 42) (spread false ms) _ (λ x. length x ≡ suc (length text)) (λ e. length-spread false ms ∙ is)
    (λ e. cond_both (c == 63) (moved None ms text) _ (λ x. length x ≡ suc (length text)) (λ e. length-moved None ms text is)
    (λ e. cond_both (c == 92) ms (moved (Some c) ms text) (λ x. length x ≡ suc (length text)) (λ e. is) (λ e. length-moved (Some c) ms text is)))

-- what is left of a pattern behind its last byte
pub whole : (quoted : Bool) (ms : List Bool) (text : List ℕ) → length ms ≡ suc (length text) → any_marked (matches_behind quoted []) ms text ≡ not quoted && get_or ms (length text) false
whole false ms text is = at_end ms text is
whole true ms text is = none_passes ms text
  where
    none_passes : (ms : List Bool) (text : List ℕ) → any_marked (matches_behind true []) ms text ≡ false
    none_passes [] text = refl
    none_passes (m ∷ ms) [] = and_false m
    none_passes (m ∷ ms) (b ∷ bs) = ap (λ x. x || any_marked (matches_behind true []) ms bs) (and_false m) ∙ none_passes ms bs
