-- Suffixes of names: none, or a colon and an architecture.
use Rattle.std.proofs.Common.{◌≡◌, ℕ, ◌<◌, Bool, true, false, cond, eqb, ◌&&◌, List, [], ◌∷◌, ◌++◌, Option, Some, None, sym, refl, ap, ◌∙◌, arith, inl, inr}
use Rattle.std.specs.Prelude.{◌⊎◌}
use Rattle.std.specs.List.{list_all}
use Rattle.std.proofs.lemmas.Bool.{and_parts, and_from, eqb-true}
use Rattle.std.proofs.lemmas.Bool.Decides.{nat_tests}
use Rattle.std.proofs.lemmas.Option.{same_Some}
use Rattle.relation_fields.specs.Architectures.{is_letter_or_digit, is_architecture_sign, is_architecture}
use Rattle.relation_fields.specs.Printing.{print_architecture, IsSuffixed}
use Rattle.relation_fields.specs.Words.{is_word_sign, is_before_suffix, suffix_of}
use Rattle.relation_fields.proofs.Fronts.{fronts, all_weaker}

-- what a suffix that tells something is
abbrev pub SuffixIs : List ℕ → Option (List ℕ) → Type 0
SuffixIs suffix o = ((suffix ≡ []) × (o ≡ None)) ⊎ ((word : List ℕ) × (suffix ≡ 58 ∷ word) × (is_architecture word ≡ true) × (o ≡ Some word))

pub suffix_is : (suffix : List ℕ) (o : Option (List ℕ)) → suffix_of suffix ≡ Some o → SuffixIs suffix o
suffix_is [] o h = inl (refl, sym (same_Some None o h))
suffix_is (b ∷ word) o h = at (eqb b 58 && is_architecture word) refl h
  where
    at : (t : Bool) → (eqb b 58 && is_architecture word) ≡ t → ◌≡◌ {A = Option (Option (List ℕ))} (cond t (Some (Some word)) None) (Some o) → SuffixIs (b ∷ word) o
    at true e h = let k = and_parts (eqb b 58) (is_architecture word) e in inr (word, ap (λ (x : ℕ). x ∷ word) (eqb-true b 58 k.0), k.1, sym (same_Some (Some word) o h))
    at false e h = absurd cc

pub architecture_signs : (word : List ℕ) → is_architecture word ≡ true → list_all is_architecture_sign word ≡ true
architecture_signs [] h = absurd cc
architecture_signs (b ∷ bs) h =
    let k = and_parts (is_letter_or_digit b) (list_all is_architecture_sign bs) h in
    and_from (is_architecture_sign b) (list_all is_architecture_sign bs) (rw k.0 refl) k.1

sign_word : (b : ℕ) → is_architecture_sign b ≡ true → is_word_sign b ≡ true
sign_word b h = grind (arith, nat_tests)

pub suffix_signs : (suffix : List ℕ) (o : Option (List ℕ)) → SuffixIs suffix o → list_all is_word_sign suffix ≡ true
suffix_signs suffix o (inl h) = rw h.0 refl
suffix_signs suffix o (inr h) = rw h.1 (all_weaker is_architecture_sign is_word_sign h.0 sign_word (architecture_signs h.0 h.2))

pub no_suffix_front : (suffix rest : List ℕ) (o : Option (List ℕ)) → SuffixIs suffix o → fronts is_word_sign rest ≡ false → fronts is_before_suffix (suffix ++ rest) ≡ false
no_suffix_front suffix rest o (inl e) h = rw e.0 (front_if rest h)
  where
    front_if : (rest : List ℕ) → fronts is_word_sign rest ≡ false → fronts is_before_suffix rest ≡ false
    front_if [] h = refl
    front_if (b ∷ bs) h = rw h refl
no_suffix_front suffix rest o (inr e) h = rw e.1 refl

-- what is printed behind a name tells the architecture
pub suffix_printed : (o : Option (List ℕ)) → IsSuffixed o → suffix_of (print_architecture o) ≡ Some o
suffix_printed None h = refl
suffix_printed (Some word) h = rw h refl

-- what a suffix tells can be printed
pub suffix_printable : (suffix : List ℕ) (o : Option (List ℕ)) → SuffixIs suffix o → IsSuffixed o
suffix_printable suffix None h = tt
suffix_printable suffix (Some word) (inl h) = absurd (no_word h.1)
  where
    no_word : ◌≡◌ {A = Option (List ℕ)} (Some word) None → ⊥
    no_word e = cc
suffix_printable suffix (Some word) (inr h) = ap is_architecture (same_Some word h.0 h.3) ∙ h.2
