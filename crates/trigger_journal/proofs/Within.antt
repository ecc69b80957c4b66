-- What lies within a directory, by what stands behind the directory's path.
use Rattle.std.proofs.Common.{◌≡◌, ◌&&◌, ℕ, Bool, true, false, nat_eq, [], ◌∷◌, ◌++◌, length, drop, take, refl, sym, ap, ◌∙◌, arith, codes, inl, inr}
use Rattle.std.specs.List.{starts_with}
use Rattle.std.specs.Str.{bytes_eq}
use Rattle.std.proofs.lemmas.Bool.{eqb-true, false_from_ne_true, true≢false}
use Rattle.std.proofs.lemmas.List.{append-nil, append_cancel_left, length-append, take_at, take-append-drop}
use Rattle.std.proofs.lemmas.Slice.Eq.{bytes_eq-Decides}
use Rattle.host_core.specs.Paths.{Path}
use Rattle.administration.specs.Places.{is_within}
use Rattle.administration.proofs.Within.{below_within, within_is}

-- a path begins with the directory's, or doesn't
pub not_front : (d path : Path) → bytes_eq (take (length d) path) d ≡ false → (rest : Path) → path ≡ d ++ rest → ⊥
not_front d path other rest is = true≢false (sym ((bytes_eq-Decides (take (length d) path) d).1 (ap (take (length d)) is ∙ take_at d rest (length d) refl)) ∙ other)

pub front_rest : (d path rest : Path) → bytes_eq (take (length d) path) d ≡ true → rest ≡ drop (length d) path → path ≡ d ++ rest
front_rest d path rest same is =
    sym (take-append-drop (length d) path) ∙ ap (λ (l : Path). l ++ drop (length d) path) ((bytes_eq-Decides (take (length d) path) d).0 same) ∙ ap (λ (l : Path). d ++ l) (sym is)

-- whether it goes on with a slash
slash : (b : ℕ) (rest : Path) (t : Bool) → nat_eq 47 b ≡ t → starts_with nat_eq (b ∷ rest) (codes "/") ≡ t
slash b rest true is = ap (λ t. t && true) is
slash b rest false is = ap (λ t. t && true) is

pub within_rest : (d path rest : Path) → path ≡ d ++ rest → (length rest ≡ 0 → ⊥) → starts_with nat_eq rest (codes "/") ≡ is_within d path
within_rest d path [] is some = absurd (some refl)
within_rest d path (b ∷ rest) is some = at (nat_eq 47 b) refl
  where
    at : (t : Bool) → nat_eq 47 b ≡ t → starts_with nat_eq (b ∷ rest) (codes "/") ≡ is_within d path
    at true e = slash b rest true e ∙ sym (ap (is_within d) (is ∙ ap (λ (x : ℕ). d ++ x ∷ rest) (sym (eqb-true 47 b e))) ∙ below_within d rest)
    at false e = slash b rest false e ∙ sym (false_from_ne_true (is_within d path) (λ t. elim (within_is d path t) [
      | inl same ↦ absurd (omega (arith, length-append d (b ∷ rest), ap length (sym is ∙ same)))
      | inr below ↦ absurd (true≢false (sym (ap (λ (l : Path). starts_with nat_eq l (codes "/")) (append_cancel_left d (b ∷ rest) (47 ∷ below.0) (sym is ∙ below.1))) ∙ slash b rest false e))
    ]))

pub not_within : (d path : Path) → ((rest : Path) → path ≡ d ++ rest → ⊥) → false ≡ is_within d path
not_within d path apart = sym (false_from_ne_true (is_within d path) (λ t. elim (within_is d path t) [
  | inl same ↦ apart [] (same ∙ sym (append-nil d))
  | inr below ↦ apart (47 ∷ below.0) below.1
]))
