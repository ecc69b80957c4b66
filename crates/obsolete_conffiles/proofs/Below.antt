-- What lies below a place, by what is left of its path.
use Rattle.std.proofs.Common.{◌≡◌, ℕ, Bool, true, false, List, ◌++◌, length, take, drop, refl, sym, ap, ◌∙◌, nat_eq, append_assoc}
use Rattle.std.specs.List.{starts_with}
use Rattle.std.specs.Str.{bytes_eq}
use Rattle.std.proofs.lemmas.Bool.{false_from_ne_true, true≢false}
use Rattle.std.proofs.lemmas.Slice.Eq.{bytes_eq-Decides}
use Rattle.std.proofs.lemmas.List.{take-append-drop, append_cancel_left, take_at}
use Rattle.host_core.specs.Paths.{Path}

pub not_front : (path place : Path) → bytes_eq (take (length place) path) place ≡ false → (rest : Path) → path ≡ place ++ rest → ⊥
not_front path place no_test rest is = true≢false (sym ((bytes_eq-Decides (take (length place) path) place).1 (ap (take (length place)) is ∙ take_at place rest (length place) refl)) ∙ no_test)

pub front_rest : (path place rest : Path) → bytes_eq (take (length place) path) place ≡ true → rest ≡ drop (length place) path → path ≡ place ++ rest
front_rest path place rest test is = sym (take-append-drop (length place) path) ∙ ap (λ (l : List ℕ). l ++ drop (length place) path) ((bytes_eq-Decides (take (length place) path) place).0 test) ∙ ap (λ (l : List ℕ). place ++ l) (sym is)

front_test : (path s more : Path) → path ≡ s ++ more → starts_with nat_eq path s ≡ true
front_test path s more is = (bytes_eq-Decides s (take (length s) path)).1 (sym (ap (take (length s)) is ∙ take_at s more (length s) refl))

test_front : (path s : Path) → starts_with nat_eq path s ≡ true → path ≡ s ++ drop (length s) path
test_front path s test = sym (take-append-drop (length s) path) ∙ ap (λ (l : List ℕ). l ++ drop (length s) path) (sym ((bytes_eq-Decides s (take (length s) path)).0 test))

pub below : (path place rest s : Path) → path ≡ place ++ rest → starts_with nat_eq rest s ≡ starts_with nat_eq path (place ++ s)
below path place rest s is = at (starts_with nat_eq rest s) refl
  where
    at : (b : Bool) → starts_with nat_eq rest s ≡ b → starts_with nat_eq rest s ≡ starts_with nat_eq path (place ++ s)
    at true test = test ∙ sym (front_test path (place ++ s) (drop (length s) rest) (is ∙ ap (λ (l : List ℕ). place ++ l) (test_front rest s test) ∙ sym (append_assoc place s (drop (length s) rest))))
    at false test = test ∙ sym (false_from_ne_true (starts_with nat_eq path (place ++ s))
        (λ t. true≢false (sym (front_test rest s (drop (length (place ++ s)) path)
        (append_cancel_left place rest (s ++ drop (length (place ++ s)) path) (sym is ∙ test_front path (place ++ s) t ∙ append_assoc place s (drop (length (place ++ s)) path)))) ∙ test)))

pub not_below : (path place s : Path) → ((rest : Path) → path ≡ place ++ rest → ⊥) → starts_with nat_eq path (place ++ s) ≡ false
not_below path place s apart = false_from_ne_true (starts_with nat_eq path (place ++ s))
    (λ t. apart (s ++ drop (length (place ++ s)) path) (test_front path (place ++ s) t ∙ append_assoc place s (drop (length (place ++ s)) path)))
