-- Names among others.
use Rattle.std.proofs.Common.{◌≡◌, ◌+◌, ◌<◌, ◌&&◌, ◌||◌, inl, inr, not, ℕ, Bool, true, false, cond, List, [], ◌∷◌, ◌++◌, length, take, get_or, filter, refl, sym, ap, ◌∙◌}
use Rattle.std.specs.List.{list_any}
use Rattle.std.specs.Str.{bytes_eq}
use Rattle.std.proofs.lemmas.Bool.{or_cases, true≢false}
use Rattle.std.proofs.lemmas.List.Elements.{filter_more}
use Rattle.std.proofs.lemmas.List.Folds.{list_any-append, list_any_at}
use Rattle.std.proofs.lemmas.Slice.Eq.{bytes_eq-Decides}
use Rattle.host_core.specs.World.{World}
use Rattle.trigger_watch.specs.Names.{each_once, is_among, without}
use Rattle.trigger_files.specs.Places.{is_register}
use Rattle.trigger_files.specs.Steps.{AreRegisters}

pub same_name : (name other : List ℕ) → bytes_eq name other ≡ true → name ≡ other
same_name name other e = (bytes_eq-Decides name other).0 e

pub is_same : (name other : List ℕ) → name ≡ other → bytes_eq name other ≡ true
is_same name other e = (bytes_eq-Decides name other).1 e

pub among_at : (names : List (List ℕ)) (i : ℕ) (name : List ℕ) → i < length names → name ≡ get_or names i name → is_among names name ≡ true
among_at names i name lt is = list_any_at (bytes_eq name) names i name lt (is_same name (get_or names i name) is)

-- one more that passes, or doesn't
pub one_more : (test : World → List ℕ → Bool) (w v : World) (names : List (List ℕ)) (i : ℕ) (name : List ℕ) (found now : List (List ℕ)) → v ≡ w → i < length names → name ≡ get_or names i name
    → found ≡ filter (test w) (take i names) → now ≡ found ++ cond (test v name) (name ∷ []) [] → now ≡ filter (test w) (take (i + 1) names)
one_more test w v names i name found now same lt is so_far added =
    added ∙ ap (λ (u : World). found ++ cond (test u name) (name ∷ []) []) same ∙ ap (λ (l : List (List ℕ)). l ++ cond (test w name) (name ∷ []) []) so_far
    ∙ ap (λ (x : List ℕ). filter (test w) (take i names) ++ cond (test w x) (x ∷ []) []) is ∙ sym (filter_more (test w) names i name lt)

-- what is among those that pass

among_by : (p : List ℕ → Bool) (x : List ℕ) (names : List (List ℕ)) (name : List ℕ) → is_among (filter p names) name ≡ (p name && is_among names name) → (a b : Bool) → p x ≡ a → bytes_eq name x ≡ b
    → is_among (cond (p x) (x ∷ filter p names) (filter p names)) name ≡ (p name && (bytes_eq name x || is_among names name))
among_by p x names name rest true true ep en =
    ap (λ (t : Bool). is_among (cond t (x ∷ filter p names) (filter p names)) name) ep ∙ ap (λ (t : Bool). t || is_among (filter p names) name) en
    ∙ sym (ap (λ (t : Bool). p name && (t || is_among names name)) en ∙ ap (λ (t : Bool). t && true) (ap p (same_name name x en) ∙ ep))
among_by p x names name rest true false ep en =
    ap (λ (t : Bool). is_among (cond t (x ∷ filter p names) (filter p names)) name) ep ∙ ap (λ (t : Bool). t || is_among (filter p names) name) en
    ∙ rest ∙ sym (ap (λ (t : Bool). p name && (t || is_among names name)) en)
among_by p x names name rest false true ep en =
    ap (λ (t : Bool). is_among (cond t (x ∷ filter p names) (filter p names)) name) ep ∙ rest
    ∙ ap (λ (t : Bool). t && is_among names name) (ap p (same_name name x en) ∙ ep)
    ∙ sym (ap (λ (t : Bool). t && (bytes_eq name x || is_among names name)) (ap p (same_name name x en) ∙ ep))
among_by p x names name rest false false ep en =
    ap (λ (t : Bool). is_among (cond t (x ∷ filter p names) (filter p names)) name) ep ∙ rest
    ∙ sym (ap (λ (t : Bool). p name && (t || is_among names name)) en)

and_none : (b : Bool) → false ≡ (b && false)
and_none true = refl
and_none false = refl

pub among_filter : (p : List ℕ → Bool) (names : List (List ℕ)) (name : List ℕ) → is_among (filter p names) name ≡ (p name && is_among names name)
among_filter p [] name = and_none (p name)
among_filter p (x ∷ names) name = among_by p x names name (among_filter p names name) (p x) (bytes_eq name x) refl refl

pub among_push : (names : List (List ℕ)) (x name : List ℕ) → is_among (names ++ x ∷ []) name ≡ (is_among names name || (bytes_eq name x || false))
among_push names x name = list_any-append (bytes_eq name) names (x ∷ [])

pub registers_push : (names : List (List ℕ)) (x : List ℕ) → AreRegisters names → is_register x ≡ true → AreRegisters (names ++ x ∷ [])
registers_push names x registers register name among = elim (or_cases (is_among names name) (bytes_eq name x || false) (sym (among_push names x name) ∙ among)) [
  | inl earlier ↦ registers name earlier
  | inr last ↦ elim (or_cases (bytes_eq name x) false last) [ inl same ↦ ap is_register (same_name name x same) ∙ register | inr never ↦ absurd (true≢false (sym never)) ]
]

pub registers_none : AreRegisters []
registers_none name among = absurd (true≢false (sym among))

once_by : (x : List ℕ) (names : List (List ℕ)) (name : List ℕ) → is_among (each_once names) name ≡ is_among names name → (b : Bool) → bytes_eq name x ≡ b
    → (bytes_eq name x || is_among (without x (each_once names)) name) ≡ (bytes_eq name x || is_among names name)
once_by x names name rest true e = ap (λ (t : Bool). t || is_among (without x (each_once names)) name) e ∙ sym (ap (λ (t : Bool). t || is_among names name) e)
once_by x names name rest false e = ap (λ (t : Bool). bytes_eq name x || t)
    (among_filter (λ n. not (bytes_eq n x)) (each_once names) name ∙ ap (λ (t : Bool). not t && is_among (each_once names) name) e ∙ rest)

pub among_once : (names : List (List ℕ)) (name : List ℕ) → is_among (each_once names) name ≡ is_among names name
among_once [] name = refl
among_once (x ∷ names) name = once_by x names name (among_once names name) (bytes_eq name x) refl
