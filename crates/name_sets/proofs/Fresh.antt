-- Names, each given once.
use Rattle.std.proofs.Common.{◌≡◌, ℕ, ◌&&◌, ◌||◌, not, Bool, true, false, cond, List, [], ◌∷◌, ◌++◌, filter, refl, sym, ap, ◌∙◌, append_assoc, append-nil}
use Rattle.std.specs.Str.{bytes_eq}
use Rattle.std.proofs.lemmas.List.Folds.{list_any-append}
use Rattle.std.proofs.lemmas.Slice.Eq.{bytes_eq-Decides}
use Rattle.name_sets.specs.Names.{is_among, with_name, without}

module _ {X : Type 0} (test : X → Bool) (x : X) (xs : List X) where
  pub kept : test x ≡ true → filter test (x ∷ xs) ≡ x ∷ filter test xs
  kept e = ap (λ (b : Bool). cond b (x ∷ filter test xs) (filter test xs)) e

  pub dropped : test x ≡ false → filter test (x ∷ xs) ≡ filter test xs
  dropped e = ap (λ (b : Bool). cond b (x ∷ filter test xs) (filter test xs)) e

-- one filter behind another
both : {X : Type 0} (p q r : X → Bool) → ((x : X) → r x ≡ (q x && p x)) → (xs : List X) → filter p (filter q xs) ≡ filter r xs
both p q r h [] = refl
both {X} p q r h (x ∷ xs) = by (q x) (p x) refl refl (both p q r h xs)
  where
    by : (a b : Bool) → q x ≡ a → p x ≡ b → filter p (filter q xs) ≡ filter r xs → filter p (filter q (x ∷ xs)) ≡ filter r (x ∷ xs)
    by true true eq ep rest =
        let er : r x ≡ true = h x ∙ ap (λ (c : Bool). c && p x) eq ∙ ep in
        ap (filter p) (kept q x xs eq) ∙ kept p x (filter q xs) ep ∙ ap (λ (l : List X). x ∷ l) rest ∙ sym (kept r x xs er)
    by true false eq ep rest =
        let er : r x ≡ false = h x ∙ ap (λ (c : Bool). c && p x) eq ∙ ep in
        ap (filter p) (kept q x xs eq) ∙ dropped p x (filter q xs) ep ∙ rest ∙ sym (dropped r x xs er)
    by false b eq ep rest =
        let er : r x ≡ false = h x ∙ ap (λ (c : Bool). c && p x) eq in
        ap (filter p) (dropped q x xs eq) ∙ rest ∙ sym (dropped r x xs er)

-- the names that don't stand among those seen
abbrev pub is_new : List (List ℕ) → List ℕ → Bool
is_new seen name = not (is_among seen name)

abbrev pub new_of : List (List ℕ) → List (List ℕ) → List (List ℕ)
new_of seen names = filter (is_new seen) names

same_name : (name other : List ℕ) → bytes_eq name other ≡ true → name ≡ other
same_name name other e = (bytes_eq-Decides name other).0 e

-- a name that was seen is dropped from those that are new anyhow
pub seen_again : (seen : List (List ℕ)) (name : List ℕ) (names : List (List ℕ)) → is_among seen name ≡ true → new_of seen (name ∷ without name names) ≡ new_of seen names
seen_again seen name names e = dropped (is_new seen) name (without name names) (ap not e) ∙ both (is_new seen) (λ n. not (bytes_eq n name)) (is_new seen) says names
  where
    by : (n : List ℕ) (b : Bool) → bytes_eq n name ≡ b → is_new seen n ≡ (not b && is_new seen n)
    by n true eq = ap (is_new seen) (same_name n name eq) ∙ ap not e
    by n false eq = refl

    says : (n : List ℕ) → is_new seen n ≡ (not (bytes_eq n name) && is_new seen n)
    says n = by n (bytes_eq n name) refl

-- one that wasn't seen goes to those that were
pub seen_first : (seen : List (List ℕ)) (name : List ℕ) (names : List (List ℕ)) → is_among seen name ≡ false → seen ++ new_of seen (name ∷ without name names) ≡ (seen ++ name ∷ []) ++ new_of (seen ++ name ∷ []) names
seen_first seen name names e =
    ap (λ (l : List (List ℕ)). seen ++ l) (kept (is_new seen) name (without name names) (ap not e) ∙ ap (λ (l : List (List ℕ)). name ∷ l) (both (is_new seen) (λ n. not (bytes_eq n name)) (is_new (seen ++ name ∷ [])) says names))
    ∙ sym (append_assoc seen (name ∷ []) (new_of (seen ++ name ∷ []) names))
  where
    or_last : (a b : Bool) → not (a || (b || false)) ≡ (not b && not a)
    or_last true true = refl
    or_last true false = refl
    or_last false true = refl
    or_last false false = refl

    says : (n : List ℕ) → is_new (seen ++ name ∷ []) n ≡ (not (bytes_eq n name) && is_new seen n)
    says n = ap not (list_any-append (bytes_eq n) seen (name ∷ [])) ∙ or_last (is_among seen n) (bytes_eq n name)

pub none_seen : (names : List (List ℕ)) → new_of [] names ≡ names
none_seen [] = refl
none_seen (name ∷ names) = ap (λ (l : List (List ℕ)). name ∷ l) (none_seen names)

-- a name goes to those seen unless it is one of them
pub seen_or_not : (seen now : List (List ℕ)) (name : List ℕ) (names : List (List ℕ)) → now ≡ with_name seen name → seen ++ new_of seen (name ∷ without name names) ≡ now ++ new_of now names
seen_or_not seen now name names is = by (is_among seen name) refl
  where
    by : (b : Bool) → is_among seen name ≡ b → seen ++ new_of seen (name ∷ without name names) ≡ now ++ new_of now names
    by true e =
        let same : now ≡ seen = is ∙ ap (λ b. cond b seen (seen ++ name ∷ [])) e in
        ap (λ (l : List (List ℕ)). seen ++ l) (seen_again seen name names e) ∙ ap (λ (l : List (List ℕ)). l ++ new_of l names) (sym same)
    by false e =
        let same : now ≡ seen ++ name ∷ [] = is ∙ ap (λ b. cond b seen (seen ++ name ∷ [])) e in
        seen_first seen name names e ∙ ap (λ (l : List (List ℕ)). l ++ new_of l names) (sym same)

pub none_left : (seen : List (List ℕ)) → seen ++ new_of seen [] ≡ seen
none_left seen = append-nil seen
