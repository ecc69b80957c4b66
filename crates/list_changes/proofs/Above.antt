-- The directories above a path, the nearest first.
use Rattle.std.proofs.Common.{◌≡◌, ◌≢◌, ◌==◌, ◌⊎◌, ◌↔◌, inl, inr, ℕ, zero, suc, ◌+◌, ◌-◌, ◌<◌, ◌≤◌, Bool, true, false, List, [], ◌∷◌, ◌++◌, length, get_or, take, drop, refl, sym, ap, subst, ◌∙◌, append_assoc, arith, Contains, Option, Some, None, Bor}
use Rattle.std.specs.Prelude.{MatchOption, ◌&&◌, nat_le}
use Rattle.std.specs.List.{list_all}
use Rattle.std.specs.Str.Pattern.{RFindsChar}
use Rattle.std.proofs.lemmas.Bool.{and_parts, eqb-true, true≢false, le-leb, leb-true}
use Rattle.std.proofs.lemmas.List.{get_or-append_right, length-append, take-append-drop}
use Rattle.std.proofs.lemmas.List.Elements.{Contains-append_left, Contains-append_right, Contains-append_cases}
use Rattle.std.proofs.lemmas.List.Folds.{list_all-append}
use Rattle.std.proofs.lemmas.Str.Pattern.{NoCharPasses-char, drop_at_char}
use Rattle.host_core.specs.Paths.{Path, is_path, has_room, is_short, components}
use Rattle.host_core.proofs.PathLaws.{front_is_path, components_child}
use Rattle.file_lists.specs.Owners.{IsListable}
use Rattle.list_changes.specs.NewList.{IsAbove}

abbrev pub Plain : Path → Type 0
Plain name = (i : ℕ) → i < length name → get_or name i 0 ≢ 47

slash_in : (p rest : Path) → Plain (p ++ 47 ∷ rest) → ⊥
slash_in p rest plain =
    let zero_is : length p - length p ≡ 0 = omega arith in
    plain (length p) (omega (arith, length-append p (47 ∷ rest))) (get_or-append_right p (47 ∷ rest) (length p) (length p) 0 refl (omega arith) ∙ ap (λ i. get_or (47 ∷ rest) i 0) zero_is)

-- where `rsplit_once` cuts
abbrev pub IsLastSplit : ℕ → List ℕ → Option (Bor (List ℕ) × Bor (List ℕ)) → Type 0
IsLastSplit c bs r = MatchOption r (RFindsChar c bs None) (λ x. (i : ℕ) × (j : ℕ) × RFindsChar c bs (Some (i, j)) × (x.0.now ≡ take i bs) × (x.1.now ≡ drop j bs) × (i ≤ j) × (length x.0.now ≡ i) × (length x.1.now + j ≡ length bs))

pub last_parts : (c : ℕ) (bs : List ℕ) (r : Option (Bor (List ℕ) × Bor (List ℕ))) → IsLastSplit c bs r → c < 128
    → MatchOption r ((i : ℕ) → i < length bs → get_or bs i 0 ≢ c) (λ x. (bs ≡ x.0.now ++ (c ∷ x.1.now)) × ((i : ℕ) → i < length x.1.now → get_or x.1.now i 0 ≢ c))
last_parts c bs None cut small = λ i within. NoCharPasses-char c bs i cut small within
last_parts c bs (Some x) cut small = (
  sym (take-append-drop cut.0 bs) ∙ (λ k. sym cut.3 k ++ (drop_at_char c bs cut.0 cut.1 cut.2.1 small ∙ ap (λ l. c ∷ l) (sym cut.4)) k),
  subst (λ l. (i : ℕ) → i < length l → get_or l i 0 ≢ c) (sym cut.4) (λ i within. NoCharPasses-char c (drop cut.1 bs) i cut.2.0 small within),
)

-- a directory above is the nearest, or above that
nearest : (front name p rest : Path) → Plain name → front ++ 47 ∷ name ≡ p ++ 47 ∷ rest → (p ≡ front) ⊎ ((m : Path) × (front ≡ p ++ 47 ∷ m))
nearest [] name [] rest plain e = inl refl
nearest [] name (d ∷ p) rest plain e = absurd (slash_in p rest (subst Plain (ap (drop 1) e) plain))
nearest (c ∷ front) name [] rest plain e = inr (front, ap (λ (h : ℕ). h ∷ front) (ap (λ (l : Path). get_or l 0 0) e))
nearest (c ∷ front) name (d ∷ p) rest plain e =
    let same : c ≡ d = ap (λ (l : Path). get_or l 0 0) e in
    elim (nearest front name p rest plain (ap (drop 1) e)) [
      | inl is ↦ inl (λ i. sym same i ∷ is i)
      | inr m ↦ inr (m.0, λ i. same i ∷ m.1 i)
    ]

-- some directories above a path were added to others: the rest is above what is left of the path
pub record IsClimbing (old : List Path) (path rest : Path) (now : List Path) : Type 0 where
  pub kept : (q : Path) → Contains old q → Contains now q
  pub added : (q : Path) → Contains now q → Contains old q ⊎ IsAbove q path
  pub whole : (q : Path) → IsAbove q path → Contains now q ⊎ IsAbove q rest
  pub within : (q : Path) → IsAbove q rest → IsAbove q path

pub climbing_start : (old now : List Path) (path rest : Path) → now ≡ old → rest ≡ path → IsClimbing old path rest now
climbing_start old now path rest same all = record {
  kept = λ q has. subst (λ (l : List Path). Contains l q) (sym same) has;
  added = λ q has. inl (subst (λ (l : List Path). Contains l q) same has);
  whole = λ q is. inr (subst (IsAbove q) (sym all) is);
  within = λ q is. subst (IsAbove q) all is;
}

only : (name q : Path) → Contains (name ∷ []) q → name ≡ q
only name q (zero, lt, is) = is
only name q (suc i, lt, is) = absurd (omega (arith, lt))

-- whether a text is empty
pub empty_is : (p : Path) → (length p == 0) ≡ true → p ≡ []
empty_is [] is = refl
empty_is (b ∷ p) is = absurd (omega (arith, eqb-true (length (b ∷ p)) 0 is))

pub some_is : (p : Path) → (length p == 0) ≡ false → p ≢ []
some_is p is e = absurd (true≢false (sym (le_none (length p) (ap length e)) ∙ is))
  where
    le_none : (n : ℕ) → n ≡ 0 → (n == 0) ≡ true
    le_none n e = ap (λ m. m == 0) e

no_empty_list : (p rest : Path) → [] ≡ p ++ 47 ∷ rest → ⊥
no_empty_list p rest e = absurd (omega (arith, length-append p (47 ∷ rest), ap length e))

module _ (old : List Path) (path rest : Path) (now : List Path) (so_far : IsClimbing old path rest now) where
  all_added : ((q : Path) → IsAbove q rest → ⊥) → (q : Path) → Contains now q ↔ (Contains old q ⊎ IsAbove q path)
  all_added none q = (
    so_far.added q,
    λ is. elim is [
      | inl has ↦ so_far.kept q has
      | inr above ↦ elim (so_far.whole q above) [ inl has ↦ has | inr left ↦ absurd (none q left) ]
    ],
  )

  -- there is no further directory
  pub climbed_plain : Plain rest → (q : Path) → Contains now q ↔ (Contains old q ⊎ IsAbove q path)
  climbed_plain plain = all_added (λ q above. slash_in q above.0 (subst Plain above.1 plain))

  module _ (front name : Path) (cut : rest ≡ front ++ 47 ∷ name) (plain : Plain name) where
    -- the next is the root
    pub climbed_root : front ≡ [] → (q : Path) → Contains now q ↔ (Contains old q ⊎ IsAbove q path)
    climbed_root root = all_added (λ q above. elim (nearest front name q above.0 plain (sym cut ∙ above.1)) [
      | inl is ↦ above.2 (is ∙ root)
      | inr m ↦ no_empty_list q m.0 (sym root ∙ m.1)
    ])

    -- the next is added
    pub climbing_on : front ≢ [] → IsClimbing old path front (now ++ front ∷ [])
    climbing_on some = record {
      kept = λ q has. Contains-append_left now (front ∷ []) q (so_far.kept q has);
      added = λ q has. elim (Contains-append_cases now (front ∷ []) q has) [
        | inl before ↦ so_far.added q before
        | inr here ↦ inr (subst (λ p. IsAbove p path) (only front q here) (so_far.within front (name, cut, some)))
      ];
      whole = λ q above. elim (so_far.whole q above) [
        | inl has ↦ inl (Contains-append_left now (front ∷ []) q has)
        | inr left ↦ elim (nearest front name q left.0 plain (sym cut ∙ left.1)) [
          | inl is ↦ inl (Contains-append_right now (front ∷ []) q (0, omega arith, sym is))
          | inr m ↦ inr (m.0, m.1, left.2)
        ]
      ];
      within = λ q above. so_far.within q (above.0 ++ 47 ∷ name, cut ∙ ap (λ (l : Path). l ++ 47 ∷ name) above.1 ∙ append_assoc q (47 ∷ above.0) (47 ∷ name), above.2);
    }

-- a directory above a path that a list may have is one too
room_above : (q rest : Path) → has_room (q ++ 47 ∷ rest) ≡ true → has_room q ≡ true
room_above q rest room =
    let parts = and_parts (nat_le (length (q ++ 47 ∷ rest)) 960) (list_all is_short (components (q ++ 47 ∷ rest))) room in
    let short = and_parts (list_all is_short (components q)) (list_all is_short (components rest)) (sym (list_all-append is_short (components q) (components rest)) ∙ ap (list_all is_short) (sym (components_child q rest)) ∙ parts.1) in
    both (nat_le (length q) 960) (list_all is_short (components q)) (le-leb (length q) 960 (omega (arith, leb-true (length (q ++ 47 ∷ rest)) 960 parts.0, length-append q (47 ∷ rest)))) short.0
  where
    both : (a b : Bool) → a ≡ true → b ≡ true → a && b ≡ true
    both true b first second = second
    both false b first second = first

pub listable_above : (q path : Path) → IsListable path → IsAbove q path → IsListable q
listable_above q path ok above = record {
  is = front_is_path q above.0 (ap is_path (sym above.1) ∙ ok.is);
  room = room_above q above.0 (ap has_room (sym above.1) ∙ ok.room);
}
