-- What hits a trigger by a directory's path hits it by a path below too: so directories make no difference.
use Rattle.std.proofs.Common.{◌≡◌, ◌&&◌, ◌||◌, not, ℕ, zero, suc, ◌+◌, ◌<◌, ◌≤◌, Bool, true, false, cond, nat_eq, List, [], ◌∷◌, ◌++◌, length, refl, sym, ap, ◌∙◌, arith, codes, append_assoc, Contains, inl, inr}
use Rattle.std.specs.Prelude.{filter}
use Rattle.std.specs.List.{list_any, starts_with}
use Rattle.std.proofs.lemmas.Bool.{and_parts, or_right, false_from_ne_true, true≢false}
use Rattle.std.proofs.lemmas.List.{length-append}
use Rattle.host_core.specs.Paths.{Path}
use Rattle.administration.specs.Places.{is_within}
use Rattle.administration.proofs.Within.{below_within, rest_of, within_is}
use Rattle.trigger_interests.specs.Hits.{is_directory, is_hit, is_hit_among}

-- an element that passes
abbrev Passes : (Path → Bool) → List Path → Type 0
Passes p xs = (x : Path) × Contains xs x × (p x ≡ true)

later : (p : Path → Bool) (x : Path) (xs : List Path) → Passes p xs → Passes p (x ∷ xs)
later p x xs some = (some.0, (suc some.1.0, omega (arith, some.1.1), some.1.2), some.2)

one_passes : (p : Path → Bool) (x : Path) (xs : List Path) (b : Bool) → p x ≡ b → (list_any p xs ≡ true → Passes p xs) → b || list_any p xs ≡ true → Passes p (x ∷ xs)
one_passes p x xs true is rest h = (x, (zero, omega arith, refl), is)
one_passes p x xs false is rest h = later p x xs (rest h)

some_passes : (p : Path → Bool) (xs : List Path) → list_any p xs ≡ true → Passes p xs
some_passes p [] e = absurd (true≢false (sym e))
some_passes p (x ∷ xs) e = one_passes p x xs (p x) refl (some_passes p xs) e

-- it stands among those that are kept too
with_first : (p q : Path → Bool) (y : Path) (xs : List Path) (b : Bool) → b ≡ true → p y ≡ true → list_any p (cond b (y ∷ filter q xs) (filter q xs)) ≡ true
with_first p q y xs true h is = ap (λ c. c || list_any p (filter q xs)) is
with_first p q y xs false h is = absurd (true≢false (sym h))

with_later : (p q : Path → Bool) (y : Path) (xs : List Path) (b : Bool) → list_any p (filter q xs) ≡ true → list_any p (cond b (y ∷ filter q xs) (filter q xs)) ≡ true
with_later p q y xs true rest = or_right (p y) (list_any p (filter q xs)) rest
with_later p q y xs false rest = rest

passes_kept : (p q : Path → Bool) (xs : List Path) (x : Path) → Contains xs x → q x ≡ true → p x ≡ true → list_any p (filter q xs) ≡ true
passes_kept p q [] x has kept is = absurd (omega (arith, has.1))
passes_kept p q (y ∷ xs) x (zero, lt, e) kept is = with_first p q y xs (q y) (ap q e ∙ kept) (ap p e ∙ is)
passes_kept p q (y ∷ xs) x (suc k, lt, e) kept is = with_later p q y xs (q y) (passes_kept p q xs x (k, omega (arith, lt), e) kept is)

-- none is added
first_or : (b c d : Bool) → (c ≡ true → d ≡ true) → b || c ≡ true → b || d ≡ true
first_or true c d more h = refl
first_or false c d more h = more h

with_or_without : (p q : Path → Bool) (x : Path) (xs : List Path) (b : Bool) → (list_any p (filter q xs) ≡ true → list_any p xs ≡ true) → list_any p (cond b (x ∷ filter q xs) (filter q xs)) ≡ true → list_any p (x ∷ xs) ≡ true
with_or_without p q x xs true more h = first_or (p x) (list_any p (filter q xs)) (list_any p xs) more h
with_or_without p q x xs false more h = or_right (p x) (list_any p xs) (more h)

passes_before : (p q : Path → Bool) (xs : List Path) → list_any p (filter q xs) ≡ true → list_any p xs ≡ true
passes_before p q [] e = e
passes_before p q (x ∷ xs) e = with_or_without p q x xs (q x) (passes_before p q xs) e

below_hits : (name path other : Path) → is_hit name path ≡ true → starts_with nat_eq other (path ++ codes "/") ≡ true → is_hit name other ≡ true
below_hits name path other hit below =
    let parts = and_parts (starts_with nat_eq name (codes "/")) (is_within name path) hit in
    let rest = rest_of other (path ++ codes "/") below in
    let is : other ≡ path ++ 47 ∷ rest.0 = rest.1 ∙ append_assoc path (codes "/") rest.0 in
    let within : is_within name other ≡ true = elim (within_is name path parts.1) [
      | inl same ↦ ap (is_within name) (is ∙ ap (λ (p : Path). p ++ 47 ∷ rest.0) same) ∙ below_within name rest.0
      | inr more ↦ ap (is_within name) (is ∙ ap (λ (p : Path). p ++ 47 ∷ rest.0) more.1 ∙ append_assoc name (47 ∷ more.0) (47 ∷ rest.0)) ∙ below_within name (more.0 ++ 47 ∷ rest.0)
    ] in
    ap (λ b. b && is_within name other) parts.0 ∙ within

-- no path of these is longer
abbrev all_bytes : List Path → ℕ
all_bytes [] = 0
all_bytes (p ∷ ps) = length p + 1 + all_bytes ps

within_bytes : (xs : List Path) (x : Path) → Contains xs x → length x < all_bytes xs
within_bytes [] x has = absurd (omega (arith, has.1))
within_bytes (y ∷ xs) x (zero, lt, e) = let same : length y ≡ length x = ap length e in omega (arith, same)
within_bytes (y ∷ xs) x (suc k, lt, e) = let rest = within_bytes xs x (k, omega (arith, lt), e) in omega (arith, rest)

-- a path below
longer : (path other rest : Path) → other ≡ (path ++ codes "/") ++ rest → length path < length other
longer path other rest is =
    let long = ap length is in
    let sum = length-append (path ++ codes "/") rest in
    let more = length-append path (codes "/") in
    omega (arith, long, sum, more)

-- from a path that hits to one that is no directory
module _ (paths : List Path) (name : Path) where
  from_file : (path : Path) → is_directory paths path ≡ false → Contains paths path → is_hit name path ≡ true → is_hit_among paths name ≡ true
  from_file path is has hit = passes_kept (is_hit name) (λ p. not (is_directory paths p)) paths path has (ap not is) hit

  abbrev Climbs : ℕ → Type 0
  Climbs n = (path : Path) → all_bytes paths ≤ length path + n → Contains paths path → is_hit name path ≡ true → is_hit_among paths name ≡ true

  climbs_on : (n : ℕ) (path : Path) (b : Bool) → is_directory paths path ≡ b → Climbs n → all_bytes paths ≤ length path + suc n → Contains paths path → is_hit name path ≡ true → is_hit_among paths name ≡ true
  climbs_on n path false is next far has hit = from_file path is has hit
  climbs_on n path true is next far has hit =
      let other = some_passes (λ o. starts_with nat_eq o (path ++ codes "/")) paths is in
      let rest = rest_of other.0 (path ++ codes "/") other.2 in
      let long = longer path other.0 rest.0 rest.1 in
      next other.0 (omega (arith, far, long)) other.1 (below_hits name path other.0 hit other.2)

  climbs : (n : ℕ) → Climbs n
  climbs zero path far has hit = let short = within_bytes paths path has in absurd (omega (arith, far, short))
  climbs (suc n) path far has hit = climbs_on n path (is_directory paths path) refl (climbs n) far has hit

  same_by : (b : Bool) → list_any (is_hit name) paths ≡ b → b ≡ is_hit_among paths name
  same_by true is = let one = some_passes (is_hit name) paths is in sym (climbs (all_bytes paths) one.0 (omega arith) one.1 one.2)
  same_by false is = sym (false_from_ne_true (is_hit_among paths name) (λ t. true≢false (sym (passes_before (is_hit name) (λ p. not (is_directory paths p)) paths t) ∙ is)))

  pub directories_aside : list_any (is_hit name) paths ≡ is_hit_among paths name
  directories_aside = same_by (list_any (is_hit name) paths) refl
