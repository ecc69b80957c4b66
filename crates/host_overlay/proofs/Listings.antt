-- What stands in a directory over a host below.
use Rattle.std.proofs.Common.{◌≡◌, ◌≢◌, ◌⊎◌, ◌∙◌, Bool, true, false, not, cond, List, [], ◌∷◌, ◌++◌, Option, Some, None, filter, refl, sym, ap, subst, inl, inr, arith}
use Rattle.std.specs.Prelude.{IsSome, Contains, is_some}
use Rattle.std.specs.List.{IsDistinct, AllByRecursion}
use Rattle.std.specs.Str.{bytes_eq}
use Rattle.std.proofs.lemmas.Bool.{false≢true, true≢false, false_from_ne_true}
use Rattle.std.proofs.lemmas.Cmp.{nat_list_eq_equiv}
use Rattle.std.proofs.lemmas.Map.Views.{list_any-from_Contains}
use Rattle.std.proofs.lemmas.Slice.Eq.{bytes_eq-Decides}
use Rattle.std.proofs.lemmas.List.Elements.{Contains-append_left, Contains-append_right, Contains-append_cases, Contains-push_cases}
use Rattle.host_core.specs.Paths.{Path}
use Rattle.host_core.specs.Tree.{has_slash, IsOdd, IsListing}
use Rattle.host_core.specs.World.{World, lowered}
use Rattle.host_core.specs.declared.node.Node.{Node}
use Rattle.host_core.specs.declared.node.Node.TheVariants.{File, Dir, Link}
use Rattle.host_overlay.specs.Standings.{Changed, comes, shown, overlaid, is_something, is_shown, comes_there, is_there, is_unchanged_in, AreThere, ArePaths, AreNamesIn}
use Rattle.host_overlay.specs.declared.standing.Origin.{Origin}
use Rattle.host_overlay.specs.declared.standing.Origin.TheVariants.{Nothing, Made, Below}
use Rattle.host_overlay.specs.declared.standing.Standing.{Standing}

-- elements of lists

none_in_nil : (name : Path) → Contains [] name → ⊥
none_in_nil name c = false≢true (list_any-from_Contains nat_list_eq_equiv name [] c)

head_in : (x : Path) (xs : List Path) → Contains (x ∷ xs) x
head_in x xs = Contains-append_left (x ∷ []) xs x (Contains-append_right [] (x ∷ []) x (one x))
  where
    one : (x : Path) → Contains (x ∷ []) x
    one x = (0, omega arith, refl)

tail_in : (x y : Path) (xs : List Path) → Contains xs y → Contains (x ∷ xs) y
tail_in x y xs c = Contains-append_right (x ∷ []) xs y c

cons_cases : (x y : Path) (xs : List Path) → Contains (x ∷ xs) y → (x ≡ y) ⊎ Contains xs y
cons_cases x y xs c = elim (Contains-append_cases (x ∷ []) xs y c) [
  | inl one ↦ inl (only x y one)
  | inr rest ↦ inr rest
]
  where
    only : (x y : Path) → Contains (x ∷ []) y → x ≡ y
    only x y c = elim (Contains-push_cases [] x y c) [ inl none ↦ absurd (none_in_nil y none) | inr same ↦ same ]

-- a list without those that don't pass

pub kept_from : (p : Path → Bool) (xs : List Path) (q : Path) → Contains (filter p xs) q → Contains xs q × (p q ≡ true)
kept_from p [] q c = absurd (none_in_nil q c)
kept_from p (x ∷ xs) q c = by (p x) refl (kept_from p xs q) c
  where
    later : Contains xs q × (p q ≡ true) → Contains (x ∷ xs) q × (p q ≡ true)
    later r = (tail_in x q xs r.0, r.1)

    by : (b : Bool) → p x ≡ b → (Contains (filter p xs) q → Contains xs q × (p q ≡ true)) → Contains (cond b (x ∷ filter p xs) (filter p xs)) q → Contains (x ∷ xs) q × (p q ≡ true)
    by true is rest there = elim (cons_cases x q (filter p xs) there) [
      | inl same ↦ (subst (λ (y : Path). Contains (x ∷ xs) y) same (head_in x xs), ap p (sym same) ∙ is)
      | inr more ↦ later (rest more)
    ]
    by false is rest there = later (rest there)

pub kept_to : (p : Path → Bool) (xs : List Path) (q : Path) → Contains xs q → p q ≡ true → Contains (filter p xs) q
kept_to p [] q c passes = absurd (none_in_nil q c)
kept_to p (x ∷ xs) q c passes = by (p x) refl (λ more. kept_to p xs q more passes)
  where
    by : (b : Bool) → p x ≡ b → (Contains xs q → Contains (filter p xs) q) → Contains (cond b (x ∷ filter p xs) (filter p xs)) q
    by true is rest = elim (cons_cases x q xs c) [
      | inl same ↦ subst (λ (y : Path). Contains (x ∷ filter p xs) y) same (head_in x (filter p xs))
      | inr more ↦ tail_in x q (filter p xs) (rest more)
    ]
    by false is rest = elim (cons_cases x q xs c) [
      | inl same ↦ absurd (true≢false (sym passes ∙ ap p (sym same) ∙ is))
      | inr more ↦ rest more
    ]

all_kept : (P : Path → Type 0) (p : Path → Bool) (xs : List Path) → AllByRecursion P xs → AllByRecursion P (filter p xs)
all_kept P p [] all = tt
all_kept P p (x ∷ xs) all = by (p x) (all_kept P p xs all.1)
  where
    by : (b : Bool) → AllByRecursion P (filter p xs) → AllByRecursion P (cond b (x ∷ filter p xs) (filter p xs))
    by true rest = (all.0, rest)
    by false rest = rest

distinct_kept : (p : Path → Bool) (xs : List Path) → IsDistinct bytes_eq xs → IsDistinct bytes_eq (filter p xs)
unfolding IsDistinct
distinct_kept p [] once = tt
distinct_kept p (x ∷ xs) once = by (p x) (distinct_kept p xs once.1)
  where
    by : (b : Bool) → IsDistinct bytes_eq (filter p xs) → IsDistinct bytes_eq (cond b (x ∷ filter p xs) (filter p xs))
    by true rest = (all_kept (λ y. bytes_eq x y ≡ false) p xs once.0, rest)
    by false rest = rest

all_apart : (x : Path) (ys : List Path) → ((y : Path) → Contains ys y → x ≢ y) → AllByRecursion (λ y. bytes_eq x y ≡ false) ys
all_apart x [] apart = tt
all_apart x (y ∷ ys) apart = (
  false_from_ne_true (bytes_eq x y) (λ t. apart y (head_in y ys) ((bytes_eq-Decides x y).0 t)),
  all_apart x ys (λ z c. apart z (tail_in y z ys c)),
)

all_both : (P : Path → Type 0) (xs ys : List Path) → AllByRecursion P xs → AllByRecursion P ys → AllByRecursion P (xs ++ ys)
all_both P [] ys first second = second
all_both P (x ∷ xs) ys first second = (first.0, all_both P xs ys first.1 second)

distinct_both : (xs ys : List Path) → IsDistinct bytes_eq xs → IsDistinct bytes_eq ys → ((q : Path) → Contains xs q → Contains ys q → ⊥) → IsDistinct bytes_eq (xs ++ ys)
unfolding IsDistinct
distinct_both [] ys first second apart = second
distinct_both (x ∷ xs) ys first second apart = (
  all_both (λ y. bytes_eq x y ≡ false) xs ys first.0 (all_apart x ys (λ y c same. apart y (subst (λ (z : Path). Contains (x ∷ xs) z) same (head_in x xs)) c)),
  distinct_both xs ys first.1 second (λ q c d. apart q (tail_in x q xs c) d),
)

-- what stands there is something, and what is something stands there

lowered_some : (o : Option Node) → IsSome o → IsSome (lowered o)
lowered_some None is = is
lowered_some (Some (File bytes access)) is = refl
lowered_some (Some (Dir access)) is = refl
lowered_some (Some (Link target)) is = refl

stands_by : (b : Bool) (o : Option Node) → IsSome o → IsSome (cond b (lowered o) o)
stands_by true o is = lowered_some o is
stands_by false o is = is

comes_some : (o : Origin) (w : World) → is_something o ≡ true → comes_there o w ≡ true → IsSome (comes o w)
comes_some Nothing w is there = absurd (false≢true is)
comes_some (Made node) w is there = refl
comes_some (Below path) w is there = there

shown_some : (o : Option Standing) (w : World) (q : Path) → is_shown o ≡ true → is_there o w ≡ true → IsSome (shown o w q)
shown_some None w q is there = absurd (false≢true is)
shown_some (Some s) w q is there = stands_by s.is_lowered (comes s.origin w) (comes_some s.origin w is there)

nothing_by : (b : Bool) → IsSome (cond b (lowered None) None) → ⊥
nothing_by true is = false≢true is
nothing_by false is = false≢true is

some_something : (b : Bool) (o : Origin) (w : World) → IsSome (cond b (lowered (comes o w)) (comes o w)) → is_something o ≡ true
some_something b Nothing w is = absurd (nothing_by b is)
some_something b (Made node) w is = refl
some_something b (Below path) w is = refl

-- what stands there was changed so, or stands there below
some_shown : (o : Option Standing) (w : World) (q : Path) → IsSome (shown o w q) → (is_shown o ≡ true) ⊎ ((is_some o ≡ false) × IsSome (w q))
some_shown None w q is = inr (refl, is)
some_shown (Some s) w q is = inl (some_something s.is_lowered s.origin w is)

unchanged_shown : (o : Option Standing) (w : World) (q : Path) → is_some o ≡ false → IsSome (w q) → IsSome (shown o w q)
unchanged_shown None w q none is = is
unchanged_shown (Some s) w q none is = absurd (true≢false none)

-- of a path that was changed it is told whether a node stands there
pub stands_shown : (o : Option Standing) (w : World) (q : Path) → IsSome o → is_there o w ≡ true → is_shown o ≡ is_some (shown o w q)
stands_shown o w q some there = by (is_shown o) refl
  where
    none_by : (b : Bool) → is_some (shown o w q) ≡ b → is_shown o ≡ false → false ≡ b
    none_by true t away = elim (some_shown o w q t) [
      | inl is ↦ absurd (true≢false (sym is ∙ away))
      | inr below ↦ absurd (true≢false (sym some ∙ below.0))
    ]
    none_by false is away = refl

    by : (b : Bool) → is_shown o ≡ b → b ≡ is_some (shown o w q)
    by true is = sym (shown_some o w q is there)
    by false is = none_by (is_some (shown o w q)) refl is

pub is_changed_or_not : (o : Option Standing) → (is_some o ≡ false) ⊎ IsSome o
is_changed_or_not None = inl refl
is_changed_or_not (Some s) = inr refl

shown_changed : (o : Option Standing) → is_shown o ≡ true → IsSome o
shown_changed None is = is
shown_changed (Some s) is = refl

not_true : (b : Bool) → not b ≡ true → b ≡ false
not_true true is = absurd (false≢true is)
not_true false is = refl

true_not : (b : Bool) → b ≡ false → not b ≡ true
true_not b is = ap not is

module _ (m : Changed) (w : World) (path : Path) (names added : List Path) (bad : Bool) (paths : ArePaths m) (there : AreThere m w) (below : IsListing w path names bad) (changes : AreNamesIn m path added) where
  abbrev kept : List Path
  kept = filter (is_unchanged_in m path) names

  was_below : (name : Path) → Contains kept name → Contains names name × (is_some (m (path ++ 47 ∷ name)) ≡ false)
  was_below name c = let k = kept_from (is_unchanged_in m path) names name c in (k.0, not_true (is_some (m (path ++ 47 ∷ name))) k.1)

  -- an odd name wasn't changed
  odd_unchanged : (name : Path) → has_slash name ≡ false → IsOdd path name → is_some (m (path ++ 47 ∷ name)) ≡ false
  odd_unchanged name plain odd = elim (is_changed_or_not (m (path ++ 47 ∷ name))) [
    | inl none ↦ none
    | inr some ↦ elim odd [
      | inl no_text ↦ absurd (no_text (changes.all name plain some))
      | inr no_path ↦ absurd (true≢false (sym (paths (path ++ 47 ∷ name) some) ∙ no_path))
    ]
  ]

  pub listing_over : IsListing (overlaid m w) path (kept ++ added) bad
  listing_over = record {
    once = distinct_both kept added (distinct_kept (is_unchanged_in m path) names below.once) changes.once
        (λ q c d. true≢false (sym (shown_changed (m (path ++ 47 ∷ q)) (changes.there q d).1) ∙ (was_below q c).1));
    text = λ name c. elim (Contains-append_cases kept added name c) [ inl k ↦ below.text name (was_below name k).0 | inr a ↦ changes.text name a ];
    fits = λ name c. elim (Contains-append_cases kept added name c) [
      | inl k ↦ below.fits name (was_below name k).0
      | inr a ↦ paths (path ++ 47 ∷ name) (shown_changed (m (path ++ 47 ∷ name)) (changes.there name a).1)
    ];
    there = λ name c. elim (Contains-append_cases kept added name c) [
      | inl k ↦ (let was = below.there name (was_below name k).0 in (was.0, unchanged_shown (m (path ++ 47 ∷ name)) w (path ++ 47 ∷ name) (was_below name k).1 was.1))
      | inr a ↦ (let is = changes.there name a in (is.0, shown_some (m (path ++ 47 ∷ name)) w (path ++ 47 ∷ name) is.1 (there (path ++ 47 ∷ name))))
    ];
    whole = λ name plain is. elim (some_shown (m (path ++ 47 ∷ name)) w (path ++ 47 ∷ name) is) [
      | inl shown_is ↦ inl (Contains-append_right kept added name (changes.whole name plain shown_is))
      | inr was ↦ elim (below.whole name plain was.1) [
        | inl c ↦ inl (Contains-append_left kept added name (kept_to (is_unchanged_in m path) names name c (true_not (is_some (m (path ++ 47 ∷ name))) was.0)))
        | inr odd ↦ inr odd
      ]
    ];
    faulty = λ t. (let f = below.faulty t in (f.0, f.1, f.2, unchanged_shown (m (path ++ 47 ∷ f.0)) w (path ++ 47 ∷ f.0) (odd_unchanged f.0 f.1 f.2) f.3));
  }
