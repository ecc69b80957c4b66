-- What follows from being rounds.
use Rattle.std.proofs.Common.{◌≡◌, ℕ, ◌-◌, ◌<◌, ◌≤◌, Bool, true, false, not, List, [], ◌∷◌, ◌++◌, Option, length, length-append, get_or, subst, sym, refl, inl, inr, ⊎_elim, arith}
use Rattle.std.specs.Prelude.{IsTrue, ◌≢◌, nat_eq, nat_lt}
use Rattle.std.specs.List.{All, AllPairs, Contains, concat}
use Rattle.std.proofs.lemmas.Bool.{cases_Bool, cases_lt, both_ways, and_parts, and_from, not-true, not_from_false, eqb-true, eq-eqb, lt-ltb, ltb-true}
use Rattle.std.proofs.lemmas.List.{get_or_append_left, get_or-append_right}
use Rattle.std.proofs.lemmas.List.Elements.{All-nil, All-cons, Contains-get_or, Contains-append_left, Contains-append_right, Contains-append_cases}
use Rattle.dependency_sets.proofs.RemovalLaws.{met_from_any, any_from_met}
use Rattle.dependency_sets.specs.Sets.{but, or_in}
use Rattle.install_order.specs.Rounds.{among, IsNext, AreRoundsFrom, AreRounds}
use Rattle.install_order.specs.Taking.{IsRoundOf}
use Rattle.package_tree.specs.declared.control_file.ControlFile.{ControlFile}
use Rattle.relation_index.specs.declared.package.Package.{Package}

pub among_in : (round : List ℕ) (x : ℕ) → IsTrue (among round x) → Contains round x
among_in round x t =
    let w = met_from_any (nat_eq x) (record { owner = 0; meeters = round }) t in
    subst (Contains round) (sym (eqb-true x w.0 w.2)) w.1

pub in_among : (round : List ℕ) (x : ℕ) → Contains round x → IsTrue (among round x)
in_among round x c = any_from_met (nat_eq x) (record { owner = 0; meeters = round }) (x, c, eq-eqb x x refl)

-- the members of a round are of those left
pub round_left : (recorded : List Package) (trees : List (Option ControlFile)) (earlier left : ℕ → Bool) (round : List ℕ) (rounds : List (List ℕ)) → AreRoundsFrom recorded trees earlier left (round ∷ rounds) → (x : ℕ) → Contains round x → IsTrue (left x)
round_left recorded trees earlier left round rounds (inl h) x c = let w = (h.1.1 x).0 c in w.1.0 x w.2
round_left recorded trees earlier left round rounds (inr h) x c = (h.2.1 x).0 c

-- where none is left there is no further round
pub no_round : (recorded : List Package) (trees : List (Option ControlFile)) (earlier left : ℕ → Bool) (rounds : List (List ℕ)) → ((x : ℕ) → IsTrue (left x) → ⊥) → AreRoundsFrom recorded trees earlier left rounds → rounds ≡ []
no_round recorded trees earlier left [] none h = refl
no_round recorded trees earlier left (round ∷ rounds) none (inl h) = let w = h.0 in absurd (none w.0 (round_left recorded trees earlier left round rounds (inl h) w.0 (among_in round w.0 w.1)))
no_round recorded trees earlier left (round ∷ rounds) none (inr h) = let w = h.0 in absurd (none w.0 (round_left recorded trees earlier left round rounds (inr h) w.0 (among_in round w.0 w.1)))

but_not : (left : ℕ → Bool) (round : List ℕ) (x : ℕ) → IsTrue (but left (among round) x) → (IsTrue (left x)) × (Contains round x → ⊥)
but_not left round x t =
    let both = and_parts (left x) (not (among round x)) t in
    (both.0, λ c. both_ways (among round x) (not-true (among round x) both.1) (in_among round x c))

-- a round before others
pub round_before : (recorded : List Package) (trees : List (Option ControlFile)) (earlier left : ℕ → Bool) (round : List ℕ) (rounds : List (List ℕ)) → IsRoundOf (IsNext recorded trees earlier left) left round → AreRoundsFrom recorded trees (or_in earlier (among round)) (but left (among round)) rounds → AreRoundsFrom recorded trees earlier left (round ∷ rounds)
round_before recorded trees earlier left round rounds (some, inl listing) h = inl (some, listing, h)
round_before recorded trees earlier left round rounds (some, inr last) h = inr (
  some,
  last.0,
  last.1,
  no_round recorded trees (or_in earlier (among round)) (but left (among round)) rounds (λ x t. let w = but_not left round x t in w.1 ((last.1.1 x).1 w.0)) h,
)

-- each of those left is in a round
pub all_in : (recorded : List Package) (trees : List (Option ControlFile)) (rounds : List (List ℕ)) (earlier left : ℕ → Bool) → AreRoundsFrom recorded trees earlier left rounds → (x : ℕ) → IsTrue (left x) → Contains (concat rounds) x
all_in recorded trees [] earlier left h x t = absurd (both_ways (left x) (h x) t)
all_in recorded trees (round ∷ rounds) earlier left (inl h) x t = ⊎_elim
    (λ (y : among round x ≡ true). Contains-append_left round (concat rounds) x (among_in round x y))
    (λ (n : among round x ≡ false). Contains-append_right round (concat rounds) x
    (all_in recorded trees rounds (or_in earlier (among round)) (but left (among round)) h.2 x (and_from (left x) (not (among round x)) t (not_from_false (among round x) n))))
    (cases_Bool (among round x))
all_in recorded trees (round ∷ rounds) earlier left (inr h) x t = Contains-append_left round (concat rounds) x ((h.2.1 x).1 t)

-- and no other
pub only_left : (recorded : List Package) (trees : List (Option ControlFile)) (rounds : List (List ℕ)) (earlier left : ℕ → Bool) → AreRoundsFrom recorded trees earlier left rounds → (x : ℕ) → Contains (concat rounds) x → IsTrue (left x)
only_left recorded trees [] earlier left h x c = absurd (omega (arith, c.1))
only_left recorded trees (round ∷ rounds) earlier left (inl h) x c = ⊎_elim
    (λ (l : Contains round x). round_left recorded trees earlier left round rounds (inl h) x l)
    (λ r. (but_not left round x (only_left recorded trees rounds (or_in earlier (among round)) (but left (among round)) h.2 x r)).0)
    (Contains-append_cases round (concat rounds) x c)
only_left recorded trees (round ∷ rounds) earlier left (inr h) x c = ⊎_elim
    (λ (l : Contains round x). round_left recorded trees earlier left round rounds (inr h) x l)
    (λ r. let none = subst (λ (l : List (List ℕ)). Contains (concat l) x) h.3 r in absurd (omega (arith, none.1)))
    (Contains-append_cases round (concat rounds) x c)

pairs_append : (R : ℕ → ℕ → Type 0) (xs ys : List ℕ) → AllPairs R xs → AllPairs R ys → ((x y : ℕ) → Contains xs x → Contains ys y → R x y) → AllPairs R (xs ++ ys)
pairs_append R xs ys px py cross i j d less lt = ⊎_elim
    (λ (jl : j < length xs).
    let e1 = get_or_append_left xs ys d i (omega arith) in
    let e2 = get_or_append_left xs ys d j jl in
    subst (λ (a : ℕ). R a (get_or (xs ++ ys) j d)) (sym e1) (subst (λ (b : ℕ). R (get_or xs i d) b) (sym e2) (px i j d less jl)))
    (λ (jr : length xs ≤ j).
    let e2 = get_or-append_right xs ys (length xs) j d refl jr in
    let within : j - length xs < length ys = omega (arith, length-append xs ys) in
    ⊎_elim
    (λ (il : i < length xs).
    let e1 = get_or_append_left xs ys d i il in
    subst (λ (a : ℕ). R a (get_or (xs ++ ys) j d)) (sym e1) (subst (λ (b : ℕ). R (get_or xs i d) b) (sym e2) (cross (get_or xs i d) (get_or ys (j - length xs) d) (Contains-get_or xs i d il) (Contains-get_or ys (j - length xs) d within))))
    (λ (ir : length xs ≤ i).
    let e1 = get_or-append_right xs ys (length xs) i d refl ir in
    subst (λ (a : ℕ). R a (get_or (xs ++ ys) j d)) (sym e1) (subst (λ (b : ℕ). R (get_or ys (i - length xs) d) b) (sym e2) (py (i - length xs) (j - length xs) d (omega arith) within)))
    (cases_lt i (length xs)))
    (cases_lt j (length xs))

differ : (xs : List ℕ) → AllPairs (λ a b. a < b) xs → AllPairs (λ x y. x ≢ y) xs
differ xs h i j d less lt e = let l : get_or xs i d < get_or xs j d = h i j d less lt in omega (arith, l, e)

no_pairs : (R : ℕ → ℕ → Type 0) → AllPairs R []
no_pairs R i j d less lt = absurd (omega (arith, lt))

-- none twice
pub none_twice : (recorded : List Package) (trees : List (Option ControlFile)) (rounds : List (List ℕ)) (earlier left : ℕ → Bool) → AreRoundsFrom recorded trees earlier left rounds → AllPairs (λ x y. x ≢ y) (concat rounds)
none_twice recorded trees [] earlier left h = no_pairs (λ x y. x ≢ y)
none_twice recorded trees (round ∷ rounds) earlier left (inl h) = pairs_append (λ x y. x ≢ y) round (concat rounds) (differ round h.1.0)
    (none_twice recorded trees rounds (or_in earlier (among round)) (but left (among round)) h.2)
    (λ x y a b e. (but_not left round y (only_left recorded trees rounds (or_in earlier (among round)) (but left (among round)) h.2 y b)).1 (subst (Contains round) e a))
none_twice recorded trees (round ∷ rounds) earlier left (inr h) = pairs_append (λ x y. x ≢ y) round (concat rounds) (differ round h.2.0)
    (subst (λ (l : List (List ℕ)). AllPairs (λ x y. x ≢ y) (concat l)) (sym h.3) (no_pairs (λ x y. x ≢ y)))
    (λ x y a b e. let none = subst (λ (l : List (List ℕ)). Contains (concat l) y) h.3 b in omega (arith, none.1))

pub each_taken : (recorded : List Package) (trees : List (Option ControlFile)) (rounds : List (List ℕ)) → AreRounds recorded trees rounds → (x : ℕ) → x < length trees → Contains (concat rounds) x
each_taken recorded trees rounds h x lt = all_in recorded trees rounds (λ y. false) (λ y. nat_lt y (length trees)) h x (lt-ltb x (length trees) lt)

pub each_once : (recorded : List Package) (trees : List (Option ControlFile)) (rounds : List (List ℕ)) → AreRounds recorded trees rounds → AllPairs (λ x y. x ≢ y) (concat rounds)
each_once recorded trees rounds h = none_twice recorded trees rounds (λ y. false) (λ y. nat_lt y (length trees)) h

all_below : (n : ℕ) (rounds : List (List ℕ)) → ((x : ℕ) → Contains (concat rounds) x → x < n) → All (All (λ x. x < n)) rounds
all_below n [] h = All-nil (All (λ x. x < n))
all_below n (round ∷ rounds) h = All-cons (All (λ x. x < n)) round rounds
    (λ k d lt. h (get_or round k d) (Contains-append_left round (concat rounds) (get_or round k d) (Contains-get_or round k d lt)))
    (all_below n rounds (λ x c. h x (Contains-append_right round (concat rounds) x c)))

pub rounds_within : (recorded : List Package) (trees : List (Option ControlFile)) (rounds : List (List ℕ)) → AreRounds recorded trees rounds → All (All (λ x. x < length trees)) rounds
rounds_within recorded trees rounds h = all_below (length trees) rounds
    (λ x c. ltb-true x (length trees) (only_left recorded trees rounds (λ y. false) (λ y. nat_lt y (length trees)) h x c))
