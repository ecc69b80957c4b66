-- The round that is taken, and what it leaves.
use Rattle.std.proofs.Common.{◌≡◌, ℕ, ◌+◌, ◌<◌, ◌≤◌, zero, suc, Bool, true, false, cond, ◌||◌, ◌&&◌, not, List, [], ◌∷◌, ◌++◌, Option, length, length-set, length-append, get_or, set, take, append_assoc, subst, sym, refl, ap, ◌∙◌, inl, inr, ⊎_elim, arith}
use Rattle.std.specs.Prelude.{IsTrue, ◌↔◌, replicate, nat_lt}
use Rattle.std.specs.List.{Contains, count_by, list_any}
use Rattle.std.proofs.lemmas.Bool.{cases_Bool, cases_lt, cases_eq, both_ways, false≢true, false_from_ne_true, and_parts, and_right, not_from_true, or_right, cond-true, cond-false, lt-ltb, le-ltb}
use Rattle.std.proofs.lemmas.List.{get_or_past, get_or-set_same, get_or-set_other, get_or-replicate, length-replicate, get_or_append_left, take_more, append-nil}
use Rattle.std.proofs.lemmas.List.Elements.{All-more, All-contains}
use Rattle.std.proofs.lemmas.List.Folds.{list_any_at}
use Rattle.std.proofs.lemmas.List.Sums.{sum_by-cons}
use Rattle.dependency_sets.proofs.RemovalLaws.{in_more, more_in, last_in, met_from_any, any_from_met}
use Rattle.dependency_sets.proofs.StrikingLaws.{has_before, has_after, in_range}
use Rattle.dependency_sets.specs.Choices.{IsListing}
use Rattle.dependency_sets.specs.Sets.{has, but, or_in, IsMet, IsSupplied, IsConfigurable}
use Rattle.dependency_sets.specs.declared.clause.Clause.{Clause}
use Rattle.install_order.specs.Clauses.{AreNeeds}
use Rattle.install_order.specs.Rounds.{among, IsNext, AreRoundsFrom, AreRounds}
use Rattle.install_order.specs.Taking.{IsNextBy, IsRoundOf, AreMarked, HasTakenRound}
use Rattle.install_order.specs.declared.stage.Stage.TheVariants.{Unpack, Configure}
use Rattle.install_order.proofs.NeedLaws.{needs_are}
use Rattle.install_order.proofs.RoundLaws.{among_in, in_among, round_before}
use Rattle.package_tree.specs.declared.control_file.ControlFile.{ControlFile}
use Rattle.relation_index.specs.declared.package.Package.{Package}

or_none : (b : Bool) → (b || false) ≡ b
or_none true = refl
or_none false = refl

and_all : (b : Bool) → (b && true) ≡ b
and_all true = refl
and_all false = refl

-- marks

pub marked_more : (value : Bool) (numbers : List ℕ) (i n : ℕ) (old mid new : List Bool) → i < length numbers → n ≡ get_or numbers i 0 → new ≡ set mid n value → AreMarked value (take i numbers) old mid → AreMarked value (take (i + 1) numbers) old new
marked_more value numbers i n old mid new lt at e h = subst (AreMarked value (take (i + 1) numbers) old) (sym e) (record {
  len = length-set mid n value ∙ h.len;
  marked = λ x within c. ⊎_elim
      (λ (same : x ≡ n). ap (λ (m : ℕ). has (set mid n value) m) same ∙ get_or-set_same mid n value false (omega (arith, h.len, within, same)))
      (λ other. get_or-set_other mid n x value false other ∙ h.marked x within
      (⊎_elim (λ (before : Contains (take i numbers) x). before) (λ (is' : get_or numbers i 0 ≡ x). absurd (other (sym (at ∙ is')))) (in_more numbers i 0 x lt c)))
      (cases_eq x n);
  others = λ x not'. ⊎_elim
      (λ (same : x ≡ n). absurd (not' (subst (Contains (take (i + 1) numbers)) (sym (same ∙ at)) (last_in numbers i 0 lt))))
      (λ other. get_or-set_other mid n x value false other ∙ h.others x (λ c. not' (more_in numbers i 0 x lt c)))
      (cases_eq x n);
})

-- the clauses so far are met

has_not : (m : List Bool) (n : ℕ) → has (set m n false) n ≡ false
has_not m n = ⊎_elim (λ within. get_or-set_same m n false false within) (λ past. get_or_past (set m n false) n false (subst (λ (k : ℕ). k ≤ n) (sym (length-set m n false)) past)) (cases_lt n (length m))

abbrev pub IsSupplying : List Clause → (ℕ → Bool) → (ℕ → Bool) → List Bool → Type 0
IsSupplying clauses earlier left waiting = (x : ℕ) → IsTrue (has waiting x) ↔ (IsTrue (left x) × IsSupplied clauses earlier x)

pub supplying_more : (clauses : List Clause) (earlier left : ℕ → Bool) (i : ℕ) (c : Clause) (waiting new : List Bool) → i < length clauses → c ≡ get_or clauses i c → new ≡ cond (list_any earlier c.meeters) waiting (set waiting c.owner false) → IsSupplying (take i clauses) earlier left waiting → IsSupplying (take (i + 1) clauses) earlier left new
supplying_more clauses earlier left i c waiting new lt at e h =
    let fewer : (x : ℕ) → IsSupplied (take (i + 1) clauses) earlier x → IsSupplied (take i clauses) earlier x = λ x s k d below own.
    let r : get_or (take (i + 1) clauses) k d ≡ get_or (take i clauses) k d = ap (λ (l : List Clause). get_or l k d) (take_more clauses i c lt) ∙ get_or_append_left (take i clauses) (get_or clauses i c ∷ []) d k below in
    subst (λ (q : Clause). q.owner ≡ x → IsMet q earlier) r (s k d (omega (arith, ap length (take_more clauses i c lt), length-append (take i clauses) (get_or clauses i c ∷ [])))) own in
    let here : (x : ℕ) → IsSupplied (take (i + 1) clauses) earlier x → c.owner ≡ x → IsMet c earlier = λ x s. All-contains (λ (q : Clause). q.owner ≡ x → IsMet q earlier) (take (i + 1) clauses) c s (subst (Contains (take (i + 1) clauses)) (sym at) (last_in clauses i c lt)) in
    let both : (x : ℕ) → IsSupplied (take i clauses) earlier x → (c.owner ≡ x → IsMet c earlier) → IsSupplied (take (i + 1) clauses) earlier x = λ x s one. All-more (λ (q : Clause). q.owner ≡ x → IsMet q earlier) clauses i c lt s (subst (λ (q : Clause). q.owner ≡ x → IsMet q earlier) at one) in
    ⊎_elim
    (λ (yes : list_any earlier c.meeters ≡ true). subst (IsSupplying (take (i + 1) clauses) earlier left) (sym (e ∙ cond-true (list_any earlier c.meeters) waiting (set waiting c.owner false) yes))
    (λ x. (λ t. let w = (h x).0 t in (w.0, both x w.1 (λ own. met_from_any earlier c yes)), λ w. (h x).1 (w.0, fewer x w.1))))
    (λ (no : list_any earlier c.meeters ≡ false). subst (IsSupplying (take (i + 1) clauses) earlier left) (sym (e ∙ cond-false (list_any earlier c.meeters) waiting (set waiting c.owner false) no))
    (λ x. (
      λ t. let w = (h x).0 (has_before waiting c.owner x t) in (w.0, both x w.1 (λ own. absurd (both_ways (has (set waiting c.owner false) x) (subst (λ (n : ℕ). has (set waiting c.owner false) n ≡ false) own (has_not waiting c.owner)) t))),
      λ w. has_after waiting c.owner x (λ own. both_ways (list_any earlier c.meeters) no (any_from_met earlier c (here x w.1 (sym own)))) ((h x).1 (w.0, fewer x w.1)),
    )))
    (cases_Bool (list_any earlier c.meeters))

-- what can be configured beside those that can be unpacked

pub next_is : (before beside : List Clause) (earlier left waiting : ℕ → Bool) → ((x : ℕ) → IsTrue (waiting x) ↔ (IsTrue (left x) × IsSupplied before earlier x)) → (x : ℕ) → IsConfigurable beside earlier waiting x ↔ IsNextBy before beside earlier left x
next_is before beside earlier left waiting w x = (
  λ u. (u.0, (λ y s. ((w y).0 (u.1.0 y s)).0, λ y s. (((w y).0 (u.1.0 y s)).1, u.1.1 y s)), u.2),
  λ u. (u.0, (λ y s. (w y).1 (u.1.0 y s, (u.1.1 y s).0), λ y s. (u.1.1 y s).1), u.2),
)

pub members_are : (before beside : List Clause) (earlier left : ℕ → Bool) (waiting slice members : List Bool) → slice ≡ waiting → IsSupplying before earlier left waiting → ((x : ℕ) → IsTrue (has members x) ↔ IsConfigurable beside earlier (has slice) x) → (x : ℕ) → IsTrue (has members x) ↔ IsNextBy before beside earlier left x
members_are before beside earlier left waiting slice members e w m x =
    let n = next_is before beside earlier left (has slice) (subst (IsSupplying before earlier left) (sym e) w) x in
    (λ t. n.0 ((m x).0 t), λ u. (m x).1 (n.1 u))

one_marked : (m : List Bool) → list_any (λ b. b) m ≡ true → (x : ℕ) × IsTrue (has m x)
one_marked [] t = absurd (false≢true t)
one_marked (true ∷ m) t = (0, refl)
one_marked (false ∷ m) t = let w = one_marked m t in (suc w.0, w.1)

pub none_marked : (m : List Bool) → list_any (λ b. b) m ≡ false → (x : ℕ) → IsTrue (has m x) → ⊥
none_marked m f x t = both_ways (list_any (λ b. b) m) f (list_any_at (λ b. b) m x false (in_range m x t) t)

-- a list of marked ones, where there is one, has one
listing_some : (set' : List Bool) (round : List ℕ) → list_any (λ b. b) set' ≡ true → IsListing (λ x. IsTrue (has set' x)) round → (x : ℕ) × IsTrue (among round x)
listing_some set' round some listing = let w = one_marked set' some in (w.0, in_among round w.0 ((listing.1 w.0).1 w.1))

pub round_of_members : (Next : ℕ → Type 0) (members slice : List Bool) (left : ℕ → Bool) (round : List ℕ) → slice ≡ members → ((x : ℕ) → IsTrue (has members x) ↔ Next x) → list_any (λ b. b) slice ≡ true → IsListing (λ x. IsTrue (has slice x)) round → IsRoundOf Next left round
round_of_members Next members slice left round e are some listing = (
  listing_some slice round some listing,
  inl (listing.0, λ x. (λ c. (are x).0 (subst (λ (l : List Bool). IsTrue (has l x)) e ((listing.1 x).0 c)), λ n. (listing.1 x).1 (subst (λ (l : List Bool). IsTrue (has l x)) (sym e) ((are x).1 n)))),
)

pub round_of_left : (Next : ℕ → Type 0) (members slice left : List Bool) (round : List ℕ) → slice ≡ members → ((x : ℕ) → IsTrue (has members x) ↔ Next x) → list_any (λ b. b) slice ≡ false → list_any (λ b. b) left ≡ true → IsListing (λ x. IsTrue (has left x)) round → IsRoundOf Next (has left) round
round_of_left Next members slice left round e are none some listing = (
  listing_some left round some listing,
  inr (λ x n. none_marked slice none x (subst (λ (l : List Bool). IsTrue (has l x)) (sym e) ((are x).1 n)), listing),
)

-- rounds

pub next_by_is : (recorded : List Package) (trees : List (Option ControlFile)) (before beside : List Clause) → AreNeeds Unpack recorded trees before → AreNeeds Configure recorded trees beside → (earlier left : ℕ → Bool) (x : ℕ) → IsNextBy before beside earlier left x ↔ IsNext recorded trees earlier left x
next_by_is recorded trees before beside b t earlier left x = (
  λ u. (u.0, (u.1.0, λ y s. ((needs_are Unpack recorded trees before b earlier y).0 (u.1.1 y s).0, (needs_are Configure recorded trees beside t (or_in earlier u.0) y).0 (u.1.1 y s).1)), u.2),
  λ u. (u.0, (u.1.0, λ y s. ((needs_are Unpack recorded trees before b earlier y).1 (u.1.1 y s).0, (needs_are Configure recorded trees beside t (or_in earlier u.0) y).1 (u.1.1 y s).1)), u.2),
)

round_same : (P Q : ℕ → Type 0) (left : ℕ → Bool) (round : List ℕ) → ((x : ℕ) → P x ↔ Q x) → IsRoundOf P left round → IsRoundOf Q left round
round_same P Q left round same (some, inl listing) = (some, inl (listing.0, λ x. (λ c. (same x).0 ((listing.1 x).0 c), λ q. (listing.1 x).1 ((same x).1 q))))
round_same P Q left round same (some, inr last) = (some, inr (λ x q. last.0 x ((same x).1 q), last.1))

-- the round's members are of those left
of_left : (Next : ℕ → Type 0) (left : List Bool) (round : List ℕ) → ((x : ℕ) → Next x → IsTrue (has left x)) → IsRoundOf Next (has left) round → (x : ℕ) → Contains round x → IsTrue (has left x)
of_left Next left round within (some, inl listing) x c = within x ((listing.1 x).0 c)
of_left Next left round within (some, inr last) x c = (last.1.1 x).0 c

earlier_then : (earlier new : List Bool) (round : List ℕ) → ((x : ℕ) → Contains round x → x < length earlier) → AreMarked true round earlier new → (x : ℕ) → has new x ≡ or_in (has earlier) (among round) x
earlier_then earlier new round within m x = ⊎_elim
    (λ (t : among round x ≡ true). m.marked x (within x (among_in round x t)) (among_in round x t) ∙ sym (or_right (has earlier x) (among round x) t))
    (λ (f : among round x ≡ false). m.others x (λ c. both_ways (among round x) f (in_among round x c)) ∙ sym (ap (λ (b : Bool). has earlier x || b) f ∙ or_none (has earlier x)))
    (cases_Bool (among round x))

left_then : (left new : List Bool) (round : List ℕ) → ((x : ℕ) → Contains round x → x < length left) → AreMarked false round left new → (x : ℕ) → has new x ≡ but (has left) (among round) x
left_then left new round within m x = ⊎_elim
    (λ (t : among round x ≡ true). m.marked x (within x (among_in round x t)) (among_in round x t) ∙ sym (and_right (has left x) (not (among round x)) (not_from_true (among round x) t)))
    (λ (f : among round x ≡ false). m.others x (λ c. both_ways (among round x) f (in_among round x c)) ∙ sym (ap (λ (b : Bool). has left x && not b) f ∙ and_all (has left x)))
    (cases_Bool (among round x))

-- what holds between rounds

pub record IsAt (recorded : List Package) (trees : List (Option ControlFile)) (rounds : List (List ℕ)) (earlier left : List Bool) : Type 0 where
  pub so_far : (rest : List (List ℕ)) → AreRoundsFrom recorded trees (has earlier) (has left) rest → AreRounds recorded trees (rounds ++ rest)
  pub len : length earlier ≡ length left

pub at_first : (recorded : List Package) (trees : List (Option ControlFile)) (n : ℕ) (rounds : List (List ℕ)) (earlier left : List Bool) → n ≡ length trees → rounds ≡ [] → earlier ≡ replicate n false → left ≡ replicate n true → IsAt recorded trees rounds earlier left
at_first recorded trees n rounds earlier left en er ee el =
    let none : (x : ℕ) → has (replicate n false) x ≡ false = λ x. ⊎_elim (λ l. get_or-replicate n x false false l) (λ l. get_or_past (replicate n false) x false (subst (λ (m : ℕ). m ≤ x) (sym (length-replicate n false)) l)) (cases_lt x n) in
    let all : (x : ℕ) → has (replicate n true) x ≡ nat_lt x (length trees) = λ x. ⊎_elim
    (λ (l : x < n). get_or-replicate n x true false l ∙ sym (lt-ltb x (length trees) (subst (λ (m : ℕ). x < m) en l)))
    (λ (l : n ≤ x). get_or_past (replicate n true) x false (subst (λ (m : ℕ). m ≤ x) (sym (length-replicate n true)) l) ∙ sym (le-ltb x (length trees) (subst (λ (m : ℕ). m ≤ x) en l)))
    (cases_lt x n) in
    let e1 : has earlier ≡ (λ (x : ℕ). false) = ap has ee ∙ (λ i x. none x i) in
    let e2 : has left ≡ (λ (x : ℕ). nat_lt x (length trees)) = ap has el ∙ (λ i x. all x i) in
    record {
      so_far = λ rest h. subst (λ (l : List (List ℕ)). AreRounds recorded trees (l ++ rest)) (sym er)
          (subst (λ (f : ℕ → Bool). AreRoundsFrom recorded trees f (λ (x : ℕ). nat_lt x (length trees)) rest) e1
          (subst (λ (f : ℕ → Bool). AreRoundsFrom recorded trees (has earlier) f rest) e2 h));
      len = ap length ee ∙ length-replicate n false ∙ sym (ap length el ∙ length-replicate n true);
    }

pub at_more : (recorded : List Package) (trees : List (Option ControlFile)) (before beside : List Clause) (rounds rounds' : List (List ℕ)) (earlier left earlier' left' : List Bool) → AreNeeds Unpack recorded trees before → AreNeeds Configure recorded trees beside → HasTakenRound (IsNextBy before beside (has earlier) (has left)) rounds earlier left rounds' earlier' left' → IsAt recorded trees rounds earlier left → IsAt recorded trees rounds' earlier' left'
at_more recorded trees before beside rounds rounds' earlier left earlier' left' b t taken at =
    let members = of_left (IsNextBy before beside (has earlier) (has left)) left taken.round (λ x u. u.1.0 x u.2) taken.is_next in
    let in_left : (x : ℕ) → Contains taken.round x → x < length left = λ x c. in_range left x (members x c) in
    let e1 : has earlier' ≡ or_in (has earlier) (among taken.round) = λ i x. earlier_then earlier earlier' taken.round (λ y c. subst (λ (n : ℕ). y < n) (sym at.len) (in_left y c)) taken.in_earlier x i in
    let e2 : has left' ≡ but (has left) (among taken.round) = λ i x. left_then left left' taken.round in_left taken.not_left x i in
    let is' = round_same (IsNextBy before beside (has earlier) (has left)) (IsNext recorded trees (has earlier) (has left)) (has left) taken.round (next_by_is recorded trees before beside b t (has earlier) (has left)) taken.is_next in
    record {
      so_far = λ rest h.
          let h' = subst (λ (f : ℕ → Bool). AreRoundsFrom recorded trees f (but (has left) (among taken.round)) rest) e1 (subst (λ (f : ℕ → Bool). AreRoundsFrom recorded trees (has earlier') f rest) e2 h) in
          subst (λ (l : List (List ℕ)). AreRounds recorded trees (l ++ rest)) (sym taken.is_last)
          (subst (AreRounds recorded trees) (sym (append_assoc rounds (taken.round ∷ []) rest))
          (at.so_far (taken.round ∷ rest) (round_before recorded trees (has earlier) (has left) taken.round rest is' h')));
      len = taken.in_earlier.len ∙ at.len ∙ sym taken.not_left.len;
    }

pub at_end : (recorded : List Package) (trees : List (Option ControlFile)) (rounds : List (List ℕ)) (earlier left slice : List Bool) → slice ≡ left → list_any (λ b. b) slice ≡ false → IsAt recorded trees rounds earlier left → AreRounds recorded trees rounds
at_end recorded trees rounds earlier left slice e none at = subst (AreRounds recorded trees) (append-nil rounds)
    (at.so_far [] (λ x. false_from_ne_true (has left x) (λ t. none_marked slice none x (subst (λ (l : List Bool). IsTrue (has l x)) (sym e) t))))

-- fewer are left

counted : (m : List Bool) → (count_by (λ b. b) (true ∷ m) ≡ 1 + count_by (λ b. b) m) × (count_by (λ b. b) (false ∷ m) ≡ count_by (λ b. b) m)
counted m = let none = sum_by-cons (λ (b : Bool). cond b 1 0) false m in (sum_by-cons (λ (b : Bool). cond b 1 0) true m, omega (arith, none))

no_more : (m n : List Bool) → length n ≡ length m → ((x : ℕ) → IsTrue (has n x) → IsTrue (has m x)) → count_by (λ b. b) n ≤ count_by (λ b. b) m
no_more [] [] e h = omega arith
no_more [] (b ∷ n) e h = absurd (omega (arith, e))
no_more (a ∷ m) [] e h = absurd (omega (arith, e))
no_more (true ∷ m) (true ∷ n) e h = let r = no_more m n (omega (arith, e)) (λ x t. h (suc x) t) in omega (arith, r, counted m, counted n)
no_more (true ∷ m) (false ∷ n) e h = let r = no_more m n (omega (arith, e)) (λ x t. h (suc x) t) in omega (arith, r, counted m, counted n)
no_more (false ∷ m) (true ∷ n) e h = absurd (false≢true (h 0 refl))
no_more (false ∷ m) (false ∷ n) e h = let r = no_more m n (omega (arith, e)) (λ x t. h (suc x) t) in omega (arith, r, counted m, counted n)

fewer : (m n : List Bool) → length n ≡ length m → ((x : ℕ) → IsTrue (has n x) → IsTrue (has m x)) → (y : ℕ) → IsTrue (has m y) → has n y ≡ false → count_by (λ b. b) n < count_by (λ b. b) m
fewer [] n e h y t f = absurd (false≢true t)
fewer (a ∷ m) [] e h y t f = absurd (omega (arith, e))
fewer (true ∷ m) (true ∷ n) e h zero t f = absurd (false≢true (sym f))
fewer (true ∷ m) (true ∷ n) e h (suc y) t f = let r = fewer m n (omega (arith, e)) (λ x s. h (suc x) s) y t f in omega (arith, r, counted m, counted n)
fewer (true ∷ m) (false ∷ n) e h y t f = let r = no_more m n (omega (arith, e)) (λ x s. h (suc x) s) in omega (arith, r, counted m, counted n)
fewer (false ∷ m) (true ∷ n) e h y t f = absurd (false≢true (h 0 refl))
fewer (false ∷ m) (false ∷ n) e h zero t f = absurd (false≢true t)
fewer (false ∷ m) (false ∷ n) e h (suc y) t f = let r = fewer m n (omega (arith, e)) (λ x s. h (suc x) s) y t f in omega (arith, r, counted m, counted n)

pub fewer_left : (before beside : List Clause) (rounds rounds' : List (List ℕ)) (earlier left earlier' left' : List Bool) → HasTakenRound (IsNextBy before beside (has earlier) (has left)) rounds earlier left rounds' earlier' left' → count_by (λ b. b) left' < count_by (λ b. b) left
fewer_left before beside rounds rounds' earlier left earlier' left' taken =
    let members = of_left (IsNextBy before beside (has earlier) (has left)) left taken.round (λ x u. u.1.0 x u.2) taken.is_next in
    let then_is = left_then left left' taken.round (λ x c. in_range left x (members x c)) taken.not_left in
    let one = taken.is_next.0 in
    let c = among_in taken.round one.0 one.1 in
    fewer left left' taken.not_left.len (λ x t. (and_parts (has left x) (not (among taken.round x)) (sym (then_is x) ∙ t)).0) one.0 (members one.0 c)
    (then_is one.0 ∙ and_right (has left one.0) (not (among taken.round one.0)) (not_from_true (among taken.round one.0) one.1))

pub round_at : (before beside : List Clause) (earlier earlier' left left' : List Bool) (round : List ℕ) → earlier' ≡ earlier → left' ≡ left → IsRoundOf (IsNextBy before beside (has earlier') (has left')) (has left') round → IsRoundOf (IsNextBy before beside (has earlier) (has left)) (has left) round
round_at before beside earlier earlier' left left' round ee el h =
    subst (λ (l : List Bool). IsRoundOf (IsNextBy before beside (has earlier) (has l)) (has l) round) el
    (subst (λ (l : List Bool). IsRoundOf (IsNextBy before beside (has l) (has left')) (has left') round) ee h)
