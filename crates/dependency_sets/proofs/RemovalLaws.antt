-- Which packages go together, and on which no other relies.
use Rattle.std.proofs.Common.{◌≡◌, ℕ, ◌<◌, ◌≤◌, ◌+◌, Bool, true, false, cond, ◌&&◌, not, List, [], ◌∷◌, ◌++◌, length, length-set, get_or, set, take, subst, sym, refl, ap, ◌∙◌, inl, inr, ⊎_elim, ◌⊎◌, arith}
use Rattle.std.specs.Prelude.{IsTrue, ◌↔◌, ◌≢◌, replicate, nat_eq}
use Rattle.std.specs.List.{Contains, list_any}
use Rattle.std.proofs.lemmas.Bool.{cases_eq, cases_lt, cases_Bool, true≢false, false≢true, both_ways, or_cases, or_right, and_parts, and_from, and_left, and_right, and_cases, or_parts, false_from_ne_true, not_from_false, not-true, cond-true, cond-false, ne_eqb, eq-eqb}
use Rattle.std.proofs.lemmas.List.{get_or_past, set_past, get_or-set_same, get_or-set_other, get_or_default, get_or-replicate, length-replicate, take_more}
use Rattle.std.proofs.lemmas.List.Elements.{Contains-append_left, Contains-push, Contains-push_cases, Contains-get_or}
use Rattle.std.proofs.lemmas.List.Folds.{list_any_at, Any-from_list_any}
use Rattle.dependency_sets.specs.Largest.{Within}
use Rattle.dependency_sets.specs.Sets.{has, or_in, but, stays, IsMet, IsSupplied, IsConfigurable}
use Rattle.dependency_sets.specs.Kept.{Queue, IsLeaving, IsLeavingNow, has_configured}
use Rattle.dependency_sets.specs.Removal.{reliance, is_wanting, HasAdded, AreReliances, IsRemovable, MayGo, IsReliedOn, AreFree, IsUnmarked}
use Rattle.dependency_sets.specs.declared.clause.Clause.{Clause}

pub in_more : {X : Type 0} (xs : List X) (i : ℕ) (d x : X) → i < length xs → Contains (take (i + 1) xs) x → Contains (take i xs) x ⊎ (get_or xs i d ≡ x)
in_more {X} xs i d x lt c = Contains-push_cases (take i xs) (get_or xs i d) x (subst (λ (l : List X). Contains l x) (take_more xs i d lt) c)

pub more_in : {X : Type 0} (xs : List X) (i : ℕ) (d x : X) → i < length xs → Contains (take i xs) x → Contains (take (i + 1) xs) x
more_in {X} xs i d x lt c = subst (λ (l : List X). Contains l x) (sym (take_more xs i d lt)) (Contains-append_left (take i xs) (get_or xs i d ∷ []) x c)

pub last_in : {X : Type 0} (xs : List X) (i : ℕ) (d : X) → i < length xs → Contains (take (i + 1) xs) (get_or xs i d)
last_in {X} xs i d lt = subst (λ (l : List X). Contains l (get_or xs i d)) (sym (take_more xs i d lt)) (Contains-push (take i xs) (get_or xs i d))

pub has_added_more : (installed : ℕ → Bool) (user : ℕ) (ms : List ℕ) (i : ℕ) (old mid new : List Clause) → i < length ms → HasAdded installed user (take i ms) old mid → new ≡ cond (installed (get_or ms i 0)) (mid ++ reliance user (get_or ms i 0) ∷ []) mid → HasAdded installed user (take (i + 1) ms) old new
has_added_more installed user ms i old mid new lt h e =
    let x = get_or ms i 0 in
    ⊎_elim
    (λ (yes : installed x ≡ true). subst (λ (l : List Clause). HasAdded installed user (take (i + 1) ms) old l) (sym (e ∙ cond-true (installed x) (mid ++ reliance user x ∷ []) mid yes)) (record {
      kept = λ r c. Contains-append_left mid (reliance user x ∷ []) r (h.kept r c);
      added = λ y c t. ⊎_elim (λ c. Contains-append_left mid (reliance user x ∷ []) (reliance user y) (h.added y c t))
          (λ (same : x ≡ y). subst (λ (n : ℕ). Contains (mid ++ reliance user x ∷ []) (reliance user n)) same (Contains-push mid (reliance user x)))
          (in_more ms i 0 y lt c);
      no_more = λ r c. ⊎_elim
          (λ c. ⊎_elim (λ c. inl c) (λ w. inr (w.0, more_in ms i 0 w.0 lt w.1, w.2, w.3)) (h.no_more r c))
          (λ (same : reliance user x ≡ r). inr (x, last_in ms i 0 lt, yes, same))
          (Contains-push_cases mid (reliance user x) r c);
    }))
    (λ (no : installed x ≡ false). subst (λ (l : List Clause). HasAdded installed user (take (i + 1) ms) old l) (sym (e ∙ cond-false (installed x) (mid ++ reliance user x ∷ []) mid no)) (record {
      kept = h.kept;
      added = λ y c t. ⊎_elim (λ c. h.added y c t)
          (λ (same : x ≡ y). absurd (false≢true (sym no ∙ ap installed same ∙ t)))
          (in_more ms i 0 y lt c);
      no_more = λ r c. ⊎_elim (λ c. inl c) (λ w. inr (w.0, more_in ms i 0 w.0 lt w.1, w.2, w.3)) (h.no_more r c);
    }))
    (cases_Bool (installed x))

pub has_added_at : (installed : ℕ → Bool) (user : ℕ) (ms ns : List ℕ) (i : ℕ) (old mid new : List Clause) → ns ≡ ms → i < length ns → HasAdded installed user (take i ms) old mid → new ≡ cond (installed (get_or ns i 0)) (mid ++ reliance user (get_or ns i 0) ∷ []) mid → HasAdded installed user (take (i + 1) ms) old new
has_added_at installed user ms ns i old mid new same lt h e =
    subst (λ (l : List ℕ). HasAdded installed user (take (i + 1) l) old new) same
    (has_added_more installed user ns i old mid new lt (subst (λ (l : List ℕ). HasAdded installed user (take i l) old mid) (sym same) h) e)

pub reliances_more : (clauses : List Clause) (installed waiting : ℕ → Bool) (i : ℕ) (c : Clause) (mid new : List Clause) → i < length clauses → c ≡ get_or clauses i c → AreReliances (take i clauses) installed waiting mid → (is_wanting installed waiting c ≡ true → HasAdded installed c.owner c.meeters mid new) → (is_wanting installed waiting c ≡ false → new ≡ mid) → AreReliances (take (i + 1) clauses) installed waiting new
reliances_more clauses installed waiting i c mid new lt at h when unless =
    let here : Contains (take (i + 1) clauses) c = subst (λ (d : Clause). Contains (take (i + 1) clauses) d) (sym at) (last_in clauses i c lt) in
    let cases : (d : Clause) → Contains (take (i + 1) clauses) d → Contains (take i clauses) d ⊎ (c ≡ d) = λ d m. ⊎_elim (λ a. inl a) (λ (b : get_or clauses i c ≡ d). inr (at ∙ b)) (in_more clauses i c d lt m) in
    ⊎_elim
    (λ (w : is_wanting installed waiting c ≡ true). let a = when w in record {
      all = λ d m wd x inm t. ⊎_elim (λ m. a.kept (reliance d.owner x) (h.all d m wd x inm t))
          (λ (same : c ≡ d). subst (λ (d : Clause). Contains d.meeters x → Contains new (reliance d.owner x)) same (λ inm. a.added x inm t) inm)
          (cases d m);
      no_more = λ r m. ⊎_elim
          (λ m. let u = h.no_more r m in (u.0, more_in clauses i c u.0 lt u.1, u.2, u.3))
          (λ u. (c, here, w, (u.0, u.1, u.2, u.3)))
          (a.no_more r m);
    })
    (λ (w : is_wanting installed waiting c ≡ false). subst (λ (l : List Clause). AreReliances (take (i + 1) clauses) installed waiting l) (sym (unless w)) (record {
      all = λ d m wd x inm t. ⊎_elim (λ m. h.all d m wd x inm t)
          (λ (same : c ≡ d). absurd (false≢true (sym w ∙ ap (is_wanting installed waiting) same ∙ wd)))
          (cases d m);
      no_more = λ r m. let u = h.no_more r m in (u.0, more_in clauses i c u.0 lt u.1, u.2, u.3);
    }))
    (cases_Bool (is_wanting installed waiting c))

-- a clause that is met by one that stays
pub met_from_any : (S : ℕ → Bool) (c : Clause) → list_any S c.meeters ≡ true → IsMet c S
met_from_any S c t = let a = Any-from_list_any S c.meeters t in (a.1, (a.0, a.2, get_or_default c.meeters a.0 a.1 a.1 a.2 ∙ a.3), a.4)

pub any_from_met : (S : ℕ → Bool) (c : Clause) → IsMet c S → list_any S c.meeters ≡ true
any_from_met S c w = list_any_at S c.meeters w.1.0 w.0 w.1.1 (subst (λ (n : ℕ). S n ≡ true) (sym w.1.2) w.2)

-- with nothing in supply
abbrev beside : (ℕ → Bool) → ℕ → Bool
beside S = or_in (has []) S

-- one may go from the set exactly if all that rely on it are in the set
may_go : (clauses list : List Clause) (installed waiting : ℕ → Bool) → AreReliances clauses installed waiting list → (S : ℕ → Bool) (x : ℕ) → IsSupplied list (beside S) x → MayGo clauses installed waiting S x
may_go clauses list installed waiting rel S x met here c inc user out meets =
    ⊎_elim (λ t. met_from_any (stays installed waiting) c t)
    (λ f.
    let wants : is_wanting installed waiting c ≡ true = and_from (installed c.owner) (not (list_any (stays installed waiting) c.meeters)) user (not_from_false (list_any (stays installed waiting) c.meeters) f) in
    let r : Contains list (reliance c.owner x) = rel.all c inc wants x meets here in
    let w = met r.0 (reliance c.owner x) r.1 (ap (λ (d : Clause). d.owner) r.2) in
    let one : Contains (c.owner ∷ []) w.0 = subst (λ (d : Clause). Contains d.meeters w.0) r.2 w.1 in
    let same : c.owner ≡ w.0 = ⊎_elim (λ (n : Contains [] w.0). absurd (omega (arith, n.1))) (λ e. e) (Contains-push_cases [] c.owner w.0 one) in
    absurd (false≢true (sym out ∙ ap S same ∙ ⊎_elim (λ (s : has [] w.0 ≡ true). absurd (false≢true s)) (λ s. s) (or_cases (has [] w.0) (S w.0) w.2))))
    (cases_Bool (list_any (stays installed waiting) c.meeters))

supplied : (clauses list : List Clause) (installed waiting : ℕ → Bool) → AreReliances clauses installed waiting list → (S : ℕ → Bool) (x : ℕ) → MayGo clauses installed waiting S x → IsSupplied list (beside S) x
supplied clauses list installed waiting rel S x go k d lt mine =
    let r = get_or list k d in
    let u = rel.no_more r (Contains-get_or list k d lt) in
    let c = u.0 in
    let v = u.3 in
    let x_is : v.0 ≡ x = ap (λ (e : Clause). e.owner) v.3 ∙ mine in
    let wants = and_parts (installed c.owner) (not (list_any (stays installed waiting) c.meeters)) u.2 in
    let one : Contains r.meeters c.owner = subst (λ (e : Clause). Contains e.meeters c.owner) v.3 (Contains-push [] c.owner) in
    ⊎_elim
    (λ (t : S c.owner ≡ true). (c.owner, one, or_right (has [] c.owner) (S c.owner) t))
    (λ (f : S c.owner ≡ false).
    let met = go (subst (λ (n : ℕ). installed n ≡ true) x_is v.2) c u.1 wants.0 f (subst (λ (n : ℕ). Contains c.meeters n) x_is v.1) in
    absurd (both_ways (list_any (stays installed waiting) c.meeters) (not-true (list_any (stays installed waiting) c.meeters) wants.1) (any_from_met (stays installed waiting) c met)))
    (cases_Bool (S c.owner))

-- the removable set is the largest set of the reliances
pub removable_is : (clauses list : List Clause) (installed waiting members : ℕ → Bool) → AreReliances clauses installed waiting list → ((x : ℕ) → IsTrue (members x) ↔ IsConfigurable list (has []) waiting x) → (x : ℕ) → IsTrue (members x) ↔ IsRemovable clauses installed waiting x
removable_is clauses list installed waiting members rel h x = (
  λ t. let w = (h x).0 t in (w.0, (w.1.0, λ y here. may_go clauses list installed waiting rel w.0 y (w.1.1 y here)), w.2),
  λ w. (h x).1 (w.0, (w.1.0, λ y here. supplied clauses list installed waiting rel w.0 y (w.1.1 y here)), w.2),
)

-- marks
set_at : (m : List Bool) (x : ℕ) → has (set m x false) x ≡ false
set_at m x = ⊎_elim (λ in'. get_or-set_same m x false false in') (λ past. subst (λ (l : List Bool). has l x ≡ false) (sym (set_past m x false past)) (get_or_past m x false past)) (cases_lt x (length m))

set_false : (m : List Bool) (x y : ℕ) → has m y ≡ false → has (set m x false) y ≡ false
set_false m x y f = ⊎_elim (λ (is : y ≡ x). subst (λ (n : ℕ). has (set m x false) n ≡ false) (sym is) (set_at m x)) (λ ne. get_or-set_other m x y false false ne ∙ f) (cases_eq y x)

pub unmarked_more : (user : ℕ) (ms : List ℕ) (i : ℕ) (old : ℕ → Bool) (mid new : List Bool) → i < length ms → IsUnmarked user (take i ms) old (has mid) → new ≡ cond (nat_eq user (get_or ms i 0)) mid (set mid (get_or ms i 0) false) → IsUnmarked user (take (i + 1) ms) old (has new)
unmarked_more user ms i old mid new lt h e =
    let x = get_or ms i 0 in
    ⊎_elim
    (λ (same : user ≡ x). subst (λ (l : List Bool). IsUnmarked user (take (i + 1) ms) old (has l)) (sym (e ∙ cond-true (nat_eq user x) mid (set mid x false) (eq-eqb user x same))) (record {
      kept = h.kept;
      because = λ y t f. let b = h.because y t f in (b.0, more_in ms i 0 y lt b.1);
      unmarked = λ y ne c. ⊎_elim (λ c. h.unmarked y ne c) (λ (is : x ≡ y). absurd (ne (same ∙ is))) (in_more ms i 0 y lt c);
    }))
    (λ (other : user ≢ x). subst (λ (l : List Bool). IsUnmarked user (take (i + 1) ms) old (has l)) (sym (e ∙ cond-false (nat_eq user x) mid (set mid x false) (ne_eqb user x other))) (record {
      kept = λ y f. set_false mid x y (h.kept y f);
      because = λ y t f. ⊎_elim
          (λ (is : y ≡ x). (λ (u : user ≡ y). other (u ∙ is), subst (λ (n : ℕ). Contains (take (i + 1) ms) n) (sym is) (last_in ms i 0 lt)))
          (λ ne. let b = h.because y t (sym (get_or-set_other mid x y false false ne) ∙ f) in (b.0, more_in ms i 0 y lt b.1))
          (cases_eq y x);
      unmarked = λ y ne c. ⊎_elim (λ c. set_false mid x y (h.unmarked y ne c)) (λ (is : x ≡ y). subst (λ (n : ℕ). has (set mid x false) n ≡ false) is (set_at mid x)) (in_more ms i 0 y lt c);
    }))
    (cases_eq user x)

relied_more : (clauses : List Clause) (installed members : ℕ → Bool) (i : ℕ) (c : Clause) (x : ℕ) → i < length clauses → IsReliedOn (take i clauses) installed members x → IsReliedOn (take (i + 1) clauses) installed members x
relied_more clauses installed members i c x lt w = (w.0, more_in clauses i c w.0 lt w.1, w.2, w.3, w.4, w.5)

pub free_more : (clauses : List Clause) (installed members : ℕ → Bool) (i : ℕ) (c : Clause) (mid new : List Bool) → i < length clauses → c ≡ get_or clauses i c → AreFree (take i clauses) installed members (has mid) → ((installed c.owner && members c.owner) ≡ true → IsUnmarked c.owner c.meeters (has mid) (has new)) → ((installed c.owner && members c.owner) ≡ false → new ≡ mid) → AreFree (take (i + 1) clauses) installed members (has new)
free_more clauses installed members i c mid new lt at h when unless =
    let here : Contains (take (i + 1) clauses) c = subst (λ (d : Clause). Contains (take (i + 1) clauses) d) (sym at) (last_in clauses i c lt) in
    let cases : (d : Clause) → Contains (take (i + 1) clauses) d → Contains (take i clauses) d ⊎ (c ≡ d) = λ d m. ⊎_elim (λ a. inl a) (λ (b : get_or clauses i c ≡ d). inr (at ∙ b)) (in_more clauses i c d lt m) in
    ⊎_elim
    (λ (w : (installed c.owner && members c.owner) ≡ true). let a = when w in let both = and_parts (installed c.owner) (members c.owner) w in record {
      alone = λ x t r. ⊎_elim
          (λ m. ⊎_elim (λ (was : has mid x ≡ true). h.alone x was (r.0, m, r.2, r.3, r.4, r.5)) (λ (was : has mid x ≡ false). false≢true (sym (a.kept x was) ∙ t)) (cases_Bool (has mid x)))
          (λ (same : c ≡ r.0). let rest = subst (λ (d : Clause). (d.owner ≢ x) × Contains d.meeters x) (sym same) (r.4, r.5) in false≢true (sym (a.unmarked x rest.0 rest.1) ∙ t))
          (cases r.0 r.1);
      relied = λ x mem f. ⊎_elim
          (λ (was : has mid x ≡ true). let b = a.because x was f in (c, here, both.0, both.1, b.0, b.1))
          (λ (was : has mid x ≡ false). relied_more clauses installed members i c x lt (h.relied x mem was))
          (cases_Bool (has mid x));
    })
    (λ (w : (installed c.owner && members c.owner) ≡ false). subst (λ (l : List Bool). AreFree (take (i + 1) clauses) installed members (has l)) (sym (unless w)) (record {
      alone = λ x t r. ⊎_elim (λ m. h.alone x t (r.0, m, r.2, r.3, r.4, r.5))
          (λ (same : c ≡ r.0). let rest = subst (λ (d : Clause). IsTrue (installed d.owner) × IsTrue (members d.owner)) (sym same) (r.2, r.3) in false≢true (sym w ∙ and_from (installed c.owner) (members c.owner) rest.0 rest.1))
          (cases r.0 r.1);
      relied = λ x mem f. relied_more clauses installed members i c x lt (h.relied x mem f);
    }))
    (cases_Bool (installed c.owner && members c.owner))

pub free_first : (installed : ℕ → Bool) (members : List Bool) → AreFree [] installed (has members) (has (replicate (length members) true))
free_first installed members = record {
  alone = λ x t r. omega (arith, r.1.1);
  relied = λ x mem f. ⊎_elim
      (λ in'. absurd (true≢false (sym (get_or-replicate (length members) x true false in') ∙ f)))
      (λ past. absurd (false≢true (sym (get_or_past members x false past) ∙ mem)))
      (cases_lt x (length members));
}

-- Once some that waited are gone, the same reliances give the removable set, with these as the supply: nothing is
-- computed again after a removal.
may_go_after : (clauses list : List Clause) (installed waiting gone : ℕ → Bool) → AreReliances clauses installed waiting list → Within gone waiting → (S : ℕ → Bool) (x : ℕ) → IsSupplied list (or_in gone S) x → MayGo clauses (but installed gone) (but waiting gone) S x
may_go_after clauses list installed waiting gone rel from S x met here c inc user out meets =
    let here' = and_parts (installed x) (not (gone x)) here in
    let user' = and_parts (installed c.owner) (not (gone c.owner)) user in
    ⊎_elim
    (λ t.
    let w = met_from_any (stays installed waiting) c t in
    let y = w.0 in
    let both = and_parts (installed y) (not (waiting y)) w.2 in
    let idle : waiting y ≡ false = not-true (waiting y) both.1 in
    let left : gone y ≡ false = false_from_ne_true (gone y) (λ g. both_ways (waiting y) idle (from y g)) in (
      y,
      w.1,
      and_from (but installed gone y) (not (but waiting gone y))
          (and_from (installed y) (not (gone y)) both.0 (not_from_false (gone y) left))
          (not_from_false (but waiting gone y) (and_left (waiting y) (not (gone y)) idle)),
    ))
    (λ f.
    let wants : is_wanting installed waiting c ≡ true = and_from (installed c.owner) (not (list_any (stays installed waiting) c.meeters)) user'.0 (not_from_false (list_any (stays installed waiting) c.meeters) f) in
    let r : Contains list (reliance c.owner x) = rel.all c inc wants x meets here'.0 in
    let w = met r.0 (reliance c.owner x) r.1 (ap (λ (d : Clause). d.owner) r.2) in
    let one : Contains (c.owner ∷ []) w.0 = subst (λ (d : Clause). Contains d.meeters w.0) r.2 w.1 in
    let same : c.owner ≡ w.0 = ⊎_elim (λ (n : Contains [] w.0). absurd (omega (arith, n.1))) (λ e. e) (Contains-push_cases [] c.owner w.0 one) in
    absurd (⊎_elim
    (λ (g : gone w.0 ≡ true). both_ways (gone c.owner) (not-true (gone c.owner) user'.1) (ap gone same ∙ g))
    (λ (s : S w.0 ≡ true). false≢true (sym out ∙ ap S same ∙ s))
    (or_cases (gone w.0) (S w.0) w.2)))
    (cases_Bool (list_any (stays installed waiting) c.meeters))

supplied_after : (clauses list : List Clause) (installed waiting gone : ℕ → Bool) → AreReliances clauses installed waiting list → (S : ℕ → Bool) (x : ℕ) → gone x ≡ false → MayGo clauses (but installed gone) (but waiting gone) S x → IsSupplied list (or_in gone S) x
supplied_after clauses list installed waiting gone rel S x here go k d lt mine =
    let r = get_or list k d in
    let u = rel.no_more r (Contains-get_or list k d lt) in
    let c = u.0 in
    let v = u.3 in
    let x_is : v.0 ≡ x = ap (λ (e : Clause). e.owner) v.3 ∙ mine in
    let wants = and_parts (installed c.owner) (not (list_any (stays installed waiting) c.meeters)) u.2 in
    let one : Contains r.meeters c.owner = subst (λ (e : Clause). Contains e.meeters c.owner) v.3 (Contains-push [] c.owner) in
    ⊎_elim
    (λ (t : or_in gone S c.owner ≡ true). (c.owner, one, t))
    (λ (f : or_in gone S c.owner ≡ false).
    let outside = or_parts (gone c.owner) (S c.owner) f in
    let met = go (and_from (installed x) (not (gone x)) (subst (λ (n : ℕ). installed n ≡ true) x_is v.2) (not_from_false (gone x) here)) c u.1
    (and_from (installed c.owner) (not (gone c.owner)) wants.0 (not_from_false (gone c.owner) outside.0)) outside.1 (subst (λ (n : ℕ). Contains c.meeters n) x_is v.1) in
    let y = met.0 in
    let both = and_parts (but installed gone y) (not (but waiting gone y)) met.2 in
    let there = and_parts (installed y) (not (gone y)) both.0 in
    let idle : waiting y ≡ false = ⊎_elim (λ a. a) (λ (b : not (gone y) ≡ false). absurd (both_ways (not (gone y)) b there.1)) (and_cases (waiting y) (not (gone y)) (not-true (but waiting gone y) both.1)) in
    let still : IsMet c (stays installed waiting) = (y, met.1, and_from (installed y) (not (waiting y)) there.0 (not_from_false (waiting y) idle)) in
    absurd (both_ways (list_any (stays installed waiting) c.meeters) (not-true (list_any (stays installed waiting) c.meeters) wants.1) (any_from_met (stays installed waiting) c still)))
    (cases_Bool (or_in gone S c.owner))

pub removable_after : (clauses list : List Clause) (installed waiting gone : ℕ → Bool) → AreReliances clauses installed waiting list → Within gone waiting → (x : ℕ) → IsConfigurable list gone (but waiting gone) x ↔ IsRemovable clauses (but installed gone) (but waiting gone) x
removable_after clauses list installed waiting gone rel from x = (
  λ w. (w.0, (w.1.0, λ y here. may_go_after clauses list installed waiting gone rel from w.0 y (w.1.1 y here)), w.2),
  λ w. (w.0, (w.1.0, λ y here. supplied_after clauses list installed waiting gone rel w.0 y (not-true (gone y) (and_parts (waiting y) (not (gone y)) (w.1.0 y here)).1) (w.1.1 y here)), w.2),
)

kept_true : (b : Bool) → (b && true) ≡ b
kept_true true = refl
kept_true false = refl

-- what waits and is installed now, in terms of who goes only with whom
pub leaving_now_law : (clauses : List Clause) (installed : List Bool) (kept : Queue) → IsLeavingNow clauses installed kept → (x : ℕ) → IsConfigurable kept.clauses (has kept.installed) (has kept.waiting) x ↔ IsRemovable clauses (has installed) (has kept.waiting) x
leaving_now_law clauses installed kept h x =
    let now' : has installed ≡ but h.at_first (has kept.installed) = λ i q. h.now_is q i in
    let left' : has kept.waiting ≡ but h.waited (has kept.installed) = λ i q. h.leaving.left_is q i in
    subst (λ (w : ℕ → Bool). IsConfigurable kept.clauses (has kept.installed) (has kept.waiting) x ↔ IsRemovable clauses w (has kept.waiting) x) (sym now')
    (subst (λ (w : ℕ → Bool). IsConfigurable kept.clauses (has kept.installed) w x ↔ IsRemovable clauses (but h.at_first (has kept.installed)) w x) (sym left')
    (removable_after clauses kept.clauses h.at_first h.waited (has kept.installed) h.leaving.reliances h.leaving.from x))

pub leaving_now_is : (clauses : List Clause) (installed : List Bool) (kept : Queue) (members : ℕ → Bool) → IsLeavingNow clauses installed kept → ((x : ℕ) → IsTrue (members x) ↔ IsConfigurable kept.clauses (has kept.installed) (has kept.waiting) x) → (x : ℕ) → IsTrue (members x) ↔ IsRemovable clauses (has installed) (has kept.waiting) x
leaving_now_is clauses installed kept members h are x =
    let law = leaving_now_law clauses installed kept h x in
    (λ t. law.0 ((are x).0 t), λ r. (are x).1 (law.1 r))

none_has : (none' : List Bool) (n : ℕ) → none' ≡ replicate n false → (x : ℕ) → has none' x ≡ false
none_has none' n e x = ap (λ (l : List Bool). has l x) e ∙ ⊎_elim (λ lt. get_or-replicate n x false false lt) (λ le. get_or_past (replicate n false) x false (subst (λ (m : ℕ). m ≤ x) (sym (length-replicate n false)) le)) (cases_lt x n)

leaving_first : (clauses list : List Clause) (installed : ℕ → Bool) (none' : List Bool) (n : ℕ) (left : List Bool) (left' : List Bool) → AreReliances clauses installed (has left') list → none' ≡ replicate n false → left ≡ left' → IsLeaving clauses installed (has left') list (has none') (has left)
leaving_first clauses list installed none' n left left' rel e same =
    let empty = none_has none' n e in
    record {
      reliances = rel;
      from = λ x t. absurd (false≢true (sym (empty x) ∙ t));
      left_is = λ x. ap (λ (l : List Bool). has l x) same ∙ sym (ap (λ (b : Bool). has left' x && not b) (empty x) ∙ kept_true (has left' x));
    }

leaving_removed : (clauses list : List Clause) (installed waiting : ℕ → Bool) (gone left gone' left' : List Bool) (p : ℕ) → p < length gone → IsTrue (has left p) → gone' ≡ set gone p true → left' ≡ set left p false → IsLeaving clauses installed waiting list (has gone) (has left) → IsLeaving clauses installed waiting list (has gone') (has left')
leaving_removed clauses list installed waiting gone left gone' left' p room here eg el h =
    let there : (x : ℕ) → has gone' x ≡ has (set gone p true) x = λ x. ap (λ (l : List Bool). has l x) eg in
    let still : (x : ℕ) → has left' x ≡ has (set left p false) x = λ x. ap (λ (l : List Bool). has l x) el in
    record {
      reliances = h.reliances;
      from = λ x t. ⊎_elim
          (λ (e : x ≡ p). subst (λ (n : ℕ). IsTrue (waiting n)) (sym e) (and_parts (waiting p) (not (has gone p)) (sym (h.left_is p) ∙ here)).0)
          (λ ne. h.from x (sym (there x ∙ get_or-set_other gone p x true false ne) ∙ t))
          (cases_eq x p);
      left_is = λ x. ⊎_elim
          (λ (e : x ≡ p). still x ∙ ap (λ (n : ℕ). has (set left p false) n) e ∙ set_at left p
          ∙ sym (ap (λ (b : Bool). waiting x && not b) (there x ∙ ap (λ (n : ℕ). has (set gone p true) n) e ∙ get_or-set_same gone p true false room) ∙ and_right (waiting x) false refl))
          (λ ne. still x ∙ get_or-set_other left p x false false ne ∙ h.left_is x
          ∙ sym (ap (λ (b : Bool). waiting x && not b) (there x ∙ get_or-set_other gone p x true false ne)))
          (cases_eq x p);
    }

pub leaving_now_first : (clauses list : List Clause) (installed waiting none' : List Bool) (n : ℕ) (kept : Queue) → AreReliances clauses (has installed) (has waiting) list → none' ≡ replicate n false → n ≡ length installed → kept ≡ record { clauses = list; installed = none'; waiting = waiting } → IsLeavingNow clauses installed kept
leaving_now_first clauses list installed waiting none' n kept rel e same ek =
    let made : IsLeavingNow clauses installed (record { clauses = list; installed = none'; waiting = waiting }) = record {
      at_first = has installed;
      waited = has waiting;
      leaving = leaving_first clauses list (has installed) none' n waiting waiting rel e refl;
      now_is = λ x. sym (ap (λ (b : Bool). has installed x && not b) (none_has none' n e x) ∙ kept_true (has installed x));
      room = ap length e ∙ length-replicate n false ∙ same;
    } in
    subst (IsLeavingNow clauses installed) (sym ek) made

pub leaving_now_removed : (clauses : List Clause) (installed installed' : List Bool) (kept kept' : Queue) (p : ℕ) → p < length kept.installed → IsTrue (has kept.waiting p) → installed' ≡ set installed p false → kept' ≡ has_configured p kept → IsLeavingNow clauses installed kept → IsLeavingNow clauses installed' kept'
leaving_now_removed clauses installed installed' kept kept' p room here ei ek h =
    let gone = kept.installed in
    let made : IsLeavingNow clauses (set installed p false) (has_configured p kept) = record {
      at_first = h.at_first;
      waited = h.waited;
      leaving = leaving_removed clauses kept.clauses h.at_first h.waited gone kept.waiting (set gone p true) (set kept.waiting p false) p room here refl refl h.leaving;
      now_is = λ x. ⊎_elim
          (λ (e : x ≡ p). ap (λ (n : ℕ). has (set installed p false) n) e ∙ set_at installed p
          ∙ sym (ap (λ (b : Bool). h.at_first x && not b) (ap (λ (n : ℕ). has (set gone p true) n) e ∙ get_or-set_same gone p true false room) ∙ and_right (h.at_first x) false refl))
          (λ ne. get_or-set_other installed p x false false ne ∙ h.now_is x
          ∙ sym (ap (λ (b : Bool). h.at_first x && not b) (get_or-set_other gone p x true false ne)))
          (cases_eq x p);
      room = length-set gone p true ∙ h.room ∙ sym (length-set installed p false);
    } in
    subst (λ (l : List Bool). IsLeavingNow clauses l kept') (sym ei) (subst (IsLeavingNow clauses (set installed p false)) (sym ek) made)
