-- The index, where a package is put in or taken away.
use Rattle.std.proofs.Common.{◌≡◌, ℕ, zero, suc, ◌+◌, ◌-◌, ◌<◌, ◌≤◌, List, Option, [], ◌∷◌, ◌++◌, map, take, drop, length, get_or, subst, sym, refl, ap, ◌∙◌, ⊎_elim, arith}
use Rattle.std.specs.Prelude.{IsTrue}
use Rattle.std.specs.List.{Contains, insert, remove}
use Rattle.std.proofs.Math.ListN.{set}
use Rattle.std.proofs.lemmas.Bool.{cases_lt, cases_eq}
use Rattle.std.proofs.lemmas.Bool.Decides.{nat_tests}
use Rattle.std.proofs.lemmas.List.{length-map, length-set, get_or_default, get_or-set_same, get_or-set_other}
use Rattle.std.proofs.lemmas.List.Edits.{get_or-insert_at, get_or-insert_below, get_or-insert_above, get_or-remove_below, get_or-remove_above, length-insert, length-remove, map_over_more}
use Rattle.dependency_sets.specs.Sets.{row_at}
use Rattle.relation_index.specs.Bearing.{bears, IsEntered, Grows, IsIndex, AreIndexed}
use Rattle.relation_index.specs.Moves.{moved_up, moved_down, Moves}
use Rattle.name_tables.specs.Order.{IsPlaceOf, IsThere}
use Rattle.name_tables.proofs.Ordered.{dropped_order, put_order}
use Rattle.name_tables.proofs.Placed.{dropped_there, put_there, put_between}
use Rattle.relation_index.specs.Order.{name_of}
use Rattle.relation_index.specs.Packages.{AreInNameOrder, drop_package, put_package}
use Rattle.relation_index.specs.declared.package.Package.{Package}
use Rattle.relation_index.proofs.Ordered.{in_order, in_name_order}

-- numbers

stays_below : (at count x : ℕ) → x < at → moved_up at count x ≡ x
stays_below at count x lt = grind (arith, nat_tests)

moves_above : (at count x : ℕ) → at ≤ x → x < count → moved_up at count x ≡ x + 1
moves_above at count x le lt = grind (arith, nat_tests)

stays_before : (at x : ℕ) → x < at → moved_down at x ≡ x
stays_before at x lt = grind (arith, nat_tests)

moves_behind : (at x : ℕ) → at ≤ x → moved_down at (x + 1) ≡ x
moves_behind at x le = grind (arith, nat_tests)

-- rows

moved_at : (f : ℕ → ℕ) (xs : List ℕ) (k d e : ℕ) → k < length xs → get_or (map f xs) k e ≡ f (get_or xs k d)
moved_at f [] k d e lt = absurd (omega (arith, lt))
moved_at f (x ∷ xs) zero d e lt = refl
moved_at f (x ∷ xs) (suc k) d e lt = moved_at f xs k d e (omega (arith, lt))

moved_in : (f : ℕ → ℕ) (xs : List ℕ) (x : ℕ) → Contains xs x → Contains (map f xs) (f x)
moved_in f xs x c = (c.0, subst (λ (n : ℕ). c.0 < n) (sym (length-map xs f)) c.1, moved_at f xs c.0 x (f x) c.1 ∙ ap f c.2)

row_moved : (f : ℕ → ℕ) (rows : List (List ℕ)) (s : ℕ) → row_at (map (map f) rows) s ≡ map f (row_at rows s)
row_moved f [] s = refl
row_moved f (r ∷ rows) zero = refl
row_moved f (r ∷ rows) (suc s) = row_moved f rows s

pub all_moved : (f : ℕ → ℕ) (slots : List ℕ → Option ℕ) (rows rows' : List (List ℕ)) → rows' ≡ map (map f) rows → Moves f slots rows slots rows'
all_moved f slots rows rows' e = record {
  kept = λ name x w. (w.0, w.1, subst (λ (l : List (List ℕ)). Contains (row_at l w.0) (f x)) (sym e) (subst (λ (l : List ℕ). Contains l (f x)) (sym (row_moved f rows w.0)) (moved_in f (row_at rows w.0) x w.2)));
  within = λ h name s k. subst (λ (n : ℕ). s < n) (sym (ap length e ∙ length-map rows (map f))) (h name s k);
}

pub rows_grow : (slots : List ℕ → Option ℕ) (rows rows' : List (List ℕ)) → length rows' ≡ length rows → ((s x : ℕ) → Contains (row_at rows s) x → Contains (row_at rows' s) x) → Grows slots rows slots rows'
rows_grow slots rows rows' len kept = record {
  kept = λ name x w. (w.0, w.1, kept w.0 x w.2);
  within = λ h name s k. subst (λ (n : ℕ). s < n) (sym len) (h name s k);
}

pub row_read : (rows : List (List ℕ)) (at : ℕ) (row : List ℕ) → at < length rows → row ≡ get_or rows at row → row ≡ row_at rows at
row_read rows at row lt e = e ∙ get_or_default rows at row [] lt

-- a row that is longer, among the others
pub set_kept : (rows rows' : List (List ℕ)) (at : ℕ) (row : List ℕ) → at < length rows → rows' ≡ set rows at row → ((x : ℕ) → Contains (row_at rows at) x → Contains row x) → (s x : ℕ) → Contains (row_at rows s) x → Contains (row_at rows' s) x
set_kept rows rows' at row lt e kept s x c = subst (λ (l : List (List ℕ)). Contains (row_at l s) x) (sym e) (⊎_elim
    (λ (same : s ≡ at). subst (λ (n : ℕ). Contains (row_at (set rows at row) n) x) (sym same) (subst (λ (l : List ℕ). Contains l x) (sym (get_or-set_same rows at row [] lt)) (kept x (subst (λ (n : ℕ). Contains (row_at rows n) x) same c))))
    (λ ne. subst (λ (l : List ℕ). Contains l x) (sym (get_or-set_other rows at s row [] ne)) c)
    (cases_eq s at))

pub set_entered : (rows rows' : List (List ℕ)) (at : ℕ) (row : List ℕ) (x : ℕ) → at < length rows → rows' ≡ set rows at row → Contains row x → Contains (row_at rows' at) x
set_entered rows rows' at row x lt e c = subst (λ (l : List (List ℕ)). Contains (row_at l at) x) (sym e) (subst (λ (l : List ℕ). Contains l x) (sym (get_or-set_same rows at row [] lt)) c)

-- the packages, and what bears a name

abbrev Bears : (List ℕ → Option ℕ) → List (List ℕ) → Package → ℕ → Type 0
Bears slots rows p x = (name : List ℕ) → IsTrue (bears name p) → IsEntered slots rows name x

here_too : (slots : List ℕ → Option ℕ) (rows : List (List ℕ)) (p q : Package) (at x : ℕ) (name : List ℕ) → p ≡ q → x ≡ at → Bears slots rows p at → IsTrue (bears name q) → IsEntered slots rows name x
here_too slots rows p q at x name e same here t = subst (λ (n : ℕ). IsEntered slots rows name n) (sym same) (here name (subst (λ (r : Package). IsTrue (bears name r)) (sym e) t))

module _ (ps new : List Package) (slots slots' : List ℕ → Option ℕ) (rows rows' : List (List ℕ)) (at : ℕ) where
  index_replaced : (p : Package) → at < length ps → new ≡ set ps at p → IsIndex ps slots rows → Grows slots rows slots' rows' → Bears slots' rows' p at → IsIndex new slots' rows'
  index_replaced p within e i g here = subst (λ (l : List Package). IsIndex l slots' rows') (sym e) (record {
    within = g.within i.within;
    entered = λ x q name lt is t. ⊎_elim
        (λ (same : x ≡ at). here_too slots' rows' p q at x name (sym (get_or-set_same ps at p q within) ∙ ap (λ (n : ℕ). get_or (set ps at p) n q) (sym same) ∙ is) same here t)
        (λ ne. g.kept name x (i.entered x q name (subst (λ (n : ℕ). x < n) (length-set ps at p) lt) (sym (get_or-set_other ps at x p q ne) ∙ is) t))
        (cases_eq x at);
  })

  index_removed : at < length ps → new ≡ remove ps at → IsIndex ps slots rows → Moves (moved_down at) slots rows slots' rows' → IsIndex new slots' rows'
  index_removed within e i m = subst (λ (l : List Package). IsIndex l slots' rows') (sym e) (record {
    within = m.within i.within;
    entered = λ x q name lt is t.
        let len = length-remove ps at within in
        ⊎_elim
        (λ (below : x < at). subst (λ (n : ℕ). IsEntered slots' rows' name n) (stays_before at x below) (m.kept name x (i.entered x q name (omega (arith, below, within)) (sym (get_or-remove_below ps at q x below within) ∙ is) t)))
        (λ (le : at ≤ x). subst (λ (n : ℕ). IsEntered slots' rows' name n) (moves_behind at x le) (m.kept name (x + 1) (i.entered (x + 1) q name (omega (arith, lt, len)) (sym (get_or-remove_above ps at q x le within) ∙ is) t)))
        (cases_lt x at);
  })

  pub indexed_replaced : (p : Package) → new ≡ set ps at p → IsPlaceOf name_of ps p.name at → IsThere name_of ps p.name at → AreIndexed ps slots rows → Grows slots rows slots' rows' → Bears slots' rows' p at → AreIndexed new slots' rows'
  indexed_replaced p e place there i g here = record {
    ordered = let order = in_order ps i.ordered in subst AreInNameOrder (sym (e ∙ put_there name_of p ps at order place there.0 there.1)) (in_name_order (put_package p ps) (put_order name_of p ps order));
    index = index_replaced p there.0 e i.index g here;
  }

  pub indexed_removed : (name : List ℕ) → new ≡ remove ps at → IsPlaceOf name_of ps name at → IsThere name_of ps name at → AreIndexed ps slots rows → Moves (moved_down at) slots rows slots' rows' → AreIndexed new slots' rows'
  indexed_removed name e place there i m = record {
    ordered = let order = in_order ps i.ordered in subst AreInNameOrder (sym (e ∙ dropped_there name_of name ps at order place there.0 there.1)) (in_name_order (drop_package name ps) (dropped_order name_of name ps order));
    index = index_removed there.0 e i.index m;
  }

module _ (ps new : List Package) (slots slots' slots'' : List ℕ → Option ℕ) (rows rows' rows'' : List (List ℕ)) (at : ℕ) where
  index_inserted : (p : Package) → at ≤ length ps → new ≡ insert ps at p → IsIndex ps slots rows → Moves (moved_up at (length ps)) slots rows slots' rows' → Grows slots' rows' slots'' rows'' → Bears slots'' rows'' p at → IsIndex new slots'' rows''
  index_inserted p within e i m g here = subst (λ (l : List Package). IsIndex l slots'' rows'') (sym e) (record {
    within = g.within (m.within i.within);
    entered = λ x q name lt is t.
        let len = length-insert ps at p within in
        ⊎_elim
        (λ (below : x < at). subst (λ (n : ℕ). IsEntered slots'' rows'' name n) (stays_below at (length ps) x below) (g.kept name (moved_up at (length ps) x) (m.kept name x (i.entered x q name (omega (arith, below, within)) (sym (get_or-insert_below ps at p q x below within) ∙ is) t))))
        (λ (le : at ≤ x). ⊎_elim
        (λ (same : x ≡ at). here_too slots'' rows'' p q at x name (sym (get_or-insert_at ps at p q within) ∙ ap (λ (n : ℕ). get_or (insert ps at p) n q) (sym same) ∙ is) same here t)
        (λ ne.
        let behind : at ≤ x - 1 = omega (arith, le, ne) in
        let next : x ≡ x - 1 + 1 = omega (arith, le, ne) in
        let less : x - 1 < length ps = omega (arith, lt, len, le, ne) in
        subst (λ (n : ℕ). IsEntered slots'' rows'' name n) (moves_above at (length ps) (x - 1) behind less ∙ sym next)
        (g.kept name (moved_up at (length ps) (x - 1)) (m.kept name (x - 1) (i.entered (x - 1) q name less (sym (get_or-insert_above ps at p q (x - 1) behind within) ∙ ap (λ (n : ℕ). get_or (insert ps at p) n q) (sym next) ∙ is) t))))
        (cases_eq x at))
        (cases_lt x at);
  })

  pub indexed_inserted : (p : Package) → new ≡ insert ps at p → IsPlaceOf name_of ps p.name at → (IsThere name_of ps p.name at → ⊥) → AreIndexed ps slots rows → Moves (moved_up at (length ps)) slots rows slots' rows' → Grows slots' rows' slots'' rows'' → Bears slots'' rows'' p at → AreIndexed new slots'' rows''
  indexed_inserted p e place absent i m g here = record {
    ordered = let order = in_order ps i.ordered in subst AreInNameOrder (sym (e ∙ put_between name_of p ps at order place (λ lt named. absent (lt, named)))) (in_name_order (put_package p ps) (put_order name_of p ps order));
    index = index_inserted p place.within e i.index m g here;
  }

-- a loop that writes over each of a list
pub written_more : {X : Type 0} (f : X → X) (xs now ys : List X) (i : ℕ) (x y d : X) → now ≡ xs → i < length now → ys ≡ map f (take i xs) ++ drop i xs → length ys ≡ length now → x ≡ get_or ys i d → y ≡ f x → set ys i y ≡ map f (take (i + 1) xs) ++ drop (i + 1) xs
written_more f xs now ys i x y d same lt e len is made =
    ap (set ys i) made ∙ map_over_more f xs ys i x (subst (λ l. i < length l) same lt) e (is ∙ get_or_default ys i d x (omega (arith, lt, len)))
