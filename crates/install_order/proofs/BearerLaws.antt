-- The index of the names that trees bear, and what it finds.
use Rattle.std.proofs.Common.{◌≡◌, ℕ, ◌<◌, ◌≤◌, ◌+◌, Bool, true, false, cond, ◌||◌, ◌&&◌, List, Option, Some, None, [], ◌∷◌, ◌++◌, length, get_or, set, take, subst, sym, refl, ap, ◌∙◌, inr, ⊎_elim, arith}
use Rattle.std.specs.Prelude.{IsTrue, ◌↔◌}
use Rattle.std.specs.List.{Contains, list_any}
use Rattle.std.specs.Str.{bytes_eq}
use Rattle.std.proofs.lemmas.Bool.{cases_lt, cases_Bool, false≢true, or_cases, or_left, or_right, and_parts, cond-true, cond-false}
use Rattle.std.proofs.lemmas.List.{get_or_past, get_or_read, get_or-take, length-take-le, length-set}
use Rattle.std.proofs.lemmas.List.Elements.{Contains-append_left, Contains-push, Contains-push_cases}
use Rattle.std.proofs.lemmas.List.Folds.{list_any_more, list_any_at, Any-from_list_any}
use Rattle.std.proofs.lemmas.Slice.Eq.{bytes_eq-Decides}
use Rattle.dependency_sets.specs.Sets.{row_at}
use Rattle.dependency_sets.proofs.RemovalLaws.{in_more}
use Rattle.install_order.specs.Bearers.{bears, admits_as, admits_at, HasPushed, IsIndex}
use Rattle.install_order.specs.Clauses.{meets_as, meets_at}
use Rattle.package_tree.specs.declared.control_file.ControlFile.{ControlFile}
use Rattle.relation_fields.specs.Admission.{admits, admits_entry, is_met, is_met_by_provided}
use Rattle.relation_fields.specs.Architectures.{is_to, is_to_entry}
use Rattle.relation_fields.specs.declared.alternative.Alternative.{Alternative}
use Rattle.relation_fields.specs.declared.provides.Provided.{Provided}
use Rattle.relation_index.specs.Bearing.{IsEntered, Grows}
use Rattle.relation_index.proofs.MovingLaws.{rows_grow, set_kept, set_entered}

alike : (a b : List ℕ) → bytes_eq a b ≡ true → a ≡ b
alike a b = (bytes_eq-Decides a b).0

-- a number behind those of a row

pub row_grows : (slots : List ℕ → Option ℕ) (rows rows' : List (List ℕ)) (s x : ℕ) → s < length rows → rows' ≡ set rows s (row_at rows s ++ x ∷ []) → Grows slots rows slots rows'
row_grows slots rows rows' s x lt e = rows_grow slots rows rows' (ap length e ∙ length-set rows s (row_at rows s ++ x ∷ []))
    (set_kept rows rows' s (row_at rows s ++ x ∷ []) lt e (λ y c. Contains-append_left (row_at rows s) (x ∷ []) y c))

pub row_has : (rows rows' : List (List ℕ)) (s x : ℕ) → s < length rows → rows' ≡ set rows s (row_at rows s ++ x ∷ []) → Contains (row_at rows' s) x
row_has rows rows' s x lt e = set_entered rows rows' s (row_at rows s ++ x ∷ []) x lt e (Contains-push (row_at rows s) x)

-- a name that a tree bears is its own or one of those provided
pub bearing_entered : (slots slots' : List ℕ → Option ℕ) (rows rows' : List (List ℕ)) (tree : ControlFile) (own : List ℕ) (entries : List Provided) (x : ℕ) → own ≡ tree.name → entries ≡ tree.relations.provides → IsEntered slots rows own x → Grows slots rows slots' rows' → ((e : Provided) → Contains entries e → IsEntered slots' rows' e.name x) → (name : List ℕ) → IsTrue (bears name (Some tree)) → IsEntered slots' rows' name x
bearing_entered slots slots' rows rows' tree own entries x eo ee first g rest name t = ⊎_elim
    (λ (a : bytes_eq name tree.name ≡ true). subst (λ (n : List ℕ). IsEntered slots' rows' n x) (eo ∙ sym (alike name tree.name a)) (g.kept own x first))
    (λ (a : list_any (λ e. bytes_eq name e.name) tree.relations.provides ≡ true).
    let w = Any-from_list_any (λ e. bytes_eq name e.name) tree.relations.provides a in
    subst (λ (n : List ℕ). IsEntered slots' rows' n x) (sym (alike name w.1.name w.4)) (rest w.1 (subst (λ (l : List Provided). Contains l w.1) (sym ee) (w.0, w.2, w.3))))
    (or_cases (bytes_eq name tree.name) (list_any (λ e. bytes_eq name e.name) tree.relations.provides) t)

pub index_more : (trees : List (Option ControlFile)) (slots slots' : List ℕ → Option ℕ) (rows rows' : List (List ℕ)) (i : ℕ) (o : Option ControlFile) → i < length trees → o ≡ get_or trees i o → IsIndex (take i trees) slots rows → Grows slots rows slots' rows' → ((name : List ℕ) → IsTrue (bears name o) → IsEntered slots' rows' name i) → IsIndex (take (i + 1) trees) slots' rows'
index_more trees slots slots' rows rows' i o lt at h g here = record {
  within = g.within h.within;
  entered = λ x name l t.
      let t' : IsTrue (bears name (get_or trees x None)) = subst (λ (p : Option ControlFile). IsTrue (bears name p)) (get_or-take (i + 1) trees x None (omega (arith, l, length-take-le (i + 1) trees (omega arith)))) t in
      ⊎_elim
      (λ (l' : x < i). g.kept name x (h.entered x name (subst (λ (n : ℕ). x < n) (sym (length-take-le i trees (omega arith))) l')
      (subst (λ (p : Option ControlFile). IsTrue (bears name p)) (sym (get_or-take i trees x None l')) t')))
      (λ (l' : i ≤ x).
      let same : x ≡ i = omega (arith, l, length-take-le (i + 1) trees (omega arith)) in
      subst (λ (n : ℕ). IsEntered slots' rows' name n) (sym same) (here name (subst (λ (p : Option ControlFile). IsTrue (bears name p)) (ap (λ (n : ℕ). get_or trees n None) same ∙ sym (get_or_read trees i o lt at None)) t')))
      (cases_lt x i);
}

-- pushing

pub pushed_more : (test : ℕ → Bool) (numbers : List ℕ) (i n : ℕ) (old mid new : List ℕ) → i < length numbers → n ≡ get_or numbers i 0 → new ≡ cond (test n) (mid ++ n ∷ []) mid → HasPushed test (take i numbers) old mid → HasPushed test (take (i + 1) numbers) old new
pushed_more test numbers i n old mid new lt at e h = ⊎_elim
    (λ (yes : test n ≡ true). subst (HasPushed test (take (i + 1) numbers) old) (sym (e ∙ cond-true (test n) (mid ++ n ∷ []) mid yes)) (record {
      kept = λ x c. Contains-append_left mid (n ∷ []) x (h.kept x c);
      pushed = λ x c t. ⊎_elim
          (λ c. Contains-append_left mid (n ∷ []) x (h.pushed x c t))
          (λ (same : get_or numbers i 0 ≡ x). subst (Contains (mid ++ n ∷ [])) (at ∙ same) (Contains-push mid n))
          (in_more numbers i 0 x lt c);
      no_more = λ x c. ⊎_elim (λ c. h.no_more x c) (λ (same : n ≡ x). inr (subst (λ (m : ℕ). IsTrue (test m)) same yes)) (Contains-push_cases mid n x c);
    }))
    (λ (no : test n ≡ false). subst (HasPushed test (take (i + 1) numbers) old) (sym (e ∙ cond-false (test n) (mid ++ n ∷ []) mid no)) (record {
      kept = h.kept;
      pushed = λ x c t. ⊎_elim
          (λ c. h.pushed x c t)
          (λ (same : get_or numbers i 0 ≡ x). absurd (false≢true (sym no ∙ ap test (at ∙ same) ∙ t)))
          (in_more numbers i 0 x lt c);
      no_more = h.no_more;
    }))
    (cases_Bool (test n))

-- none past the end is admitted
pub admits_past : (trees : List (Option ControlFile)) (architectures : List (Option (List ℕ))) (a : Alternative) (x : ℕ) → length trees ≤ x → admits_at trees architectures a x ≡ false
admits_past trees architectures a x le = ap (λ (o : Option ControlFile). admits_as a o (get_or architectures x None)) (get_or_past trees x None le)

pub admits_read : (trees : List (Option ControlFile)) (architectures : List (Option (List ℕ))) (a : Alternative) (x : ℕ) (o : Option ControlFile) (of' : Option (List ℕ)) → x < length trees → length architectures ≡ length trees → o ≡ get_or trees x o → of' ≡ get_or architectures x of' → admits_as a o of' ≡ admits_at trees architectures a x
admits_read trees architectures a x o of' lt same eo ea =
    ap (λ (p : Option ControlFile). admits_as a p of') (get_or_read trees x o lt eo None) ∙ ap (admits_as a (get_or trees x None)) (get_or_read architectures x of' (omega (arith, same, lt)) ea None)

-- what is admitted bears the name
admitted_bears : (a : Alternative) (o : Option ControlFile) (of' : Option (List ℕ)) → admits_as a o of' ≡ true → IsTrue (bears a.name o)
admitted_bears a None of' t = absurd (false≢true t)
admitted_bears a (Some p) of' t =
    let own_meets : Bool = is_to a.architecture of' && is_met a.restriction p.version in
    ⊎_elim
    (λ (own : (bytes_eq a.name p.name && (is_to a.architecture of' && is_met a.restriction p.version)) ≡ true). or_left (bytes_eq a.name p.name) (list_any (λ e. bytes_eq a.name e.name) p.relations.provides) (and_parts (bytes_eq a.name p.name) own_meets own).0)
    (λ (other : list_any (admits_entry a of') p.relations.provides ≡ true).
    let w = Any-from_list_any (admits_entry a of') p.relations.provides other in
    let named : bytes_eq a.name w.1.name ≡ true = (and_parts (bytes_eq a.name w.1.name) (is_to_entry a.architecture w.1.architecture of' && is_met_by_provided a.restriction w.1.version) w.4).0 in
    or_right (bytes_eq a.name p.name) (list_any (λ e. bytes_eq a.name e.name) p.relations.provides)
    (list_any_at (λ e. bytes_eq a.name e.name) p.relations.provides w.0 w.1 w.2 (subst (λ (e : Provided). bytes_eq a.name e.name ≡ true) (sym w.3) named)))
    (or_cases (bytes_eq a.name p.name && (is_to a.architecture of' && is_met a.restriction p.version)) (list_any (admits_entry a of') p.relations.provides) t)

-- a clause, as far as its alternatives have been looked at

as_more : (clause : List Alternative) (i : ℕ) (a : Alternative) (o : Option ControlFile) (of' : Option (List ℕ)) → i < length clause → a ≡ get_or clause i a → meets_as (take (i + 1) clause) o of' ≡ (meets_as (take i clause) o of' || admits_as a o of')
as_more clause i a None of' lt at = refl
as_more clause i a (Some p) of' lt at =
    list_any_more (λ b. admits b p.name of' p.version p.relations.provides) clause i a lt
    ∙ ap (λ (b : Alternative). meets_as (take i clause) (Some p) of' || admits b p.name of' p.version p.relations.provides) (sym at)

abbrev pub AreFound : List (Option ControlFile) → List (Option (List ℕ)) → List Alternative → List ℕ → Type 0
AreFound trees architectures clause list = (x : ℕ) → Contains list x ↔ IsTrue (meets_at trees architectures clause x)

pub found_more : (trees : List (Option ControlFile)) (architectures : List (Option (List ℕ))) (slots : List ℕ → Option ℕ) (rows : List (List ℕ)) (clause : List Alternative) (i : ℕ) (a : Alternative) (name : List ℕ) (row old new : List ℕ) (slice : List (Option (List ℕ))) → slice ≡ architectures → i < length clause → a ≡ get_or clause i a → name ≡ a.name → IsIndex trees slots rows → ((s : ℕ) → slots name ≡ Some s → row ≡ row_at rows s) → HasPushed (admits_at trees slice a) row old new → AreFound trees architectures (take i clause) old → AreFound trees architectures (take (i + 1) clause) new
found_more trees architectures slots rows clause i a name row old new slice es lt at is index row_is pushed' h x =
    let pushed = subst (λ (l : List (Option (List ℕ))). HasPushed (admits_at trees l a) row old new) es pushed' in
    let o = get_or trees x None in
    let of' = get_or architectures x None in
    let more = as_more clause i a o of' lt at in (
      λ c. ⊎_elim
          (λ c. more ∙ or_left (meets_as (take i clause) o of') (admits_as a o of') ((h x).0 c))
          (λ t. more ∙ or_right (meets_as (take i clause) o of') (admits_as a o of') t)
          (pushed.no_more x c),
      λ w. ⊎_elim
          (λ t. pushed.kept x ((h x).1 t))
          (λ (t : admits_as a o of' ≡ true). ⊎_elim
          (λ (within : x < length trees).
          let e = index.entered x a.name within (admitted_bears a o of' t) in
          let r : row ≡ row_at rows e.0 = row_is e.0 (ap slots is ∙ e.1) in
          pushed.pushed x (subst (λ (l : List ℕ). Contains l x) (sym r) e.2) t)
          (λ past. absurd (false≢true (sym (admits_past trees architectures a x past) ∙ t)))
          (cases_lt x (length trees)))
          (or_cases (meets_as (take i clause) o of') (admits_as a o of') (sym more ∙ w)),
    )
