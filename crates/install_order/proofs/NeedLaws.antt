-- The needs of trees as clauses over their numbers.
use Rattle.std.proofs.Common.{◌≡◌, ℕ, ◌+◌, ◌<◌, ◌≤◌, Bool, false, List, [], ◌∷◌, ◌++◌, Option, Some, None, length, get_or, map, take, subst, sym, refl, ap, ◌∙◌, inl, inr, ⊎_elim, arith}
use Rattle.std.specs.Prelude.{IsTrue, ◌↔◌, ◌==◌}
use Rattle.std.specs.List.{Contains, list_any}
use Rattle.std.proofs.lemmas.Bool.{cases_lt, false≢true, and_parts, and_from, both_ways, eqb-false}
use Rattle.std.proofs.lemmas.List.{get_or_default, get_or_past, get_or-map}
use Rattle.std.proofs.lemmas.List.Elements.{All-contains, Contains-append_left, Contains-push, Contains-push_cases, Contains-get_or}
use Rattle.dependency_check.proofs.MeetingLaws.{those_is, those_from, one_of, any_of}
use Rattle.dependency_check.proofs.UnpackLaws.{beforehand_is}
use Rattle.dependency_sets.proofs.RemovalLaws.{in_more, more_in, last_in}
use Rattle.dependency_sets.specs.Sets.{IsMet, IsSupplied}
use Rattle.dependency_sets.specs.declared.clause.Clause.{Clause}
use Rattle.install_order.specs.Clauses.{architecture_in, meets_as, meets_at, stated_by, stated_for, is_enough, IsMetAlready, NeedsFor, IsClauseOf, HasTaken, HasStated, AreNeeds}
use Rattle.install_order.specs.Needs.{Meets, IsMetBySome, IsLeftTo}
use Rattle.install_order.specs.declared.stage.Stage.{Stage}
use Rattle.install_order.specs.declared.stage.Stage.TheVariants.{Unpack, Configure}
use Rattle.package_tree.specs.declared.control_file.ControlFile.{ControlFile}
use Rattle.recorded_packages.specs.Packages.{first_architecture}
use Rattle.relation_fields.specs.declared.alternative.Alternative.{Alternative}
use Rattle.relation_index.specs.Packages.{AreMeeters, is_installed, meets, those}
use Rattle.relation_index.specs.declared.package.Package.{Package}

-- which trees meet a clause

meets_from : (recorded : List Package) (trees : List (Option ControlFile)) (clause : List Alternative) (x : ℕ) (o : Option ControlFile) → x < length trees → get_or trees x None ≡ o → IsTrue (meets_as clause o (architecture_in (first_architecture recorded) o)) → Meets recorded trees clause x
meets_from recorded trees clause x None lt e t = absurd (false≢true t)
meets_from recorded trees clause x (Some tree) lt e t = (tree, (lt, e), t)

pub meets_at_is : (recorded : List Package) (trees : List (Option ControlFile)) (architectures : List (Option (List ℕ))) (clause : List Alternative) → architectures ≡ map (architecture_in (first_architecture recorded)) trees → (x : ℕ) → IsTrue (meets_at trees architectures clause x) ↔ Meets recorded trees clause x
meets_at_is recorded trees architectures clause e x =
    let at : x < length trees → get_or architectures x None ≡ architecture_in (first_architecture recorded) (get_or trees x None) = λ lt. ap (λ (l : List (Option (List ℕ))). get_or l x None) e ∙ get_or-map (architecture_in (first_architecture recorded)) trees x None None lt in (
      λ t. ⊎_elim
          (λ (lt : x < length trees). meets_from recorded trees clause x (get_or trees x None) lt refl (subst (λ (a : Option (List ℕ)). IsTrue (meets_as clause (get_or trees x None) a)) (at lt) t))
          (λ (past : length trees ≤ x). absurd (false≢true (subst (λ (o : Option ControlFile). IsTrue (meets_as clause o (get_or architectures x None))) (get_or_past trees x None past) t)))
          (cases_lt x (length trees)),
      λ w. subst (λ (a : Option (List ℕ)). IsTrue (meets_as clause (get_or trees x None) a)) (sym (at w.1.0)) (subst (λ (o : Option ControlFile). IsTrue (meets_as clause o (architecture_in (first_architecture recorded) o))) (sym w.1.1) w.2),
    )

-- whether recorded packages are enough

pub already_is : (stage : Stage) (recorded list : List Package) (clause : List Alternative) (numbers slice : List ℕ) (met : Bool) → AreMeeters recorded clause numbers → list ≡ recorded → slice ≡ numbers → met ≡ list_any (those (is_enough stage clause) list) slice → IsTrue met ↔ IsMetAlready stage recorded clause
already_is Unpack recorded list clause numbers slice met are el es e = beforehand_is recorded list clause numbers slice met are el es e
already_is Configure recorded list clause numbers slice met are el es e = (
  λ t.
      let w = one_of (those (is_enough Configure clause) list) slice (sym e ∙ t) in
      let v = those_is (is_enough Configure clause) recorded w.0 (subst (λ (l : List Package). IsTrue (those (is_enough Configure clause) l w.0)) el w.2) in
      let both = and_parts (meets clause v.0) (is_installed v.0) v.3 in
      (w.0, (v.0, v.1, v.2, both.0), those_from is_installed recorded w.0 v.0 v.1 v.2 both.1),
  λ w.
      let v = those_is is_installed recorded w.0 w.2 in
      let p = w.1.0 in
      let same : v.0 ≡ p = sym v.2 ∙ get_or_default recorded w.0 v.0 p v.1 ∙ w.1.2 in
      let here : IsTrue (is_installed p) = subst (λ (q : Package). IsTrue (is_installed q)) same v.3 in
      e ∙ any_of (those (is_enough Configure clause) list) slice w.0 (subst (λ (l : List ℕ). Contains l w.0) (sym es) ((are w.0).1 w.1))
      (subst (λ (l : List Package). IsTrue (those (is_enough Configure clause) l w.0)) (sym el) (those_from (is_enough Configure clause) recorded w.0 p w.1.1 w.1.2 (and_from (meets clause p) (is_installed p) w.1.3 here))),
)

-- one clause

abbrev pub IsLeft : Stage → List Package → List (Option ControlFile) → List Alternative → Type 0
IsLeft stage recorded trees clause = IsLeftTo recorded trees clause (IsMetAlready stage recorded clause)

pub taken_left : (stage : Stage) (recorded : List Package) (trees : List (Option ControlFile)) (architectures : List (Option (List ℕ))) (owner : ℕ) (clause : List Alternative) (list new : List Clause) (numbers slice : List ℕ) (met : Bool) → architectures ≡ map (architecture_in (first_architecture recorded)) trees → (IsTrue met ↔ IsMetAlready stage recorded clause) → met ≡ false → ((x : ℕ) → Contains numbers x ↔ IsTrue (meets_at trees architectures clause x)) → slice ≡ numbers → 0 < length slice → new ≡ list ++ record { owner = owner; meeters = numbers } ∷ [] → HasTaken stage recorded trees owner clause list new
taken_left stage recorded trees architectures owner clause list new numbers slice met e is' f are es some en =
    let all : (y : ℕ) → Contains numbers y ↔ Meets recorded trees clause y = λ y. (λ c. (meets_at_is recorded trees architectures clause e y).0 ((are y).0 c), λ m. (are y).1 ((meets_at_is recorded trees architectures clause e y).1 m)) in
    let c = subst (λ (l : List ℕ). Contains l (get_or slice 0 0)) es (Contains-get_or slice 0 0 some) in
    inr (record { owner = owner; meeters = numbers }, en, ((get_or slice 0 0, (all (get_or slice 0 0)).0 c), λ m. both_ways met f (is'.1 m)), (refl, all))

-- the clauses of a tree

pub some_in : (numbers : List ℕ) (empty : Bool) → empty ≡ (length numbers == 0) → empty ≡ false → 0 < length numbers
some_in numbers empty e f = let other = eqb-false (length numbers) 0 (sym e ∙ f) in omega (arith, other)

nothing_in : {X : Type 0} (x : X) → Contains {X = X} [] x → ⊥
nothing_in {X} x c = omega (arith, c.1)

stated_same : (stage : Stage) (recorded : List Package) (trees : List (Option ControlFile)) (owner : ℕ) (stated : List (List Alternative)) (i : ℕ) (one : List Alternative) (old mid : List Clause) → i < length stated → one ≡ get_or stated i one → (IsLeft stage recorded trees one → ⊥) → HasStated stage recorded trees owner (take i stated) old mid → HasStated stage recorded trees owner (take (i + 1) stated) old mid
stated_same stage recorded trees owner stated i one old mid lt at not' h = record {
  kept = h.kept;
  added = λ clause k left. ⊎_elim
      (λ before. h.added clause before left)
      (λ (same : get_or stated i one ≡ clause). absurd (not' (subst (IsLeft stage recorded trees) (sym (at ∙ same)) left)))
      (in_more stated i one clause lt k);
  no_more = λ c k. ⊎_elim (λ o. inl o) (λ w. inr (w.0, more_in stated i one w.0 lt w.1, w.2, w.3)) (h.no_more c k);
}

stated_with : (stage : Stage) (recorded : List Package) (trees : List (Option ControlFile)) (owner : ℕ) (stated : List (List Alternative)) (i : ℕ) (one : List Alternative) (c : Clause) (old mid : List Clause) → i < length stated → one ≡ get_or stated i one → IsLeft stage recorded trees one → IsClauseOf recorded trees owner one c → HasStated stage recorded trees owner (take i stated) old mid → HasStated stage recorded trees owner (take (i + 1) stated) old (mid ++ c ∷ [])
stated_with stage recorded trees owner stated i one c old mid lt at left own h = record {
  kept = λ d k. Contains-append_left mid (c ∷ []) d (h.kept d k);
  added = λ clause k l. ⊎_elim
      (λ before. let w = h.added clause before l in (w.0, Contains-append_left mid (c ∷ []) w.0 w.1, w.2))
      (λ (same : get_or stated i one ≡ clause). (c, Contains-push mid c, subst (λ (a : List Alternative). IsClauseOf recorded trees owner a c) (at ∙ same) own))
      (in_more stated i one clause lt k);
  no_more = λ d k. ⊎_elim
      (λ before. ⊎_elim (λ o. inl o) (λ w. inr (w.0, more_in stated i one w.0 lt w.1, w.2, w.3)) (h.no_more d before))
      (λ (same : c ≡ d). inr (one, subst (Contains (take (i + 1) stated)) (sym at) (last_in stated i one lt), left, subst (IsClauseOf recorded trees owner one) same own))
      (Contains-push_cases mid c d k);
}

pub stated_more : (stage : Stage) (recorded : List Package) (trees : List (Option ControlFile)) (owner : ℕ) (stated : List (List Alternative)) (i : ℕ) (one : List Alternative) (old mid new : List Clause) → i < length stated → one ≡ get_or stated i one → HasTaken stage recorded trees owner one mid new → HasStated stage recorded trees owner (take i stated) old mid → HasStated stage recorded trees owner (take (i + 1) stated) old new
stated_more stage recorded trees owner stated i one old mid new lt at (inl t) h = subst (HasStated stage recorded trees owner (take (i + 1) stated) old) (sym t.0) (stated_same stage recorded trees owner stated i one old mid lt at t.1 h)
stated_more stage recorded trees owner stated i one old mid new lt at (inr t) h = subst (HasStated stage recorded trees owner (take (i + 1) stated) old) (sym t.1) (stated_with stage recorded trees owner stated i one t.0 old mid lt at t.2 t.3 h)

-- those of the trees below a number

pub record AreNeedsBelow (n : ℕ) (stage : Stage) (recorded : List Package) (trees : List (Option ControlFile)) (list : List Clause) : Type 0 where
  pub stated : (c : Clause) → Contains list c → (clause : List Alternative) × NeedsFor stage recorded trees c.owner clause × IsClauseOf recorded trees c.owner clause c
  pub all : (x : ℕ) (clause : List Alternative) → x < n → NeedsFor stage recorded trees x clause → (c : Clause) × Contains list c × IsClauseOf recorded trees x clause c

stated_in : (stage : Stage) (o : Option ControlFile) (clause : List Alternative) → Contains (stated_by stage o) clause → (tree : ControlFile) × (o ≡ Some tree) × Contains (stated_for stage tree) clause
stated_in stage None clause c = absurd (nothing_in clause c)
stated_in stage (Some tree) clause c = (tree, refl, c)

pub needs_more : (n : ℕ) (stage : Stage) (recorded : List Package) (trees : List (Option ControlFile)) (o : Option ControlFile) (mid new : List Clause) → n < length trees → o ≡ get_or trees n o → HasStated stage recorded trees n (stated_by stage o) mid new → AreNeedsBelow n stage recorded trees mid → AreNeedsBelow (n + 1) stage recorded trees new
needs_more n stage recorded trees o mid new lt at k h = record {
  stated = λ c w. ⊎_elim
      (λ old. h.stated c old)
      (λ v.
      let s = stated_in stage o v.0 v.1 in
      (v.0, subst (λ (x : ℕ). NeedsFor stage recorded trees x v.0) (sym v.3.0) (s.0, (lt, get_or_default trees n None o lt ∙ sym at ∙ s.1), s.2, v.2), (refl, v.3.1)))
      (k.no_more c w);
  all = λ x clause l s. ⊎_elim
      (λ (below : x < n). let w = h.all x clause below s in (w.0, k.kept w.0 w.1, w.2))
      (λ (past : n ≤ x).
      let same : x ≡ n = omega arith in
      let one : o ≡ Some s.0 = at ∙ get_or_default trees n o None lt ∙ ap (λ (m : ℕ). get_or trees m None) (sym same) ∙ s.1.1 in
      let w = k.added clause (subst (λ (q : Option ControlFile). Contains (stated_by stage q) clause) (sym one) s.2) s.3 in
      (w.0, w.1, subst (λ (m : ℕ). IsClauseOf recorded trees m clause w.0) (sym same) w.2))
      (cases_lt x n);
}

-- a tree's clauses are met where its needs are
pub needs_are : (stage : Stage) (recorded : List Package) (trees : List (Option ControlFile)) (list : List Clause) → AreNeeds stage recorded trees list → (S : ℕ → Bool) (x : ℕ) → IsSupplied list S x ↔ ((clause : List Alternative) → NeedsFor stage recorded trees x clause → IsMetBySome recorded trees clause S)
needs_are stage recorded trees list are S x = (
  λ s clause need.
      let w = are.all x clause need in
      let met = All-contains (λ (c : Clause). c.owner ≡ x → IsMet c S) list w.0 s w.1 w.2.0 in
      (met.0, (w.2.1 met.0).0 met.1, met.2),
  λ h k d lt own.
      let c = get_or list k d in
      let w = are.stated c (Contains-get_or list k d lt) in
      let met = h w.0 (subst (λ (n : ℕ). NeedsFor stage recorded trees n w.0) own w.1) in
      (met.0, (w.2.1 met.0).1 met.1, met.2),
)
