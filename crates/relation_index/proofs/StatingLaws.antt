-- The clauses that packages state, each with those that meet it.
use Rattle.std.proofs.Common.{◌≡◌, ℕ, ◌+◌, ◌<◌, ◌≤◌, List, [], ◌∷◌, ◌++◌, length, get_or, take, subst, sym, ap, ◌∙◌, inl, inr, ⊎_elim, arith}
use Rattle.std.specs.List.{Contains}
use Rattle.std.proofs.lemmas.Bool.{cases_lt}
use Rattle.std.proofs.lemmas.List.{get_or_default}
use Rattle.std.proofs.lemmas.List.Elements.{Contains-append_left, Contains-append_right, Contains-append_cases, Contains-push, Contains-push_cases}
use Rattle.dependency_sets.proofs.RemovalLaws.{in_more, more_in, last_in}
use Rattle.dependency_sets.specs.declared.clause.Clause.{Clause}
use Rattle.relation_fields.specs.declared.alternative.Alternative.{Alternative}
use Rattle.relation_index.specs.Bearing.{HasStated}
use Rattle.relation_index.specs.Packages.{AreMeeters, AreClauses, States, needs}
use Rattle.relation_index.specs.declared.package.Package.{Package}

nothing_in : {X : Type 0} (x : X) → Contains {X = X} [] x → ⊥
nothing_in {X} x c = omega (arith, c.1)

pub stated_none : (packages : List Package) (owner : ℕ) (list : List Clause) → HasStated packages owner [] list list
stated_none packages owner list = record {
  kept = λ c h. h;
  added = λ clause h. absurd (nothing_in clause h);
  no_more = λ c h. inl h;
}

pub stated_more : (packages : List Package) (owner : ℕ) (stated : List (List Alternative)) (i : ℕ) (one : List Alternative) (c : Clause) (old mid new : List Clause) → i < length stated → one ≡ get_or stated i one → new ≡ mid ++ c ∷ [] → c.owner ≡ owner → AreMeeters packages one c.meeters → HasStated packages owner (take i stated) old mid → HasStated packages owner (take (i + 1) stated) old new
stated_more packages owner stated i one c old mid new lt at e own met h =
    subst (HasStated packages owner (take (i + 1) stated) old) (sym e) (record {
      kept = λ d k. Contains-append_left mid (c ∷ []) d (h.kept d k);
      added = λ clause k. ⊎_elim
          (λ before. let w = h.added clause before in (w.0, Contains-append_left mid (c ∷ []) w.0 w.1, w.2, w.3))
          (λ (same : get_or stated i one ≡ clause). (c, Contains-push mid c, own, subst (λ (l : List Alternative). AreMeeters packages l c.meeters) (at ∙ same) met))
          (in_more stated i one clause lt k);
      no_more = λ d k. ⊎_elim
          (λ before. ⊎_elim (λ o. inl o) (λ w. inr (w.0, more_in stated i one w.0 lt w.1, w.2, w.3)) (h.no_more d before))
          (λ (same : c ≡ d). inr (one, subst (Contains (take (i + 1) stated)) (sym at) (last_in stated i one lt), subst (λ (q : Clause). q.owner ≡ owner) same own, subst (λ (q : Clause). AreMeeters packages one q.meeters) same met))
          (Contains-push_cases mid c d k);
    })

pub stated_both : (packages : List Package) (owner : ℕ) (a b : List (List Alternative)) (old mid new : List Clause) → HasStated packages owner a old mid → HasStated packages owner b mid new → HasStated packages owner (a ++ b) old new
stated_both packages owner a b old mid new h k = record {
  kept = λ c w. k.kept c (h.kept c w);
  added = λ clause w. ⊎_elim
      (λ l. let v = h.added clause l in (v.0, k.kept v.0 v.1, v.2, v.3))
      (λ r. k.added clause r)
      (Contains-append_cases a b clause w);
  no_more = λ c w. ⊎_elim
      (λ l. ⊎_elim (λ o. inl o) (λ v. inr (v.0, Contains-append_left a b v.0 v.1, v.2, v.3)) (h.no_more c l))
      (λ v. inr (v.0, Contains-append_right a b v.0 v.1, v.2, v.3))
      (k.no_more c w);
}

-- the clauses of the packages below a number
pub record AreClausesBelow (n : ℕ) (packages : List Package) (clauses : List Clause) : Type 0 where
  pub stated : (c : Clause) → Contains clauses c → (clause : List Alternative) × States packages c.owner clause × AreMeeters packages clause c.meeters
  pub all : (x : ℕ) (clause : List Alternative) → x < n → States packages x clause → (c : Clause) × Contains clauses c × (c.owner ≡ x) × AreMeeters packages clause c.meeters

pub below_none : (packages : List Package) (clauses : List Clause) → clauses ≡ [] → AreClausesBelow 0 packages clauses
below_none packages clauses e = subst (AreClausesBelow 0 packages) (sym e) (record {
  stated = λ c k. absurd (nothing_in c k);
  all = λ x clause lt s. absurd (omega (arith, lt));
})

pub below_more : (n : ℕ) (packages : List Package) (p : Package) (mid new : List Clause) → n < length packages → p ≡ get_or packages n p → AreClausesBelow n packages mid → HasStated packages n (needs p) mid new → AreClausesBelow (n + 1) packages new
below_more n packages p mid new lt at h k = record {
  stated = λ c w. ⊎_elim
      (λ old. h.stated c old)
      (λ v. (v.0, subst (λ (x : ℕ). States packages x v.0) (sym v.2) (p, lt, sym at, v.1), v.3))
      (k.no_more c w);
  all = λ x clause l s. ⊎_elim
      (λ (below : x < n). let w = h.all x clause below s in (w.0, k.kept w.0 w.1, w.2, w.3))
      (λ (past : n ≤ x).
      let same : x ≡ n = omega arith in
      let one : s.0 ≡ p = sym s.2 ∙ ap (λ (m : ℕ). get_or packages m s.0) same ∙ get_or_default packages n s.0 p lt ∙ sym at in
      let w = k.added clause (subst (λ (q : Package). Contains (needs q) clause) one s.3) in
      (w.0, w.1, w.2 ∙ sym same, w.3))
      (cases_lt x n);
}

pub below_all : (n : ℕ) (packages : List Package) (clauses : List Clause) → n ≡ length packages → AreClausesBelow n packages clauses → AreClauses packages clauses
below_all n packages clauses e h = record {
  stated = h.stated;
  all = λ x clause s. h.all x clause (omega (arith, s.1)) s;
}
