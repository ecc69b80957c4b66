-- Those that are left over.
use Rattle.std.proofs.Common.{◌≡◌, ℕ, zero, suc, ◌<◌, Bool, List, [], ◌∷◌, ◌++◌, length, get_or, refl, sym, ap, subst, ◌∙◌, ⊎_elim, arith, append_assoc}
use Rattle.std.specs.Prelude.{IsTrue, nat_eq, ◌||◌}
use Rattle.std.specs.List.{Contains}
use Rattle.std.proofs.lemmas.Bool.{eq-eqb, eqb-true}
use Rattle.std.proofs.lemmas.List.{append-nil, get_or_default}
use Rattle.std.proofs.lemmas.List.Elements.{Contains-append_cases}
use Rattle.dependency_check.specs.Left.{AreAllMet, IsFirstUnmet}
use Rattle.dependency_check.specs.Queues.{HasItsNeeds, IsMetBy}
use Rattle.dependency_check.specs.Waiting.{Waiting, IsConfigurableNow}
use Rattle.dependency_check.specs.declared.left.UnmetClause.{UnmetClause}
use Rattle.dependency_check.specs.declared.left.UnmetClause.TheVariants as unmet
use Rattle.dependency_sets.specs.Choices.{IsListing}
use Rattle.dependency_sets.specs.Sets.{has, or_in}
use Rattle.relation_fields.specs.declared.alternative.Alternative.{Alternative}
use Rattle.relation_index.specs.Packages.{States, needs}
use Rattle.relation_index.specs.declared.package.Package.{Package}
use Rattle.unit_reports.specs.Units.{IsRefusedUnit}
use Rattle.unit_reports.specs.declared.refusal.Rule.TheVariants.{Depends}
use Rattle.unit_reports.specs.declared.report.Unit.{Unit as AUnit}
use Rattle.configure_run.specs.LeftOver.{AddLeftOver, AddSomeLeftOver, AddsLeftOver, AreLeftOver, HaveRefusedLeft, HaveRefusedSomeLeft, IsLeftOver, IsNumbered, IsWithin, clause_at}

-- of a list of things, what can't fail for one of them can't fail for all
not_one_fails : {X : Type 0} (P : X → Type 0) (cs : List X) → ((c : X) → Contains cs c → (P c → ⊥) → ⊥) → (((c : X) → Contains cs c → P c) → ⊥) → ⊥
not_one_fails {X = X} P [] each un = un (λ c inc. absurd (omega (arith, inc.1)))
not_one_fails {X = X} P (c ∷ cs) each un =
    each c (0, omega arith, refl) (λ here. not_one_fails P cs (λ d inc. each d (suc inc.0, omega (arith, inc.1), inc.2)) (λ rest. un (λ d inc. at here rest d inc.0 inc.1 inc.2)))
  where
    at : P c → ((d : X) → Contains cs d → P d) → (d : X) (k : ℕ) → k < length (c ∷ cs) → get_or (c ∷ cs) k d ≡ d → P d
    at here rest d zero lt e = subst P e here
    at here rest d (suc k) lt e = rest d (k, omega (arith, lt), e)

same_package : (packages : List Package) (x : ℕ) (p r : Package) → x < length packages → get_or packages x p ≡ p → get_or packages x r ≡ r → r ≡ p
same_package packages x p r lt one other = sym other ∙ get_or_default packages x r p lt ∙ one

-- one that waits and of which all clauses are met could be configured
pub all_met : (q : Waiting) (x : ℕ) (p : Package) → IsNumbered q.packages x p → IsTrue (has q.waiting x) → ((y : ℕ) → IsConfigurableNow q y → ⊥)
    → AreAllMet q.packages p.pre_depends (has q.installed) × AreAllMet q.packages p.depends (has q.installed) → ⊥
all_met q x p at wait none met = not_one_fails (λ clause. IsMetBy q.packages clause (has q.installed)) (needs p) each (λ all. none x (alone, (within, λ y t. ok all y t), eq-eqb x x refl))
  where
    alone : ℕ → Bool
    alone y = nat_eq y x

    within : (y : ℕ) → IsTrue (alone y) → IsTrue (has q.waiting y)
    within y t = subst (λ n. IsTrue (has q.waiting n)) (sym (eqb-true y x t)) wait

    each : (clause : List Alternative) → Contains (needs p) clause → (IsMetBy q.packages clause (has q.installed) → ⊥) → ⊥
    each clause inc un = ⊎_elim (λ (i : Contains p.pre_depends clause). met.0 i.0 (clause, i.1, i.2, un)) (λ (i : Contains p.depends clause). met.1 i.0 (clause, i.1, i.2, un)) (Contains-append_cases p.pre_depends p.depends clause inc)

    ok : ((clause : List Alternative) → Contains (needs p) clause → IsMetBy q.packages clause (has q.installed)) → (y : ℕ) → IsTrue (alone y) → HasItsNeeds q.packages (or_in (has q.installed) alone) y
    ok all y t clause states =
        let here : States q.packages x clause = subst (λ n. States q.packages n clause) (eqb-true y x t) states in
        let found = all clause (subst (λ (r : Package). Contains (needs r) clause) (same_package q.packages x p here.0 here.1 at.here here.2) here.3) in
        (found.0, found.1, ap (λ b. b || alone found.0) found.2)

-- the first clause that isn't met is there
pub within_of : (packages : List Package) (p : Package) (S : ℕ → Bool) (c : UnmetClause) → IsFirstUnmet packages p S c → IsWithin p c
within_of packages p S (unmet.PreDepends k) first = first.0.1
within_of packages p S (unmet.Depends k) first = first.1.0.1

-- units of those left over, one more

left_over_last : (q : Waiting) (xs : List ℕ) (us : List AUnit) (x : ℕ) (u : AUnit) → AreLeftOver q xs us → IsLeftOver q x u → AreLeftOver q (xs ++ x ∷ []) (us ++ u ∷ [])
left_over_last q [] [] x u are is = (is, tt)
left_over_last q [] (v ∷ us) x u are is = absurd are
left_over_last q (y ∷ xs) [] x u are is = absurd are
left_over_last q (y ∷ xs) (v ∷ us) x u are is = (are.0, left_over_last q xs us x u are.1 is)

pub add_none : (q : Waiting) (us : List AUnit) → AddLeftOver q [] us us
add_none q us = record { more = []; grown = sym (append-nil us); are = tt }

pub add_last : (q : Waiting) (xs : List ℕ) (x : ℕ) (old mid new : List AUnit) → AddLeftOver q xs old mid → AddsLeftOver q x mid new → AddLeftOver q (xs ++ x ∷ []) old new
add_last q xs x old mid new add one = record {
  more = add.more ++ one.unit ∷ [];
  grown = one.grown ∙ ap (λ (l : List AUnit). l ++ one.unit ∷ []) add.grown ∙ append_assoc old add.more (one.unit ∷ []);
  are = left_over_last q xs add.more x one.unit add.are one.is;
}

pub refused_left : (q : Waiting) (numbers : List ℕ) (old new : List AUnit) → IsListing (λ x. IsTrue (has q.waiting x)) numbers → AddLeftOver q numbers old new → HaveRefusedLeft q old new
refused_left q numbers old new listed add = record { numbers = numbers; listed = listed; more = add.more; grown = add.grown; left_over = add.are }

pub refused_some_left : (q : Waiting) (numbers : List ℕ) (old new : List AUnit) → IsListing (λ x. IsTrue (has q.waiting x)) numbers → AddSomeLeftOver q numbers old new → HaveRefusedSomeLeft q old new
refused_some_left q numbers old new listed some =
    HaveRefusedSomeLeft.some some.done some.rest some.add.more (subst (IsListing (λ x. IsTrue (has q.waiting x))) some.split listed) some.add.grown some.add.are

-- all of them are some
pub left_some : (q : Waiting) (old new : List AUnit) → HaveRefusedLeft q old new → HaveRefusedSomeLeft q old new
left_some q old new all =
    HaveRefusedSomeLeft.some all.numbers [] all.more (subst (IsListing (λ x. IsTrue (has q.waiting x))) (sym (append-nil all.numbers)) all.listed) all.grown all.left_over

pub numbered_by : (packages list : List Package) (x : ℕ) (p : Package) → list ≡ packages → x < length list → p ≡ get_or list x p → IsNumbered packages x p
numbered_by packages list x p same lt is = record {
  within = subst (λ (l : List Package). x < length l) same lt;
  here = sym (subst (λ (l : List Package). p ≡ get_or l x p) same is);
}

pub is_left_over : (q : Waiting) (x : ℕ) (p : Package) (packages : List Package) (supply : List Bool) (c : UnmetClause) (u : AUnit) → packages ≡ q.packages → supply ≡ q.installed → IsNumbered q.packages x p
    → IsFirstUnmet packages p (has supply) c → IsRefusedUnit (Depends (clause_at p c)) p.name u → IsLeftOver q x u
is_left_over q x p packages supply c u same installed at first refused = record {
  p = p;
  numbered = at;
  unmet = c;
  first = subst (λ (l : List Bool). IsFirstUnmet q.packages p (has l) c) installed (subst (λ (l : List Package). IsFirstUnmet l p (has supply) c) same first);
  refused = refused;
}

pub no_clause_left : (q : Waiting) (x : ℕ) (p : Package) (packages : List Package) (supply : List Bool) → packages ≡ q.packages → supply ≡ q.installed → IsNumbered q.packages x p → IsTrue (has q.waiting x)
    → ((y : ℕ) → IsConfigurableNow q y → ⊥) → AreAllMet packages p.pre_depends (has supply) × AreAllMet packages p.depends (has supply) → ⊥
no_clause_left q x p packages supply same installed at wait none met =
    all_met q x p at wait none
    (subst (λ (l : List Bool). AreAllMet q.packages p.pre_depends (has l) × AreAllMet q.packages p.depends (has l)) installed
    (subst (λ (l : List Package). AreAllMet l p.pre_depends (has supply) × AreAllMet l p.depends (has supply)) same met))
