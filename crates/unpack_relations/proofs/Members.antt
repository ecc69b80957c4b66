-- The numbers of a plan are packages', and no number stands twice.
use Rattle.std.proofs.Common.{◌≡◌, ℕ, ◌<◌, Bool, true, false, ◌&&◌, ◌||◌, not, suc, List, [], ◌∷◌, ◌++◌, length, get_or, map, refl, sym, subst, ◌∙◌, ⊎_elim, arith}
use Rattle.std.specs.Prelude.{IsTrue}
use Rattle.std.specs.List.{All, AllPairs, Contains}
use Rattle.std.proofs.lemmas.Bool.{and_parts, false≢true, not-true}
use Rattle.std.proofs.lemmas.List.Elements.{Contains-append_cases, Contains-get_or}
use Rattle.dependency_sets.specs.Choices.{IsListing}
use Rattle.dependency_check.specs.Deconfigured.{of_role, IsDependent, IsNamedFor, IsPlan}
use Rattle.dependency_check.specs.Roles.{admits_in, is_broken, is_conflicting, is_other, is_remaining, plays}
use Rattle.dependency_check.specs.declared.plan.Dependent.{Dependent as Numbered}
use Rattle.dependency_check.specs.declared.plan.Plan.{Plan}
use Rattle.dependency_check.specs.declared.roles.Role.{Role}
use Rattle.dependency_check.specs.declared.roles.Role.TheVariants.{Broken, Conflicting}
use Rattle.dependency_check.proofs.MeetingLaws.{those_at, those_is}
use Rattle.relation_index.specs.Packages.{is_installed, is_present}
use Rattle.relation_index.specs.declared.package.Package.{Package}
use Rattle.unpack_relations.specs.Beside.{IsNumbered}
use Rattle.unpack_relations.specs.Checks.{IsPlannedIgnoring}

-- within the packages

pub role_within : (role : Role) (packages : List Package) (incoming : Package) (x : ℕ) → IsTrue (of_role role incoming packages x) → x < length packages
role_within role packages incoming x t = (those_is (plays role incoming) packages x t).1

pub role_listed : (role : Role) (packages : List Package) (incoming : Package) (list : List ℕ) → IsListing (λ x. IsTrue (of_role role incoming packages x)) list → All (λ x. x < length packages) list
role_listed role packages incoming list listing k d lt = role_within role packages incoming (get_or list k d) ((listing.1 (get_or list k d)).0 (Contains-get_or list k d lt))

pub dependents_numbered : (packages : List Package) (incoming : Package) (ds : List Numbered) → All (IsNamedFor packages incoming) ds → All (IsNumbered packages) ds
dependents_numbered packages incoming ds named k d lt =
    let for = named k d lt in
    (for.1, role_within Conflicting packages incoming (get_or ds k d).removing for.3.0.0)

-- beside the incoming package

-- the package of this number is another one than the incoming
abbrev pub IsOtherAt : List Package → Package → ℕ → Type 0
IsOtherAt packages incoming x = (p : Package) × (x < length packages) × (get_or packages x p ≡ p) × IsTrue (is_other incoming p)

module _ (packages : List Package) (incoming : Package) (x : ℕ) where
  broken_other : IsTrue (of_role Broken incoming packages x) → IsOtherAt packages incoming x
  broken_other t =
      let at = those_is (plays Broken incoming) packages x t in
      (at.0, at.1, at.2, (and_parts (is_other incoming at.0) (is_installed at.0 && (not (is_conflicting incoming at.0) && admits_in incoming.breaks at.0)) at.3).0)

  conflicting_other : IsTrue (of_role Conflicting incoming packages x) → IsOtherAt packages incoming x
  conflicting_other t =
      let at = those_is (plays Conflicting incoming) packages x t in
      (at.0, at.1, at.2, (and_parts (is_other incoming at.0) (is_present at.0 && (admits_in incoming.conflicts at.0 || admits_in at.0.conflicts incoming)) at.3).0)

  -- what a dependent is
  remaining : (p : Package) → is_remaining incoming p ≡ true → (is_other incoming p ≡ true) × (is_conflicting incoming p ≡ false)
  remaining p t =
      let parts = and_parts (is_other incoming p) (not (is_conflicting incoming p)) (and_parts (is_installed p) (is_other incoming p && not (is_conflicting incoming p)) t).1 in
      (parts.0, not-true (is_conflicting incoming p) parts.1)

  dependent_other : IsDependent packages incoming x → IsOtherAt packages incoming x
  dependent_other d = (d.0, d.1, d.2, (remaining d.0 (and_parts (is_remaining incoming d.0) (not (is_broken incoming d.0)) d.3).0).0)

  -- no package plays two parts
  broken_conflicting : IsTrue (of_role Broken incoming packages x) → IsTrue (of_role Conflicting incoming packages x) → ⊥
  broken_conflicting b c =
      let at = those_is (plays Broken incoming) packages x b in
      let p = at.0 in
      let conflicts : is_conflicting incoming p ≡ true = sym (those_at (plays Conflicting incoming) packages x p at.1 at.2) ∙ c in
      let rest = (and_parts (is_other incoming p) (is_installed p && (not (is_conflicting incoming p) && admits_in incoming.breaks p)) at.3).1 in
      let spared = (and_parts (not (is_conflicting incoming p)) (admits_in incoming.breaks p) (and_parts (is_installed p) (not (is_conflicting incoming p) && admits_in incoming.breaks p) rest).1).0 in
      false≢true (sym (not-true (is_conflicting incoming p) spared) ∙ conflicts)

  dependent_conflicting : IsDependent packages incoming x → IsTrue (of_role Conflicting incoming packages x) → ⊥
  dependent_conflicting d c =
      let conflicts : is_conflicting incoming d.0 ≡ true = sym (those_at (plays Conflicting incoming) packages x d.0 d.1 d.2) ∙ c in
      false≢true (sym (remaining d.0 (and_parts (is_remaining incoming d.0) (not (is_broken incoming d.0)) d.3).0).1 ∙ conflicts)

  dependent_broken : IsDependent packages incoming x → IsTrue (of_role Broken incoming packages x) → ⊥
  dependent_broken d b =
      let broken : is_broken incoming d.0 ≡ true = sym (those_at (plays Broken incoming) packages x d.0 d.1 d.2) ∙ b in
      false≢true (sym (not-true (is_broken incoming d.0) (and_parts (is_remaining incoming d.0) (not (is_broken incoming d.0)) d.3).1) ∙ broken)

-- lists of numbers

-- no number stands twice
abbrev pub AreUnlike : List ℕ → Type 0
AreUnlike [] = Unit {0}
AreUnlike (x ∷ xs) = (Contains xs x → ⊥) × AreUnlike xs

pub behind : {X : Type 0} (y : X) (xs : List X) (x : X) → Contains xs x → Contains (y ∷ xs) x
behind {X} y xs x c = (suc c.0, omega (arith, c.1), c.2)

increasing_unlike : (xs : List ℕ) → AllPairs (λ a b. a < b) xs → AreUnlike xs
increasing_unlike [] increasing = tt
increasing_unlike (x ∷ xs) increasing = (
  λ c. let above : x < get_or xs c.0 x = increasing 0 (suc c.0) x (omega arith) (omega (arith, c.1)) in omega (arith, above, c.2),
  increasing_unlike xs (λ i j d lt in'. increasing (suc i) (suc j) d (omega (arith, lt)) (omega (arith, in'))),
)

unlike_append : (xs ys : List ℕ) → AreUnlike xs → AreUnlike ys → ((x : ℕ) → Contains xs x → Contains ys x → ⊥) → AreUnlike (xs ++ ys)
unlike_append [] ys one other apart = other
unlike_append (x ∷ xs) ys one other apart = (
  λ c. ⊎_elim (λ (here : Contains xs x). one.0 here) (λ (there : Contains ys x). apart x (0, omega arith, refl) there) (Contains-append_cases xs ys x c),
  unlike_append xs ys one.1 other (λ y left right. apart y (behind x xs y left) right),
)

-- those that an unpack deconfigures or removes
abbrev pub numbers_beside : Plan → List ℕ
numbers_beside plan = plan.broken ++ (map (λ d. d.number) plan.dependents.items ++ plan.conflicting)

-- a plan of which dependents may be left out
pub record IsSomePlan (packages : List Package) (incoming : Package) (plan : Plan) : Type 0 where
  pub broken : IsListing (λ x. IsTrue (of_role Broken incoming packages x)) plan.broken
  pub increasing : AllPairs (λ a b. a < b) (map (λ d. d.number) plan.dependents.items)
  pub dependents : (x : ℕ) → Contains (map (λ d. d.number) plan.dependents.items) x → IsDependent packages incoming x
  pub conflicting : IsListing (λ x. IsTrue (of_role Conflicting incoming packages x)) plan.conflicting

pub with_all : (packages : List Package) (incoming : Package) (plan : Plan) → IsPlan packages incoming plan → IsSomePlan packages incoming plan
with_all packages incoming plan is = record {
  broken = is.broken;
  increasing = is.dependents.0.0;
  dependents = λ x inside. (is.dependents.0.1 x).0 inside;
  conflicting = is.conflicting;
}

pub with_none : (packages : List Package) (incoming : Package) (auto_deconfigure : Bool) (plan : Plan) → IsPlannedIgnoring packages incoming auto_deconfigure plan → IsSomePlan packages incoming plan
with_none packages incoming auto_deconfigure plan is = record {
  broken = is.broken;
  increasing = subst (λ (ds : List Numbered). AllPairs (λ a b. a < b) (map (λ d. d.number) ds)) (sym is.dependents) (λ i j d lt within. absurd (omega (arith, within)));
  dependents = λ x inside. absurd (nothing_inside x (subst (λ (ds : List Numbered). Contains (map (λ d. d.number) ds) x) is.dependents inside));
  conflicting = is.conflicting;
}
  where
    nothing_inside : (x : ℕ) → Contains (map (λ (d : Numbered). d.number) []) x → ⊥
    nothing_inside x c = omega (arith, c.1)

module _ (packages : List Package) (incoming : Package) (plan : Plan) (is : IsSomePlan packages incoming plan) where
  pub plan_unlike : AreUnlike (numbers_beside plan)
  plan_unlike =
      let numbers : List ℕ = map (λ d. d.number) plan.dependents.items in
      unlike_append plan.broken (numbers ++ plan.conflicting) (increasing_unlike plan.broken is.broken.0)
      (unlike_append numbers plan.conflicting (increasing_unlike numbers is.increasing) (increasing_unlike plan.conflicting is.conflicting.0)
      (λ x d c. dependent_conflicting packages incoming x (is.dependents x d) ((is.conflicting.1 x).0 c)))
      (λ x b rest. ⊎_elim
      (λ (d : Contains numbers x). dependent_broken packages incoming x (is.dependents x d) ((is.broken.1 x).0 b))
      (λ (c : Contains plan.conflicting x). broken_conflicting packages incoming x ((is.broken.1 x).0 b) ((is.conflicting.1 x).0 c))
      (Contains-append_cases numbers plan.conflicting x rest))

  pub plan_other : (x : ℕ) → Contains (numbers_beside plan) x → IsOtherAt packages incoming x
  plan_other x inside =
      let numbers : List ℕ = map (λ d. d.number) plan.dependents.items in
      ⊎_elim
      (λ (b : Contains plan.broken x). broken_other packages incoming x ((is.broken.1 x).0 b))
      (λ (rest : Contains (numbers ++ plan.conflicting) x). ⊎_elim
      (λ (d : Contains numbers x). dependent_other packages incoming x (is.dependents x d))
      (λ (c : Contains plan.conflicting x). conflicting_other packages incoming x ((is.conflicting.1 x).0 c))
      (Contains-append_cases numbers plan.conflicting x rest))
      (Contains-append_cases plan.broken (numbers ++ plan.conflicting) x inside)
