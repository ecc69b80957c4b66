-- Unpacks that ignore Depends and Pre-Depends.
use Rattle.std.proofs.Common.{◌≡◌, ℕ, zero, suc, ◌<◌, Bool, true, false, List, [], ◌∷◌, Option, Some, None, length, refl, subst, sym, ◌∙◌, inl, inr, arith}
use Rattle.std.specs.List.{Contains}
use Rattle.std.proofs.lemmas.Bool.{true≢false}
use Rattle.dependency_check.specs.Deconfigured.{of_role}
use Rattle.dependency_check.specs.Unpack.{IsAlwaysRefused, IsPlannedUnpack, IsRefusedUnpack}
use Rattle.dependency_check.specs.declared.plan.Plan.{Plan}
use Rattle.dependency_check.specs.declared.roles.Role.TheVariants.{Broken, Conflicting}
use Rattle.dependency_check.specs.declared.unpack.UnpackRefusal.{UnpackRefusal}
use Rattle.dependency_check.specs.declared.unpack.UnpackRefusal.TheVariants as refusal
use Rattle.dependency_sets.specs.Choices.{IsFirst, IsListing}
use Rattle.relation_fields.specs.declared.alternative.Alternative.{Alternative}
use Rattle.relation_index.specs.declared.package.Package.{Package}
use Rattle.unit_reports.specs.declared.refusal.Rule.{Rule}
use Rattle.unpack_relations.specs.Beside.{IsBeside}
use Rattle.unpack_relations.specs.Checks.{IsCheckedBy, IsPlannedIgnoring, IsRefusedIgnoring, rule_of, without_pre_depends}
use Rattle.unpack_relations.specs.declared.checking.Checked.{Checked}
use Rattle.unpack_relations.specs.declared.checking.Checked.TheVariants.{Refused, Planned}

-- what is said of the package without its Pre-Depends is said of the package

refused_with : (packages : List Package) (p : Package) (auto : Bool) (rule : Rule) (reason : UnpackRefusal) → IsRefusedIgnoring packages (without_pre_depends p) auto reason → rule ≡ rule_of packages (without_pre_depends p) reason
    → IsCheckedBy true packages p auto (Refused rule)
refused_with packages p auto rule (refusal.PreDepends k) is same = absurd is
refused_with packages p auto rule (refusal.Conflicts x) is same = (refusal.Conflicts x, is, same)
refused_with packages p auto rule (refusal.ConflictEssential x) is same = (refusal.ConflictEssential x, is, same)
refused_with packages p auto rule (refusal.Dependents x) is same = absurd is
refused_with packages p auto rule (refusal.Breaks x) is same = (refusal.Breaks x, is, same)

pub checked_with : (packages : List Package) (p : Package) (auto : Bool) (checked : Checked) → IsCheckedBy true packages (without_pre_depends p) auto checked → IsCheckedBy true packages p auto checked
checked_with packages p auto (Refused rule) by = refused_with packages p auto rule by.0 by.1 by.2
checked_with packages p auto (Planned b) by = (
  by.0,
  record {
    yield = by.1.yield;
    none_essential = by.1.none_essential;
    none_broken = by.1.none_broken;
    broken = by.1.broken;
    dependents = by.1.dependents;
    conflicting = by.1.conflicting;
  },
  record { broken = by.2.broken; dependents = by.2.dependents; conflicting = by.2.conflicting; replaced = by.2.replaced },
)

-- the refusals of a package without Pre-Depends, where packages may be deconfigured

none_unmet : (clauses : List (List Alternative)) (k : ℕ) → clauses ≡ [] → k < length clauses → ⊥
none_unmet clauses k none lt = omega (arith, subst (λ (l : List (List Alternative)). k < length l) none lt)

always_ignoring : (packages : List Package) (p : Package) (auto : Bool) (reason : UnpackRefusal) → p.pre_depends ≡ [] → IsAlwaysRefused packages p reason → IsRefusedIgnoring packages p auto reason
always_ignoring packages p auto (refusal.PreDepends k) none is = none_unmet p.pre_depends k none is.0.1
always_ignoring packages p auto (refusal.Conflicts x) none is = is.1
always_ignoring packages p auto (refusal.ConflictEssential x) none is = is.1
always_ignoring packages p auto (refusal.Dependents x) none is = absurd is
always_ignoring packages p auto (refusal.Breaks x) none is = absurd is

pub refused_ignoring : (packages : List Package) (p : Package) (auto : Bool) (reason : UnpackRefusal) → p.pre_depends ≡ [] → IsRefusedUnpack packages p true reason → IsRefusedIgnoring packages p auto reason
refused_ignoring packages p auto reason none (inl is) = always_ignoring packages p auto reason none is
refused_ignoring packages p auto reason none (inr is) = absurd (true≢false is.1)

-- the first of a list of all

pub first_listed : (P : ℕ → Type 0) (list : List ℕ) (n : ℕ) (rest : List ℕ) → list ≡ n ∷ rest → IsListing P list → IsFirst P n
first_listed P list n rest same listing = at (subst (IsListing P) same listing)
  where
    below : (y : ℕ) → y < n → Contains (n ∷ rest) y → IsListing P (n ∷ rest) → ⊥
    below y lt (zero, within, is) all = omega (arith, lt, is)
    below y lt (suc k, within, is) all = let above = all.0 0 (suc k) y (omega arith) (omega (arith, within)) in omega (arith, lt, above, is)

    at : IsListing P (n ∷ rest) → IsFirst P n
    at all = ((all.1 n).0 (0, omega arith, refl), λ y lt is. below y lt ((all.1 y).1 is) all)

pub none_listed : (P : ℕ → Type 0) (list : List ℕ) → list ≡ [] → IsListing P list → (x : ℕ) → P x → ⊥
none_listed P list same listing x is = omega (arith, (((subst (IsListing P) same listing).1 x).1 is).1)
