-- When an unpack is refused because of other packages: the first that holds (Policy 7.2 to 7.6).
use Rattle.std.specs.Prelude.{◌≡◌, ℕ, Bool, false, List, Option, Some, None, ◌⊎◌, ⊤, IsTrue, ◌&&◌, ◌||◌, not}
use Rattle.dependency_sets.specs.Choices.{IsFirst}
use Rattle.dependency_check.specs.Deconfigured.{of_role, IsDependent, IsPlan}
use Rattle.dependency_check.specs.Left.{IsFailing}
use Rattle.dependency_check.specs.declared.plan.Plan.{Plan}
use Rattle.dependency_check.specs.declared.roles.Role.TheVariants.{Unyielding, EssentialConflict, Broken}
use Rattle.dependency_check.specs.declared.unpack.CheckFault.{CheckFault}
use Rattle.dependency_check.specs.declared.unpack.CheckFault.TheVariants.{Refused, NoMemory}
use Rattle.dependency_check.specs.declared.unpack.UnpackRefusal.{UnpackRefusal}
use Rattle.dependency_check.specs.declared.unpack.UnpackRefusal.TheVariants.{PreDepends, Conflicts, ConflictEssential, Dependents, Breaks}
use Rattle.relation_fields.specs.Admission.{clause_admits}
use Rattle.relation_fields.specs.declared.alternative.Alternative.{Alternative}
use Rattle.relation_index.specs.Packages.{those, meets, is_installed, is_unpacked}
use Rattle.relation_index.specs.declared.package.Package.{Package}

-- the version that was configured last meets the clause, with what the package provides today
abbrev pub met_when_configured : List Alternative → Package → Option (List ℕ) → Bool
met_when_configured clause p None = false
met_when_configured clause p (Some version) = clause_admits clause p.name p.architecture version p.provides

-- Policy 7.2: what meets a clause of Pre-Depends is installed and awaits no triggers, or it is unpacked or half-configured, was configured
-- earlier and not removed since, and the version of then meets the clause too
abbrev pub meets_beforehand : List Alternative → Package → Bool
meets_beforehand clause p = meets clause p && ((is_installed p && not p.awaits) || (is_unpacked p && (not p.removed_since && met_when_configured clause p p.configured)))

abbrev pub IsMetBeforehand : List Package → List Alternative → Type 0
IsMetBeforehand packages clause = (x : ℕ) × IsTrue (those (meets_beforehand clause) packages x)

-- the clause of this place is met beforehand by no package
abbrev pub IsUnmetBeforehand : List Package → List (List Alternative) → ℕ → Type 0
IsUnmetBeforehand packages clauses k = IsFailing (IsMetBeforehand packages) clauses k

abbrev pub ArePreDependsMet : List Package → Package → Type 0
ArePreDependsMet packages incoming = (k : ℕ) → IsUnmetBeforehand packages incoming.pre_depends k → ⊥

abbrev pub DoAllYield : List Package → Package → Type 0
DoAllYield packages incoming = (x : ℕ) → IsTrue (of_role Unyielding incoming packages x) → ⊥

abbrev pub IsNoneEssential : List Package → Package → Type 0
IsNoneEssential packages incoming = (x : ℕ) → IsTrue (of_role EssentialConflict incoming packages x) → ⊥

-- for a conflicting package, where Pre-Depends are met
abbrev pub IsRefusedConflict : List Package → Package → UnpackRefusal → Type 0
IsRefusedConflict packages incoming (PreDepends k) = ⊥
IsRefusedConflict packages incoming (Conflicts x) = IsFirst (λ y. IsTrue (of_role Unyielding incoming packages y)) x
IsRefusedConflict packages incoming (ConflictEssential x) = DoAllYield packages incoming × IsFirst (λ y. IsTrue (of_role EssentialConflict incoming packages y)) x
IsRefusedConflict packages incoming (Dependents x) = ⊥
IsRefusedConflict packages incoming (Breaks x) = ⊥

-- whatever may be deconfigured
abbrev pub IsAlwaysRefused : List Package → Package → UnpackRefusal → Type 0
IsAlwaysRefused packages incoming (PreDepends k) = IsFirst (IsUnmetBeforehand packages incoming.pre_depends) k
IsAlwaysRefused packages incoming (Conflicts x) = ArePreDependsMet packages incoming × IsRefusedConflict packages incoming (Conflicts x)
IsAlwaysRefused packages incoming (ConflictEssential x) = ArePreDependsMet packages incoming × IsRefusedConflict packages incoming (ConflictEssential x)
IsAlwaysRefused packages incoming (Dependents x) = ⊥
IsAlwaysRefused packages incoming (Breaks x) = ⊥

abbrev pub MayBeUnpacked : List Package → Package → Type 0
MayBeUnpacked packages incoming = ArePreDependsMet packages incoming × (DoAllYield packages incoming × IsNoneEssential packages incoming)

-- where no package may be deconfigured
abbrev pub IsRefusedUndeconfigured : List Package → Package → UnpackRefusal → Type 0
IsRefusedUndeconfigured packages incoming (PreDepends k) = ⊥
IsRefusedUndeconfigured packages incoming (Conflicts x) = ⊥
IsRefusedUndeconfigured packages incoming (ConflictEssential x) = ⊥
IsRefusedUndeconfigured packages incoming (Dependents x) = IsFirst (IsDependent packages incoming) x
IsRefusedUndeconfigured packages incoming (Breaks x) = ((y : ℕ) → IsDependent packages incoming y → ⊥) × IsFirst (λ y. IsTrue (of_role Broken incoming packages y)) x

abbrev pub NeedsNoDeconfiguring : List Package → Package → Type 0
NeedsNoDeconfiguring packages incoming = ((x : ℕ) → IsDependent packages incoming x → ⊥) × ((x : ℕ) → IsTrue (of_role Broken incoming packages x) → ⊥)

-- the first reason that holds
abbrev pub IsRefusedUnpack : List Package → Package → Bool → UnpackRefusal → Type 0
IsRefusedUnpack packages incoming auto_deconfigure refusal = IsAlwaysRefused packages incoming refusal ⊎ (MayBeUnpacked packages incoming × (auto_deconfigure ≡ false) × IsRefusedUndeconfigured packages incoming refusal)

-- no reason holds
abbrev pub IsPlannedUnpack : List Package → Package → Bool → Plan → Type 0
IsPlannedUnpack packages incoming auto_deconfigure plan = MayBeUnpacked packages incoming × (auto_deconfigure ≡ false → NeedsNoDeconfiguring packages incoming) × IsPlan packages incoming plan

-- a refusal is the first reason; want of memory may come at any time
abbrev pub IsFaultOfUnpack : List Package → Package → Bool → CheckFault → Type 0
IsFaultOfUnpack packages incoming auto_deconfigure (Refused refusal) = IsRefusedUnpack packages incoming auto_deconfigure refusal
IsFaultOfUnpack packages incoming auto_deconfigure NoMemory = ⊤
