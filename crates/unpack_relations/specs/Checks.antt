-- Whether a tree can be unpacked beside the recorded packages (Policy 5.6.8, 7.2 to 7.6).
use Rattle.std.specs.Prelude.{◌≡◌, ◌<◌, ℕ, ◌++◌, Bool, List, [], ◌∷◌, Option, Some, None, ⊤, if◌then◌else◌, is_some, true, false, IsTrue, map, length, slice_index_or}
use Rattle.std.specs.List.{All, Contains}
use Rattle.std.specs.Str.{bytes_eq}
use Rattle.dependency_check.specs.Deconfigured.{of_role}
use Rattle.dependency_check.specs.Unpack.{DoAllYield, IsNoneEssential, IsPlannedUnpack, IsRefusedConflict, IsRefusedUnpack}
use Rattle.dependency_check.specs.declared.roles.Role.TheVariants.{Broken, Conflicting}
use Rattle.dependency_check.specs.declared.plan.Plan.{Plan}
use Rattle.dependency_check.specs.declared.unpack.UnpackRefusal.{UnpackRefusal}
use Rattle.dependency_check.specs.declared.unpack.UnpackRefusal.TheVariants as refusal
use Rattle.dependency_sets.specs.Choices.{IsFirst, IsListing}
use Rattle.package_tree.specs.declared.package.Package.{Package as Tree}
use Rattle.recorded_packages.specs.Packages.{ArePackagesOf, root_architecture}
use Rattle.relation_index.specs.declared.package.Package.{Package}
use Rattle.stated_relations.specs.Relations.{architecture_of}
use Rattle.status_records.specs.Records.{record_in}
use Rattle.status_records.specs.declared.record.Record.{Record}
use Rattle.unit_reports.specs.declared.refusal.Rule.{Rule}
use Rattle.unit_reports.specs.declared.refusal.Rule.TheVariants.{Architecture, PreDepends, Conflicts, ConflictEssential, Dependents, Breaks}
use Rattle.unpack_relations.specs.Beside.{IsBeside, name_at}
use Rattle.unpack_relations.specs.Incoming.{IsIncomingPackage}
use Rattle.unpack_relations.specs.declared.beside.Beside.{Beside}
use Rattle.unpack_relations.specs.declared.checking.Checked.{Checked}
use Rattle.unpack_relations.specs.declared.options.UnpackOptions.{UnpackOptions}
use Rattle.unpack_relations.specs.declared.checking.Checked.TheVariants.{Refused, Planned}

-- a refusal with its clause or the name of the other package
abbrev pub rule_of : List Package → Package → UnpackRefusal → Rule
rule_of packages incoming (refusal.PreDepends k) = PreDepends (slice_index_or incoming.pre_depends k [])
rule_of packages incoming (refusal.Conflicts x) = Conflicts (name_at packages x)
rule_of packages incoming (refusal.ConflictEssential x) = ConflictEssential (name_at packages x)
rule_of packages incoming (refusal.Dependents x) = Dependents (name_at packages x)
rule_of packages incoming (refusal.Breaks x) = Breaks (name_at packages x)

-- the clause or the package of a refusal is there
abbrev pub IsWithin : List Package → Package → UnpackRefusal → Type 0
IsWithin packages incoming (refusal.PreDepends k) = k < length incoming.pre_depends
IsWithin packages incoming (refusal.Conflicts x) = x < length packages
IsWithin packages incoming (refusal.ConflictEssential x) = x < length packages
IsWithin packages incoming (refusal.Dependents x) = x < length packages
IsWithin packages incoming (refusal.Breaks x) = x < length packages

-- Where Depends and Pre-Depends are ignored: a conflicting package refuses it, or else one that it breaks, where none may be
-- deconfigured.
abbrev pub IsRefusedIgnoring : List Package → Package → Bool → UnpackRefusal → Type 0
IsRefusedIgnoring packages incoming auto_deconfigure (refusal.PreDepends k) = ⊥
IsRefusedIgnoring packages incoming auto_deconfigure (refusal.Conflicts x) = IsRefusedConflict packages incoming (refusal.Conflicts x)
IsRefusedIgnoring packages incoming auto_deconfigure (refusal.ConflictEssential x) = IsRefusedConflict packages incoming (refusal.ConflictEssential x)
IsRefusedIgnoring packages incoming auto_deconfigure (refusal.Dependents x) = ⊥
IsRefusedIgnoring packages incoming auto_deconfigure (refusal.Breaks x) =
    DoAllYield packages incoming × IsNoneEssential packages incoming × (auto_deconfigure ≡ false) × IsFirst (λ y. IsTrue (of_role Broken incoming packages y)) x

-- No reason holds then: each conflicting package is removed, and each that is broken deconfigured, where that may be. Those that lose what
-- they depend on stay as they are.
pub record IsPlannedIgnoring (packages : List Package) (incoming : Package) (auto_deconfigure : Bool) (plan : Plan) : Type 0 where
  pub yield : DoAllYield packages incoming
  pub none_essential : IsNoneEssential packages incoming
  pub none_broken : auto_deconfigure ≡ false → (x : ℕ) → IsTrue (of_role Broken incoming packages x) → ⊥
  pub broken : IsListing (λ x. IsTrue (of_role Broken incoming packages x)) plan.broken
  pub dependents : plan.dependents.items ≡ []
  pub conflicting : IsListing (λ x. IsTrue (of_role Conflicting incoming packages x)) plan.conflicting

-- the package without its Pre-Depends
abbrev pub without_pre_depends : Package → Package
without_pre_depends p = record {
  name = p.name;
  architecture = p.architecture;
  version = p.version;
  state = p.state;
  awaits = p.awaits;
  reinstreq = p.reinstreq;
  essential = p.essential;
  configured = p.configured;
  removed_since = p.removed_since;
  provides = p.provides;
  pre_depends = [];
  depends = p.depends;
  breaks = p.breaks;
  conflicts = p.conflicts;
  replaces = p.replaces;
}

-- the first reason that refuses it, where Depends and Pre-Depends are heeded or ignored
abbrev pub IsRefusedWhere : Bool → List Package → Package → Bool → UnpackRefusal → Type 0
IsRefusedWhere false packages incoming auto_deconfigure reason = IsRefusedUnpack packages incoming auto_deconfigure reason
IsRefusedWhere true packages incoming auto_deconfigure reason = IsRefusedIgnoring packages incoming auto_deconfigure reason

-- what it does where there is none
abbrev pub IsPlannedWhere : Bool → List Package → Package → Bool → Plan → Type 0
IsPlannedWhere false packages incoming auto_deconfigure plan = IsPlannedUnpack packages incoming auto_deconfigure plan
IsPlannedWhere true packages incoming auto_deconfigure plan = IsPlannedIgnoring packages incoming auto_deconfigure plan

-- the first reason that refuses it, or what it does where there is none
abbrev pub IsCheckedBy : Bool → List Package → Package → Bool → Checked → Type 0
IsCheckedBy ignore_depends packages incoming auto_deconfigure (Refused rule) =
    (reason : UnpackRefusal) × IsRefusedWhere ignore_depends packages incoming auto_deconfigure reason × (rule ≡ rule_of packages incoming reason)
IsCheckedBy ignore_depends packages incoming auto_deconfigure (Planned beside) =
    (plan : Plan) × IsPlannedWhere ignore_depends packages incoming auto_deconfigure plan × IsBeside packages incoming plan beside

-- the architecture of a package (Policy 5.6.8), where it is another one than that of the root
abbrev pub other_architecture : Option (List ℕ) → Option (List ℕ) → Option (List ℕ)
other_architecture None own = None
other_architecture (Some root) None = None
other_architecture (Some root) (Some own) = if bytes_eq own root then None else Some own

-- a root has packages of one architecture: no package of another is unpacked; of the others relations say it
abbrev pub IsCheckedUnless : Option (List ℕ) → List Record → Tree → UnpackOptions → Checked → Type 0
IsCheckedUnless (Some other) records tree options checked = checked ≡ Refused (Architecture other)
IsCheckedUnless None records tree options checked =
    (packages : List Package) × (incoming : Package) × ArePackagesOf records packages × IsIncomingPackage (root_architecture records) tree incoming
    × IsCheckedBy options.ignore_depends packages incoming options.auto_deconfigure checked

-- over the packages of the records, and that of the tree
abbrev pub IsChecked : List Record → Tree → UnpackOptions → Checked → Type 0
IsChecked records tree options checked =
    IsCheckedUnless (other_architecture (root_architecture records) (architecture_of tree.control)) records tree options checked

-- the packages that an unpack deconfigures or removes
abbrev pub names_beside : Beside → List (List ℕ)
names_beside b = b.broken ++ (map (λ d. d.name) b.dependents.items ++ b.conflicting)

-- no name stands twice
abbrev pub AreDistinct : List (List ℕ) → Type 0
AreDistinct [] = Unit {0}
AreDistinct (name ∷ names) = (Contains names name → ⊥) × AreDistinct names

-- they are recorded, none of them is the incoming package, and none plays two parts
pub record AreApart (name : List ℕ) (records : List Record) (b : Beside) : Type 0 where
  pub distinct : AreDistinct (name ∷ names_beside b)
  pub recorded : All (λ q. is_some (record_in records q) ≡ true) (names_beside b)

abbrev pub AreBesideApart : List ℕ → List Record → Checked → Type 0
AreBesideApart name records (Refused rule) = ⊤
AreBesideApart name records (Planned beside) = AreApart name records beside
