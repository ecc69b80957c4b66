-- Packages in name order, the clauses that they state and what meets these (Policy 7.1, 7.2, 7.5).
use Rattle.std.specs.Prelude.{◌≡◌, ℕ, ◌+◌, ◌<◌, Bool, true, false, List, ◌++◌, length, map, slice_index_or, IsTrue, ◌↔◌}
use Rattle.std.specs.List.{Contains}
use Rattle.std.specs.Cmp.Lexicographic.{slice_cmp}
use Rattle.std.specs.Ordering.{nat_cmp}
use Rattle.std.specs.declared.cmp.Ordering.TheVariants.{Less}
use Rattle.name_tables.specs.Tables.{drop_value, place_value, put_value}
use Rattle.dependency_sets.specs.Sets.{has}
use Rattle.dependency_sets.specs.declared.clause.Clause.{Clause}
use Rattle.relation_fields.specs.Admission.{clause_admits}
use Rattle.relation_fields.specs.declared.alternative.Alternative.{Alternative}
use Rattle.relation_index.specs.Order.{name_of}
use Rattle.relation_index.specs.declared.package.Package.{Package}
use Rattle.relation_index.specs.declared.package.PackageState.{PackageState}
use Rattle.relation_index.specs.declared.package.PackageState.TheVariants.{NotInstalled, ConfigFiles, HalfInstalled, Unpacked, HalfConfigured, Installed}

-- each name is before the next one's in the order of bytes, so no two packages have one name
abbrev pub AreInNameOrder : List Package → Type 0
AreInNameOrder packages = (k : ℕ) (p : Package) → k + 1 < length packages → slice_cmp nat_cmp (slice_index_or packages k p).name (slice_index_or packages (k + 1) p).name ≡ Less

-- all packages but that of a name
abbrev pub drop_package : List ℕ → List Package → List Package
drop_package = drop_value name_of

-- a package before the first of a greater name
abbrev pub place_package : Package → List Package → List Package
place_package = place_value name_of

-- the package of its name is this one
abbrev pub put_package : Package → List Package → List Package
put_package = put_value name_of

-- the package meets the clause by its name, architecture and version, or by what it provides
abbrev pub meets : List Alternative → Package → Bool
meets clause p = clause_admits clause p.name p.architecture p.version p.provides

-- the package of this number meets the clause
abbrev pub Meets : List Alternative → List Package → ℕ → Type 0
Meets clause packages x = (p : Package) × (x < length packages) × (slice_index_or packages x p ≡ p) × IsTrue (meets clause p)

-- the clauses of Pre-Depends, then those of Depends
abbrev pub needs : Package → List (List Alternative)
needs p = p.pre_depends ++ p.depends

-- the clause is one of Pre-Depends or Depends of the package of this number
abbrev pub States : List Package → ℕ → List Alternative → Type 0
States packages x clause = (p : Package) × (x < length packages) × (slice_index_or packages x p ≡ p) × Contains (needs p) clause

-- these are the packages that meet the clause
abbrev pub AreMeeters : List Package → List Alternative → List ℕ → Type 0
AreMeeters packages clause list = (x : ℕ) → Contains list x ↔ Meets clause packages x

-- the clauses of Depends and Pre-Depends of all packages, each with its owner and those that meet it
pub record AreClauses (packages : List Package) (clauses : List Clause) : Type 0 where
  pub stated : (c : Clause) → Contains clauses c → (clause : List Alternative) × States packages c.owner clause × AreMeeters packages clause c.meeters
  pub all : (x : ℕ) (clause : List Alternative) → States packages x clause → (c : Clause) × Contains clauses c × (c.owner ≡ x) × AreMeeters packages clause c.meeters

-- the packages of which a test holds, by their numbers
abbrev pub those : (Package → Bool) → List Package → ℕ → Bool
those test packages x = has (map test packages) x

abbrev pub installed_state : PackageState → Bool
installed_state NotInstalled = false
installed_state ConfigFiles = false
installed_state HalfInstalled = false
installed_state Unpacked = false
installed_state HalfConfigured = false
installed_state Installed = true

abbrev pub present_state : PackageState → Bool
present_state NotInstalled = false
present_state ConfigFiles = false
present_state HalfInstalled = true
present_state Unpacked = true
present_state HalfConfigured = true
present_state Installed = true

abbrev pub unpacked_state : PackageState → Bool
unpacked_state NotInstalled = false
unpacked_state ConfigFiles = false
unpacked_state HalfInstalled = false
unpacked_state Unpacked = true
unpacked_state HalfConfigured = true
unpacked_state Installed = false

abbrev pub is_installed : Package → Bool
is_installed p = installed_state p.state

-- at least half-installed
abbrev pub is_present : Package → Bool
is_present p = present_state p.state

-- unpacked or half-configured
abbrev pub is_unpacked : Package → Bool
is_unpacked p = unpacked_state p.state
