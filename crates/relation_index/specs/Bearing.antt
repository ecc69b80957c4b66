-- The index of the names that packages bear.
use Rattle.std.specs.Prelude.{◌≡◌, ℕ, Bool, List, Option, Some, ◌||◌, ◌⊎◌, IsTrue, ◌<◌, length, slice_index_or}
use Rattle.std.specs.List.{Contains, list_any}
use Rattle.std.specs.Str.{bytes_eq}
use Rattle.dependency_sets.specs.Sets.{row_at}
use Rattle.dependency_sets.specs.declared.clause.Clause.{Clause}
use Rattle.relation_fields.specs.Admission.{admits}
use Rattle.relation_fields.specs.declared.alternative.Alternative.{Alternative}
use Rattle.relation_index.specs.Packages.{AreInNameOrder, AreMeeters}
use Rattle.relation_index.specs.declared.package.Package.{Package}

-- a package's own name, and those that it provides
abbrev pub bears : List ℕ → Package → Bool
bears name p = bytes_eq name p.name || list_any (λ e. bytes_eq name e.name) p.provides

-- the alternative admits the package of this number
abbrev pub IsAdmitted : Alternative → List Package → ℕ → Type 0
IsAdmitted a packages x = (p : Package) × (x < length packages) × (slice_index_or packages x p ≡ p) × IsTrue (admits a p.name p.architecture p.version p.provides)

-- those of the numbers that the alternative admits were pushed
pub record HasPushed (a : Alternative) (packages : List Package) (numbers : List ℕ) (old new : List ℕ) : Type 0 where
  pub kept : (x : ℕ) → Contains old x → Contains new x
  pub pushed : (x : ℕ) → Contains numbers x → IsAdmitted a packages x → Contains new x
  pub no_more : (x : ℕ) → Contains new x → Contains old x ⊎ IsAdmitted a packages x

-- the name has a row in which the number stands
abbrev pub IsEntered : (List ℕ → Option ℕ) → List (List ℕ) → List ℕ → ℕ → Type 0
IsEntered slots rows name x = (s : ℕ) × (slots name ≡ Some s) × Contains (row_at rows s) x

-- nothing that was entered goes
pub record Grows (slots : List ℕ → Option ℕ) (rows : List (List ℕ)) (slots' : List ℕ → Option ℕ) (rows' : List (List ℕ)) : Type 0 where
  pub kept : (name : List ℕ) (x : ℕ) → IsEntered slots rows name x → IsEntered slots' rows' name x
  pub within : ((name : List ℕ) (s : ℕ) → slots name ≡ Some s → s < length rows) → (name : List ℕ) (s : ℕ) → slots' name ≡ Some s → s < length rows'

-- each package stands in the row of each name that it bears
pub record IsIndex (packages : List Package) (slots : List ℕ → Option ℕ) (rows : List (List ℕ)) : Type 0 where
  pub within : (name : List ℕ) (s : ℕ) → slots name ≡ Some s → s < length rows
  pub entered : (x : ℕ) (p : Package) (name : List ℕ) → x < length packages → slice_index_or packages x p ≡ p → IsTrue (bears name p) → IsEntered slots rows name x

-- what is kept: packages in name order, and the index of the names that they bear
pub record AreIndexed (packages : List Package) (slots : List ℕ → Option ℕ) (rows : List (List ℕ)) : Type 0 where
  pub ordered : AreInNameOrder packages
  pub index : IsIndex packages slots rows

-- the clauses were added, each with its owner and those that meet it
pub record HasStated (packages : List Package) (owner : ℕ) (stated : List (List Alternative)) (old new : List Clause) : Type 0 where
  pub kept : (c : Clause) → Contains old c → Contains new c
  pub added : (clause : List Alternative) → Contains stated clause → (c : Clause) × Contains new c × (c.owner ≡ owner) × AreMeeters packages clause c.meeters
  pub no_more : (c : Clause) → Contains new c → Contains old c ⊎ ((clause : List Alternative) × Contains stated clause × (c.owner ≡ owner) × AreMeeters packages clause c.meeters)
