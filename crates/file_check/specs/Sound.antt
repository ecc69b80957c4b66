-- The first step fault of shipped paths, or none (Policy 6.6, unpacking).
use Rattle.std.specs.Prelude.{◌≡◌, ◌⊎◌, ℕ, Bool, true, false, List, [], ◌∷◌, Option, Some, None}
use Rattle.host_core.specs.Paths.{Path}
use Rattle.host_core.specs.World.{World}
use Rattle.diversions.specs.Targets.{owner_name}
use Rattle.diversions.specs.declared.entry.Diversion.{Diversion}
use Rattle.undo_rows.specs.declared.fall.StepFault.{StepFault}
use Rattle.undo_rows.specs.declared.fall.StepFault.TheVariants.{LinkParent, NoParent, DirInWay, Clash, DiversionTarget, Declined}
use Rattle.package_files.specs.declared.work.Work.{Work}
use Rattle.file_check.specs.declared.above.Above.{Above}
use Rattle.file_check.specs.declared.above.Above.TheVariants as above
use Rattle.file_check.specs.Above.{HasLink, Lacks, IsClear}
use Rattle.file_check.specs.InWay.{in_way_at}
use Rattle.file_check.specs.Clashes.{Owning, clash_at}
use Rattle.file_check.specs.Targets.{IsTargetOf, diversion_to}
use Rattle.file_check.specs.Index.{is_made, is_twice}

module _ (o : Owning) (made twice : Path → Bool) (w : World) where
  -- a path has no step fault
  pub record IsSound (s : Work) : Type 0 where
    pub above : IsClear made w s.place
    pub way : in_way_at o w s ≡ false
    pub clash : clash_at o twice w s ≡ None
    pub target : diversion_to o s ≡ None

  -- The fault of a path, told by its shipped path: a parent is a link; none is, and one is no directory and becomes none; a
  -- directory is in the way; it clashes; another path is diverted to it. The first of these is told. That a step is declined is seen
  -- when it is made.
  abbrev pub IsFaultOf : Work → StepFault → Type 0
  IsFaultOf s (LinkParent p) = (p ≡ s.path) × HasLink w s.place
  IsFaultOf s (NoParent p) = (p ≡ s.path) × (HasLink w s.place → ⊥) × Lacks made w s.place
  IsFaultOf s (DirInWay p) = (p ≡ s.path) × IsClear made w s.place × (in_way_at o w s ≡ true)
  IsFaultOf s (Clash p owner) = (p ≡ s.path) × IsClear made w s.place × (in_way_at o w s ≡ false) × (clash_at o twice w s ≡ Some owner)
  IsFaultOf s (DiversionTarget p diverter) =
      (p ≡ s.path) × IsClear made w s.place × (in_way_at o w s ≡ false) × (clash_at o twice w s ≡ None) × IsTargetOf o s diverter
  IsFaultOf s (Declined p) = ⊥

  abbrev pub AreSound : List Work → Type 0
  AreSound [] = Unit {0}
  AreSound (s ∷ ss) = IsSound s × AreSound ss

  -- the fault of the first path that has one
  abbrev pub IsFirstOf : List Work → StepFault → Type 0
  IsFirstOf [] fault = ⊥
  IsFirstOf (s ∷ ss) fault = IsFaultOf s fault ⊎ (IsSound s × IsFirstOf ss fault)

-- no path has a step fault
abbrev pub AllSound : Owning → List Work → World → Type 0
AllSound o works w = AreSound o (is_made works w) (is_twice works) w works

-- the first step fault of the paths, in the order of the list
abbrev pub IsFirstFault : Owning → List Work → World → StepFault → Type 0
IsFirstFault o works w fault = IsFirstOf o (is_made works w) (is_twice works) w works fault

-- the first fault that these give
abbrev pub fault_by : Path → Above → Bool → Option (List ℕ) → Option Diversion → Option StepFault
fault_by p above.Link way clash diversion = Some (LinkParent p)
fault_by p above.Lacking way clash diversion = Some (NoParent p)
fault_by p above.Directories true clash diversion = Some (DirInWay p)
fault_by p above.Directories false (Some owner) diversion = Some (Clash p owner)
fault_by p above.Directories false None (Some d) = Some (DiversionTarget p (owner_name d.owner))
fault_by p above.Directories false None None = None
