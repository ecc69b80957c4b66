-- Which listed paths of a package are taken away, and what is left (Policy 6.6: files of the old version that the new one lacks; 6.8).
use Rattle.std.specs.Prelude.{◌≡◌, ◌⊎◌, ℕ, Bool, true, false, List, [], ◌∷◌, ◌++◌, Option, None, IsSome, IsTrue, Contains, Result, OnOk}
use Rattle.std.specs.Ordering.{nat_cmp}
use Rattle.std.specs.Cmp.Lexicographic.{slice_cmp}
use Rattle.std.specs.declared.cmp.Ordering.TheVariants.{Less}
use Rattle.host_core.specs.Paths.{Path}
use Rattle.host_core.specs.Tree.{IsBelow}
use Rattle.host_core.specs.World.{World, IsBare, IsDirectory, IsLoose, lowered}
use Rattle.host_core.specs.Host.{State, WasDenied}
use Rattle.host_core.specs.declared.node.Node.{Node}
use Rattle.file_removal.specs.declared.leaving.Leaving.{Leaving}

-- Whether a directory stays when a removal comes to it behind these later paths.
abbrev pub Staying : Type 0
Staying = (later : List Leaving) → Path → Bool

-- A path goes by a list: by the later paths of the list, or as the place of the first, which may go. Then a file or link stands
-- there, where more than directories are taken, or a directory that doesn't stay, each node below which goes by the later paths.
abbrev pub GoesBy : Staying → Bool → World → List Leaving → Path → Type 0
GoesBy stays directories_only old [] p = ⊥
GoesBy stays directories_only old (x ∷ xs) p = GoesBy stays directories_only old xs p ⊎ ((x.place ≡ p) × IsTrue x.goes
    × (((directories_only ≡ false) × IsLoose (old p))
    ⊎ (IsDirectory (old p) × (stays xs p ≡ false)
    × ((rest : List ℕ) → IsSome (old (p ++ 47 ∷ rest)) → GoesBy stays directories_only old xs (p ++ 47 ∷ rest)))))

-- no directory stays that could go
abbrev pub none_stays : Staying
none_stays later p = false

-- what goes is gone, and all else is as before
pub record RemovedBy (stays : Staying) (directories_only : Bool) (xs : List Leaving) (old new : World) : Type 0 where
  pub each : (p : Path) → (GoesBy stays directories_only old xs p × (new p ≡ None)) ⊎ ((GoesBy stays directories_only old xs p → ⊥) × (new p ≡ old p))

-- what is seen of a node that is going: it is gone, or it is a file that lends its rights no more
abbrev pub IsGoing : Option Node → Option Node → Type 0
IsGoing before now = (now ≡ None) ⊎ (now ≡ lowered before)

-- at each moment: a path is as before, or it goes; below a directory that is gone nothing is left
pub record IsRemovingBy (directories_only : Bool) (xs : List Leaving) (old now : World) : Type 0 where
  pub each : (p : Path) → (now p ≡ old p) ⊎ (GoesBy none_stays directories_only old xs p × IsGoing (old p) (now p))
  pub below : (p : Path) → IsDirectory (old p) → now p ≡ None → IsBare now p

-- Listed paths were taken away; of the directories that could go only those stayed, with what is above them, whose removal was
-- declined: a mount point, say.
abbrev pub RemovedUnless : (declined : Path → Type 0) → Bool → List Leaving → World → World → Type 0
RemovedUnless declined directories_only xs old new =
    (stays : Staying) × ((later : List Leaving) (p : Path) → stays later p ≡ true → declined p) × RemovedBy stays directories_only xs old new

-- whatever was declined: what holds so holds of each removal
abbrev pub any_path : Path → Type 0
any_path p = Unit {0}

-- files, links and directories
abbrev pub Removed : (declined : Path → Type 0) → List Leaving → World → World → Type 0
Removed declined xs old new = RemovedUnless declined false xs old new

abbrev pub IsRemoving : List Leaving → World → World → Type 0
IsRemoving xs old now = IsRemovingBy false xs old now

-- directories alone: a file or link at a place stays
abbrev pub RemovedDirectories : (declined : Path → Type 0) → List Leaving → World → World → Type 0
RemovedDirectories declined xs old new = RemovedUnless declined true xs old new

abbrev pub IsRemovingDirectories : List Leaving → World → World → Type 0
IsRemovingDirectories xs old now = IsRemovingBy true xs old now

-- removed by a call from one state to another
abbrev pub LeavesRemoved : {T E : Type 0} → Result T E → Bool → List Leaving → State → State → Type 0
LeavesRemoved result directories_only xs old new =
    IsTrue new.honest → OnOk result (RemovedUnless (WasDenied old new) directories_only xs old.world new.world)

-- the removal of a file or link was declined, where more than directories are taken
abbrev pub LooseDenied : Bool → State → State → Type 0
LooseDenied directories_only old new =
    (directories_only ≡ false) × (IsTrue new.honest → (p : Path) × IsLoose (old.world p) × WasDenied old new p)

-- no listed path that may go has its place there
abbrev pub IsSpared : List Leaving → Path → Type 0
IsSpared xs q = (x : Leaving) → Contains xs x → IsTrue x.goes → (x.place ≡ q → ⊥)

-- a directory is listed before what is below it
abbrev pub AllAboveFirst : List Leaving → Type 0
AllAboveFirst [] = Unit {0}
AllAboveFirst (x ∷ xs) = ((y : Leaving) → Contains xs y → IsBelow y.place x.place → ⊥) × AllAboveFirst xs

-- each place stands before the later ones in the order of bytes
abbrev pub AreInOrder : List Leaving → Type 0
AreInOrder [] = Unit {0}
AreInOrder (x ∷ xs) = ((y : Leaving) → Contains xs y → slice_cmp nat_cmp x.place y.place ≡ Less) × AreInOrder xs
