-- Which works can be written, and what was seen of them.
use Rattle.std.specs.Prelude.{◌≡◌, Option, Some, None, List}
use Rattle.host_core.specs.World.{World, kind_of}
use Rattle.host_core.specs.declared.node.Node.{Node}
use Rattle.host_core.specs.declared.node.Node.TheVariants.{File, Dir, Link}
use Rattle.package_files.specs.declared.work.Work.{Work}
use Rattle.package_files.specs.Files.{Each, HasWritten, cleared}

-- no directory stands at a name that is needed
abbrev pub IsFree : Node → (target backup fresh : Option Node) → Type 0
IsFree (Dir m) None b f = Unit {0}
IsFree (Dir m) (Some (File c k)) b f = cleared b ≡ None
IsFree (Dir m) (Some (Dir k)) b f = Unit {0}
IsFree (Dir m) (Some (Link l)) b f = Unit {0}
IsFree (File c m) None b f = (cleared b ≡ None) × (cleared f ≡ None)
IsFree (File c m) (Some (File d k)) b f = (cleared b ≡ None) × (cleared f ≡ None)
IsFree (File c m) (Some (Dir k)) b f = ⊥
IsFree (File c m) (Some (Link l)) b f = (cleared b ≡ None) × (cleared f ≡ None)
IsFree (Link t) None b f = (cleared b ≡ None) × (cleared f ≡ None)
IsFree (Link t) (Some (File d k)) b f = (cleared b ≡ None) × (cleared f ≡ None)
IsFree (Link t) (Some (Dir k)) b f = Unit {0}
IsFree (Link t) (Some (Link l)) b f = (cleared b ≡ None) × (cleared f ≡ None)

abbrev pub IsFreeIn : World → Work → Type 0
IsFreeIn w x = IsFree x.node (w x.target) (w x.backup) (w x.fresh)

-- what stood at the target is told
abbrev pub IsSeen : World → Work → Type 0
IsSeen w x = x.had ≡ kind_of (w x.target)

-- all was written from the world was, and stands so in the world mid
pub record IsWrittenFrom (works : List Work) (was mid : World) : Type 0 where
  pub free : Each (IsFreeIn was) works
  pub seen : Each (IsSeen was) works
  pub has : Each (HasWritten was mid) works
