-- What the parts of one file step leave (Policy 6.6, the files of an unpack).
use Rattle.std.specs.Prelude.{◌≡◌, ◌≢◌, ◌⊎◌, ◌+◌, ◌<◌, true, Option, Some, None, IsTrue, Result, Ok, Err}
use Rattle.host_core.specs.Paths.{Path}
use Rattle.host_core.specs.World.{World, HasParent, kind_of}
use Rattle.host_core.specs.Host.{State, denials}
use Rattle.host_core.specs.declared.fault.HostFault.{HostFault}
use Rattle.host_core.specs.declared.fault.HostFault.TheVariants.{Device, NoMemory, Declined}
use Rattle.host_core.specs.declared.node.Access.{Access}
use Rattle.host_core.specs.declared.node.Kind.TheVariants as kind
use Rattle.host_core.specs.declared.node.Node.TheVariants.{Dir}
use Rattle.administration.specs.Files.{KeepsBeside}
use Rattle.package_files.specs.declared.work.Work.{Work}
use Rattle.package_files.specs.Files.{Misses, cleared, saved}
use Rattle.package_files.specs.Free.{IsFreeIn, IsSeen}

-- nothing is left at a name but a directory
pub record IsCleared (path : Path) (old new : World) : Type 0 where
  pub there : new path ≡ cleared (old path)
  pub rest : KeepsBeside path old new

-- all but the two spare names of a work is as before
abbrev pub KeepsBesideSpares : Work → World → World → Type 0
KeepsBesideSpares x old now = (q : Path) → q ≢ x.backup → q ≢ x.fresh → now q ≡ old q

-- nothing is left at the two spare names of a work but directories
pub record AreCleared (x : Work) (old new : World) : Type 0 where
  pub backup : new x.backup ≡ cleared (old x.backup)
  pub fresh : new x.fresh ≡ cleared (old x.fresh)
  pub rest : KeepsBesideSpares x old new

-- a path can be written, in a directory that is there, and its spare names are cleared
pub record IsReady (x : Work) (w : World) : Type 0 where
  pub free : IsFreeIn w x
  pub backup : cleared (w x.backup) ≡ w x.backup
  pub fresh : cleared (w x.fresh) ≡ w x.fresh
  pub parent : HasParent w x.place

-- what stands at the target stands at the backup too
pub record IsSaved (x : Work) (old new : World) : Type 0 where
  pub backup : new x.backup ≡ saved true (old x.target) (old x.backup)
  pub rest : KeepsBeside x.backup old new

-- a step was declined
abbrev pub OnDeclined : {T : Type 0} → Result T HostFault → Type 0 → Type 0
OnDeclined (Ok x) P = Unit {0}
OnDeclined (Err Device) P = Unit {0}
OnDeclined (Err NoMemory) P = Unit {0}
OnDeclined (Err Declined) P = P

-- a call of which a step is declined leaves this
abbrev pub Tries : {T : Type 0} → Result T HostFault → (World → World → Type 0) → State → State → Type 0
Tries result P old new = IsTrue new.honest → OnDeclined result (P old.world new.world)

-- files or links may stand at the two spare names of a work, or be gone there, and all else is as before
pub record HasBegun (x : Work) (old new : World) : Type 0 where
  pub backup : cleared (new x.backup) ≡ cleared (old x.backup)
  pub fresh : cleared (new x.fresh) ≡ cleared (old x.fresh)
  pub rest : KeepsBesideSpares x old new

-- a directory was to take the place of a file, which has the backup's name alone
pub record IsMadeRoom (x : Work) (old new : World) : Type 0 where
  pub node : (access : Access) × (x.node ≡ Dir access)
  pub over : Some kind.File ≡ kind_of (old x.target)
  pub spare : cleared (old x.backup) ≡ None
  pub target : new x.target ≡ None
  pub backup : new x.backup ≡ old x.target
  pub fresh : cleared (new x.fresh) ≡ cleared (old x.fresh)
  pub rest : (q : Path) → Misses x q → new q ≡ old q

-- what is left of a path of which a step was declined
abbrev pub HasTried : Work → World → World → Type 0
HasTried x old new = HasBegun x old new ⊎ IsMadeRoom x old new

-- it was tried from the world was
pub record WasTriedFrom (x : Work) (was mid : World) : Type 0 where
  pub seen : IsSeen was x
  pub tried : HasTried x was mid

abbrev pub WasTried : Work → World → Type 0
WasTried x mid = (was : World) × WasTriedFrom x was mid

-- Declined is told only where two steps were declined: one, and one of what was to undo that
abbrev pub DeclinesTwice : {T : Type 0} → Result T HostFault → State → State → Type 0
DeclinesTwice (Ok x) old new = Unit {0}
DeclinesTwice (Err Device) old new = Unit {0}
DeclinesTwice (Err NoMemory) old new = Unit {0}
DeclinesTwice (Err Declined) old new = denials old + 1 < denials new
