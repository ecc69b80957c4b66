-- New files at their temporary names, before they take the places of what stands at their targets.
use Rattle.std.specs.Prelude.{◌≡◌, ◌≢◌, ◌⊎◌, Bool, true, false, List, [], ◌∷◌, Option, Some, None}
use Rattle.host_core.specs.Paths.{Path}
use Rattle.host_core.specs.World.{World, is_directory}
use Rattle.host_core.specs.Events.{Event}
use Rattle.host_core.specs.Unsynced.{unsynced}
use Rattle.host_core.specs.declared.node.Kind.{Kind}
use Rattle.host_core.specs.declared.node.Kind.TheVariants as kind
use Rattle.host_core.specs.declared.node.Node.{Node}
use Rattle.host_core.specs.declared.node.Node.TheVariants.{File, Dir, Link}
use Rattle.package_files.specs.declared.work.Work.{Work}
use Rattle.package_files.specs.Files.{Each, Misses, HasWritten, Written, PutBack, Undone, IsAmid, saved}
use Rattle.package_files.specs.Free.{IsFreeIn, IsSeen}

-- whether a file or link takes the place of what was seen: of all but a directory
abbrev pub is_replaced : Option Kind → Bool
is_replaced None = true
is_replaced (Some kind.File) = true
is_replaced (Some kind.Directory) = false
is_replaced (Some kind.SymbolicLink) = true

-- whether it is a file or link that takes a place
abbrev pub is_exchanged : Node → Option Kind → Bool
is_exchanged (File b m) had = is_replaced had
is_exchanged (Dir m) had = false
is_exchanged (Link t) had = is_replaced had

-- the new node stands at the temporary name, what stands at the target at the backup too, and the target is as it was
pub record IsLaid (old now : World) (x : Work) : Type 0 where
  pub target : now x.target ≡ old x.target
  pub backup : now x.backup ≡ saved true (old x.target) (old x.backup)
  pub fresh : now x.fresh ≡ Some x.node

abbrev pub IsPreparedAs : Bool → World → World → Work → Type 0
IsPreparedAs true old now x = IsLaid old now x
IsPreparedAs false old now x = HasWritten old now x

-- what takes a place is laid, all else is written
abbrev pub HasPrepared : World → World → Work → Type 0
HasPrepared old now x = IsPreparedAs (is_exchanged x.node x.had) old now x

-- the files are prepared, and all else is as before
pub record Prepared (works : List Work) (old new : World) : Type 0 where
  pub each : Each (HasPrepared old new) works
  pub rest : (q : Path) → Each (λ x. Misses x q) works → new q ≡ old q

-- as far as it has come: it is written or prepared
abbrev pub IsUnderWay : World → World → Work → Type 0
IsUnderWay old now x = HasWritten old now x ⊎ HasPrepared old now x

-- all have come so far from the world was, and stand so in the world mid
pub record IsUnderWayFrom (works : List Work) (was mid : World) : Type 0 where
  pub free : Each (IsFreeIn was) works
  pub seen : Each (IsSeen was) works
  pub has : Each (IsUnderWay was mid) works

abbrev pub CanUndo : List Work → World → Type 0
CanUndo works w = (was : World) × IsUnderWayFrom works was w

-- whatever they have come from, they are put back to that
abbrev pub Undoes : List Work → World → World → Type 0
Undoes works old new = (was : World) → IsUnderWayFrom works was old → PutBack works was old new

-- and are whole at each moment
abbrev pub IsUndoing : List Work → World → World → Type 0
IsUndoing works old now = (was : World) → IsUnderWayFrom works was old → IsAmid works was old now

-- a file or link stands at its temporary name, and nothing is in its way
pub record CanTakePlace (x : Work) (w : World) : Type 0 where
  pub loose : is_directory (Some x.node) ≡ false
  pub seen : IsSeen w x
  pub over : is_directory (w x.target) ≡ false
  pub fresh : w x.fresh ≡ Some x.node

-- it has taken its place, and all else is as before
pub record HasTakenPlace (x : Work) (old new : World) : Type 0 where
  pub target : new x.target ≡ Some x.node
  pub fresh : new x.fresh ≡ None
  pub rest : (q : Path) → q ≢ x.target → q ≢ x.fresh → new q ≡ old q

abbrev pub CanTake : Bool → Work → World → Type 0
CanTake true x w = CanTakePlace x w
CanTake false x w = Unit {0}

-- so is what takes a place
abbrev pub CanCommit : Work → World → Type 0
CanCommit x w = CanTake (is_exchanged x.node x.had) x w

abbrev pub Takes : Bool → Work → World → World → Type 0
Takes true x old new = HasTakenPlace x old new
Takes false x old new = new ≡ old

-- what takes a place has taken it
abbrev pub Commits : Work → World → World → Type 0
Commits x old new = Takes (is_exchanged x.node x.had) x old new

-- at any moment all is as before, or the new node has taken its place
abbrev pub IsTakingPlace : Work → World → World → Type 0
IsTakingPlace x old now = (now ≡ old) ⊎ HasTakenPlace x old now

abbrev pub IsTaking : Bool → Work → World → World → Type 0
IsTaking true x old now = IsTakingPlace x old now
IsTaking false x old now = now ≡ old

-- so of what takes a place; nothing changes at all else
abbrev pub IsCommitting : Work → World → World → Type 0
IsCommitting x old now = IsTaking (is_exchanged x.node x.had) x old now

-- all have been prepared from the world was, and stand so in the world mid
pub record IsPreparedFrom (works : List Work) (was mid : World) : Type 0 where
  pub free : Each (IsFreeIn was) works
  pub seen : Each (IsSeen was) works
  pub prepared : Prepared works was mid

abbrev pub CanCommitAll : List Work → World → Type 0
CanCommitAll works w = (was : World) × IsPreparedFrom works was w

-- they are whole at each moment
abbrev pub AreCommitting : List Work → World → World → Type 0
AreCommitting works old now = (was : World) → IsPreparedFrom works was old → IsAmid works was was now

-- all are written, or where one isn't nothing is left of any
abbrev pub CommitsAll : {T : Type 0} → Option T → List Work → World → World → Type 0
CommitsAll None works old new = (was : World) → IsPreparedFrom works was old → Written works was new
CommitsAll (Some k) works old new = (was : World) → IsPreparedFrom works was old → Undone works was new

-- no file stands anywhere that was written and not synced since
abbrev pub AllSynced : List Event → Type 0
AllSynced events = (q : Path) → unsynced events q ≡ false

-- all is as before
abbrev pub IsSame : World → World → Type 0
IsSame old new = (q : Path) → new q ≡ old q
