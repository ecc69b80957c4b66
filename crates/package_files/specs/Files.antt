-- What the files of a package leave at their places, as relations of the worlds before and after.
use Rattle.std.specs.Prelude.{◌≡◌, ◌≢◌, ◌⊎◌, Bool, true, false, List, [], ◌∷◌, Option, Some, None, IsTrue}
use Rattle.host_core.specs.Paths.{Path}
use Rattle.host_core.specs.World.{World, IsBare, IsDirectory}
use Rattle.host_core.specs.declared.node.Access.{Access}
use Rattle.host_core.specs.declared.node.Node.{Node}
use Rattle.host_core.specs.declared.node.Node.TheVariants.{File, Dir, Link}
use Rattle.package_files.specs.declared.work.Work.{Work}

-- Whether a shipped node is written where this stands: a directory that is there, or a link in its place, stays, and so does
-- a directory in a link's place (Policy 6.6, links to directories).
abbrev pub is_written : Node → Option Node → Bool
is_written (Dir m) None = true
is_written (Dir m) (Some (File b k)) = true
is_written (Dir m) (Some (Dir k)) = false
is_written (Dir m) (Some (Link l)) = false
is_written (File b m) None = true
is_written (File b m) (Some (File c k)) = true
is_written (File b m) (Some (Dir k)) = false
is_written (File b m) (Some (Link l)) = true
is_written (Link t) None = true
is_written (Link t) (Some (File c k)) = true
is_written (Link t) (Some (Dir k)) = false
is_written (Link t) (Some (Link l)) = true

-- what stays of a node at a reserved name: a directory
abbrev pub cleared : Option Node → Option Node
cleared None = None
cleared (Some (File b m)) = None
cleared (Some (Dir m)) = Some (Dir m)
cleared (Some (Link t)) = None

-- what the target has, whether or not it is written, and what it had
abbrev pub shown : Bool → Node → Option Node → Option Node
shown true node had = Some node
shown false node had = had

-- what the backup has, from what the target had and the backup
abbrev pub saved : Bool → Option Node → Option Node → Option Node
saved true (Some n) spare = Some n
saved true None spare = cleared spare
saved false had spare = cleared spare

abbrev pub Each : (Work → Type 0) → List Work → Type 0
Each P [] = Unit {0}
Each P (x ∷ xs) = P x × Each P xs

-- a path at which this work does nothing
pub record Misses (x : Work) (q : Path) : Type 0 where
  pub target : q ≢ x.target
  pub backup : q ≢ x.backup
  pub fresh : q ≢ x.fresh

-- The target has the shipped node, the backup what was at the target, and no other node but a directory is at the reserved
-- names.
pub record HasWritten (old new : World) (x : Work) : Type 0 where
  pub target : new x.target ≡ shown (is_written x.node (old x.target)) x.node (old x.target)
  pub backup : new x.backup ≡ saved (is_written x.node (old x.target)) (old x.target) (old x.backup)
  pub fresh : new x.fresh ≡ cleared (old x.fresh)

-- the files are written, and all else is as before
pub record Written (works : List Work) (old new : World) : Type 0 where
  pub each : Each (HasWritten old new) works
  pub rest : (q : Path) → Each (λ x. Misses x q) works → new q ≡ old q

-- all is as it was, and the reserved names are cleared
pub record IsBack (old new : World) (x : Work) : Type 0 where
  pub target : new x.target ≡ old x.target
  pub backup : new x.backup ≡ cleared (old x.backup)

-- a directory that was made stays, since something stays below it, and so does a file whose place it took
pub record Stays (old new : World) (x : Work) : Type 0 where
  pub made : (access : Access) × (x.node ≡ Dir access)
  pub was : IsTrue (is_written x.node (old x.target))
  pub target : new x.target ≡ Some x.node
  pub backup : new x.backup ≡ saved true (old x.target) (old x.backup)
  pub below : IsBare new x.target → ⊥

pub record HasPutBack (old new : World) (x : Work) : Type 0 where
  pub is : IsBack old new x ⊎ Stays old new x
  pub fresh : new x.fresh ≡ cleared (old x.fresh)

-- written from the world old, the files are put back from the world mid
pub record PutBack (works : List Work) (old mid new : World) : Type 0 where
  pub each : Each (HasPutBack old new) works
  pub rest : (q : Path) → Each (λ x. Misses x q) works → new q ≡ mid q

-- at a reserved name stands what stood there, or what is left of it
abbrev pub IsSpared : Option Node → Option Node → Type 0
IsSpared old new = (new ≡ old) ⊎ (new ≡ cleared old)

-- the path isn't written: its target is as it was
pub record IsUnwritten (old new : World) (x : Work) : Type 0 where
  pub target : new x.target ≡ old x.target
  pub backup : IsSpared (old x.backup) (new x.backup)

-- nothing is left of what was begun of it, but a directory that stays
pub record HasUndone (old new : World) (x : Work) : Type 0 where
  pub is : IsUnwritten old new x ⊎ Stays old new x
  pub fresh : IsSpared (old x.fresh) (new x.fresh)

-- a step of one of these paths was declined; those that were written are put back, and all else is as before
pub record Undone (works : List Work) (old new : World) : Type 0 where
  pub each : Each (HasUndone old new) works
  pub rest : (q : Path) → Each (λ x. Misses x q) works → new q ≡ old q

-- the shipped node stands there; the access of a directory is set last
abbrev pub IsShown : Node → Option Node → Type 0
IsShown (File b m) there = there ≡ Some (File b m)
IsShown (Dir m) there = IsDirectory there
IsShown (Link t) there = there ≡ Some (Link t)

-- At any moment the target has what it had or the shipped node, never a part of one, and what it had is at the target or the
-- backup. It is missing only where a directory takes the place of a file.
pub data IsWhole (old now : World) (x : Work) : Type 0 where
  before : now x.target ≡ old x.target → IsWhole old now x
  between : (access : Access) → x.node ≡ Dir access → IsTrue (is_written x.node (old x.target))
      → now x.target ≡ None → now x.backup ≡ old x.target → IsWhole old now x
  behind : IsTrue (is_written x.node (old x.target)) → IsShown x.node (now x.target)
      → now x.backup ≡ saved true (old x.target) (old x.backup) → IsWhole old now x

-- of files written from the world old, at a moment of work that began in the world mid
pub record IsAmid (works : List Work) (old mid now : World) : Type 0 where
  pub each : Each (IsWhole old now) works
  pub rest : (q : Path) → Each (λ x. Misses x q) works → now q ≡ mid q
