-- What a loss of power leaves where the disk keeps what is done to the names of one directory in order, and no order between two
-- directories.
use Rattle.std.specs.Prelude.{◌≡◌, Bool, true, false, List, [], ◌∷◌, ◌++◌, nat_eq, cond, ◌&&◌}
use Rattle.std.specs.List.{list_any}
use Rattle.std.specs.Str.{bytes_eq}
use Rattle.host_core.specs.Paths.{Path}
use Rattle.host_core.specs.World.{World, Change, SameOn}
use Rattle.host_core.specs.Events.{Event, follow_all, changes_of}
use Rattle.host_core.specs.Unsynced.{unsynced}
use Rattle.host_core.specs.Host.{State}
use Rattle.host_core.specs.Loss.{writes, HasNoBarrier, IsBlurred, IsMoment, LosesSince}

abbrev pub has_slash : Path → Bool
has_slash path = list_any (nat_eq 47) path

-- the directory in which a path has its name: what stands before its last slash
abbrev pub parent_of : Path → Path
parent_of [] = []
parent_of (b ∷ rest) = cond (has_slash rest) (b ∷ parent_of rest) []

-- whether a path has its name in a directory
abbrev pub is_in : Path → Path → Bool
is_in directory path = bytes_eq (parent_of path) directory

-- the kept paths in a directory
abbrev pub within : (Path → Bool) → Path → Path → Bool
within kept directory path = kept path && is_in directory path

-- What such a loss leaves after these events, which happened since `old`, when all was on the disk. Up to a point behind which there
-- is no barrier all is on the disk; of what came later each directory has a front, whichever another one has, and the rest is lost.
-- So a rename or a second name between two directories is in both, in one or in none. An unsynced file may have any bytes; of paths
-- that the scripts wrote nothing is said.
pub record IsScattered (wrote : Change) (old : State) (moment : List Event) (left : World) : Type 0 where
  pub durable : List Event
  pub late : List Event
  pub split : moment ≡ durable ++ late
  pub unflushed : HasNoBarrier late
  pub front : Path → List Event
  pub rest : Path → List Event
  pub fronts : (directory : Path) → late ≡ front directory ++ rest directory
  pub whole : (q : Path) → writes wrote q ≡ false → unsynced (old.events ++ (durable ++ front (parent_of q))) q ≡ false
      → left q ≡ follow_all (durable ++ front (parent_of q)) old.world q
  pub bytes : (q : Path) → writes wrote q ≡ false → unsynced (old.events ++ (durable ++ front (parent_of q))) q ≡ true
      → IsBlurred (follow_all (durable ++ front (parent_of q)) old.world q) (left q)

-- such a loss at a moment from old to new, in a session that began before; the scripts are those of the whole session
pub record LosesScattered (begun old new : State) (left : World) : Type 0 where
  pub earlier : List Event
  pub session : old.events ≡ begun.events ++ earlier
  pub added : List Event
  pub events : new.events ≡ old.events ++ added
  pub moment : List Event
  pub is : IsMoment added moment
  pub loss : IsScattered (changes_of (earlier ++ moment)) old moment left

-- what is left in a directory is what a loss leaves there on a disk that keeps one order of all names
pub record IsLeftInOrder (begun old new : State) (directory : Path) (left : World) : Type 0 where
  pub ordered : World
  pub loses : LosesSince begun old new ordered
  pub same : SameOn (is_in directory) ordered left
