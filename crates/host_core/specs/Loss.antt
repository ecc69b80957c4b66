-- What a loss of power leaves.
use Rattle.std.specs.Prelude.{◌≡◌, ◌⊎◌, ℕ, Bool, true, false, List, [], ◌∷◌, ◌++◌, Option, Some, None, ◌&&◌, not}
use Rattle.std.specs.List.{list_any}
use Rattle.std.specs.Str.{bytes_eq}
use Rattle.host_core.specs.Paths.{Path}
use Rattle.host_core.specs.World.{World, Change, Avoids, Step, Write, Move, Take, MakeDir, RemoveDir, HardLink, MakeLink, Sync, Barrier, SyncAll, SyncRoot, Lower}
use Rattle.host_core.specs.Events.{Event, Did, Finished, Cut, Failed, Denied, follow_all, IsCutOf, changes_of}
use Rattle.host_core.specs.Unsynced.{unsynced, is_temporary}
use Rattle.host_core.specs.Host.{State, Reads, AllFailed, Since}
use Rattle.host_core.specs.declared.node.Node.{Node}
use Rattle.host_core.specs.declared.node.Node.TheVariants.{File, Dir, Link}

-- whether a change has a path
abbrev pub writes : Change → Path → Bool
writes change path = list_any (λ e. bytes_eq e.0 path) change

abbrev pub flushes : Step → Bool
flushes Barrier = true
flushes (Write p n) = false
flushes (Move a b) = false
flushes (Take p) = false
flushes (MakeDir p m) = false
flushes (RemoveDir p) = false
flushes (HardLink a b) = false
flushes (MakeLink p t) = false
flushes (Sync p) = false
flushes SyncAll = false
flushes SyncRoot = true
flushes (Lower p) = false

abbrev pub is_barrier : Event → Bool
is_barrier (Did s) = flushes s
is_barrier (Finished ran) = false
is_barrier (Cut call change) = false
is_barrier Failed = false
is_barrier (Denied path) = false

abbrev pub HasNoBarrier : List Event → Type 0
HasNoBarrier [] = Unit {0}
HasNoBarrier (e ∷ es) = (is_barrier e ≡ false) × HasNoBarrier es

-- the last thing that was done is a barrier; behind it the device may have failed at what was read
abbrev pub IsOnDisk : List Event → Type 0
IsOnDisk events = (most fs : List Event) × (events ≡ most ++ Did Barrier ∷ fs) × AllFailed fs

-- the node, or where it is a file one of its access with any bytes
abbrev pub IsBlurred : Option Node → Option Node → Type 0
IsBlurred None left = left ≡ None
IsBlurred (Some (File bytes access)) left = (other : List ℕ) × (left ≡ Some (File other access))
IsBlurred (Some (Dir access)) left = left ≡ Some (Dir access)
IsBlurred (Some (Link target)) left = left ≡ Some (Link target)

-- what had happened when the machine stopped: a front of these events, the last perhaps in part
abbrev pub IsMoment : List Event → List Event → Type 0
IsMoment events moment = ((later : List Event) × (events ≡ moment ++ later))
    ⊎ ((done later : List Event) × (event part : Event) × (events ≡ done ++ event ∷ later) × IsCutOf event part × (moment ≡ done ++ part ∷ []))

-- What a loss leaves after these events, which happened since `old`, when all was on the disk. Up to a point behind which
-- there is no barrier they are on the disk, then a front survives, and the rest is lost. An unsynced file may have any bytes;
-- of paths that the scripts wrote nothing is said, since a barrier brings no file of theirs to the disk.
pub record IsLoss (wrote : Change) (old : State) (moment : List Event) (left : World) : Type 0 where
  pub durable : List Event
  pub front : List Event
  pub rest : List Event
  pub split : moment ≡ durable ++ (front ++ rest)
  pub late : HasNoBarrier (front ++ rest)
  pub whole : (q : Path) → writes wrote q ≡ false → unsynced (old.events ++ (durable ++ front)) q ≡ false
      → left q ≡ follow_all (durable ++ front) old.world q
  pub bytes : (q : Path) → writes wrote q ≡ false → unsynced (old.events ++ (durable ++ front)) q ≡ true
      → IsBlurred (follow_all (durable ++ front) old.world q) (left q)

-- a loss at a moment from old to new, in a session that began before; the scripts are those of the whole session
pub record LosesSince (begun old new : State) (left : World) : Type 0 where
  pub earlier : List Event
  pub session : old.events ≡ begun.events ++ earlier
  pub added : List Event
  pub events : new.events ≡ old.events ++ added
  pub moment : List Event
  pub is : IsMoment added moment
  pub loss : IsLoss (changes_of (earlier ++ moment)) old moment left

-- on kept paths what is left is as in a world, apart from the bytes at temporary names
pub record IsLike (kept : Path → Bool) (world left : World) : Type 0 where
  pub whole : (q : Path) → kept q ≡ true → is_temporary q ≡ false → left q ≡ world q
  pub bytes : (q : Path) → kept q ≡ true → is_temporary q ≡ true → IsBlurred (world q) (left q)

-- P looks at kept paths alone, and at no bytes of temporary names
abbrev pub IsBlind : (Path → Bool) → (World → Type 0) → Type 0
IsBlind kept P = (world left : World) → IsLike kept world left → P world → P left

-- the kept paths that no script wrote
abbrev pub unwritten : (Path → Bool) → Change → Path → Bool
unwritten kept wrote path = kept path && not (writes wrote path)

-- the scripts that were called since wrote no kept path
pub record ScriptsAvoid (kept : Path → Bool) (old new : State) : Type 0 where
  pub wrote : Change
  pub changes : changes_of new.events ≡ changes_of old.events ++ wrote
  pub avoids : Avoids kept wrote

-- from old to new a world was there that is like what is left
pub record IsLikeAStop (kept : Path → Bool) (old new : State) (left : World) : Type 0 where
  pub added : List Event
  pub events : new.events ≡ old.events ++ added
  pub stop : List Event
  pub is : IsMoment added stop
  pub avoids : Avoids kept (changes_of stop)
  pub like : IsLike kept (follow_all stop old.world) left

-- a loss at a moment from mid to new, seen from old
pub record LosesBehind (begun old mid new : State) (left : World) : Type 0 where
  pub earlier : List Event
  pub session : old.events ≡ begun.events ++ earlier
  pub first : List Event
  pub later : List Event
  pub events : mid.events ≡ old.events ++ first
  pub world : mid.world ≡ follow_all first old.world
  pub more : new.events ≡ mid.events ++ later
  pub moment : List Event
  pub is : IsMoment later moment
  pub loss : IsLoss (changes_of (earlier ++ (first ++ moment))) old (first ++ moment) left

-- like a world in which P holds of what was done until then; what scripts did of it is at no kept path
abbrev pub IsLikeOne : (Path → Bool) → (List Event → World → Type 0) → World → Type 0
IsLikeOne kept P left = (stop : List Event) × (world : World) × P stop world × Avoids kept (changes_of stop) × IsLike kept world left

-- a later moment of the same host
abbrev pub IsLater : State → State → Type 0
IsLater old new = Since (λ so_far w. Unit {0}) old new

-- a command that has answered: the last thing that it did was a barrier, or it only looked
abbrev pub IsAnswered : State → State → Type 0
IsAnswered old mid = IsOnDisk mid.events ⊎ Reads old mid
