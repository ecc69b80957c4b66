-- Where an unsynced file comes from.
use Rattle.std.specs.Prelude.{Bool, false, List, Option, Some, None}
use Rattle.std.specs.List.{list_any}
use Rattle.std.specs.Str.{bytes_eq}
use Rattle.host_core.specs.Paths.{Path}
use Rattle.host_core.specs.World.{Step, Write, Move, Take, MakeDir, RemoveDir, HardLink, MakeLink, Sync, Barrier, SyncAll, SyncRoot, Lower}
use Rattle.host_core.specs.Events.{Event, Did, Finished, Cut, Failed, Denied}
use Rattle.host_memory.specs.declared.unsynced.Trace.{Trace}
use Rattle.host_memory.specs.declared.unsynced.Trace.TheVariants.{Known, From}

-- whether an unsynced file stands at a path behind an event, by the paths at which one stood before
abbrev pub told_by : Trace → (Path → Bool) → Bool
told_by (Known unsynced) u = unsynced
told_by (From path) u = u path.now

-- where a step puts a file
abbrev pub target_of : Step → Option Path
target_of (Write p n) = Some p
target_of (Move a b) = Some b
target_of (Take p) = None
target_of (MakeDir p m) = None
target_of (RemoveDir p) = None
target_of (HardLink a b) = Some b
target_of (MakeLink p t) = None
target_of (Sync p) = None
target_of Barrier = None
target_of SyncAll = None
target_of SyncRoot = None
target_of (Lower p) = None

abbrev pub event_target : Event → Option Path
event_target (Did s) = target_of s
event_target (Finished ran) = None
event_target (Cut call change) = None
event_target Failed = None
event_target (Denied path) = None

abbrev pub is_at : Option Path → Path → Bool
is_at None q = false
is_at (Some p) q = bytes_eq p q

-- the event puts a file there
abbrev pub is_target : Event → Path → Bool
is_target e q = is_at (event_target e) q

-- one of these events does
abbrev pub is_targeted : List Event → Path → Bool
is_targeted es q = list_any (λ e. is_target e q) es
