-- What a history tells.
use Rattle.std.specs.Prelude.{◌≡◌, ◌<◌, ◌≤◌, ◌+◌, ℕ, Bool, true, List, [], ◌∷◌, ◌++◌, Option, Some, None, map, take, drop, cond, vec_len, vec_capacity}
use Rattle.std.specs.BTreeMap.{get_by_text}
use Rattle.host_core.specs.Paths.{Path}
use Rattle.host_core.specs.World.{World, Change, Step}
use Rattle.host_core.specs.Events.{Event, Did, Failed, follow_all}
use Rattle.host_core.specs.Unsynced.{unsynced}
use Rattle.host_core.specs.Loss.{flushes}
use Rattle.host_core.specs.Host.{State, Happens}
use Rattle.host_core.specs.declared.call.Call.{Call}
use Rattle.host_memory.specs.declared.change.Ending.{Ending}
use Rattle.host_memory.specs.Changes.{Carries}
use Rattle.host_memory.specs.Doings.{event_of, how_ended}
use Rattle.host_memory.specs.Losing.{Survives, left_of}
use Rattle.host_memory.specs.declared.history.History.{History}

abbrev pub history_state : History → State
history_state h = record {
  honest = true;
  world = get_by_text h.files.nodes;
  events = map event_of h.events.items;
}

-- how it was when all was on the disk
abbrev pub disk_state : History → State
disk_state h = record {
  honest = true;
  world = get_by_text h.disk.nodes;
  events = take h.flushed (map event_of h.events.items);
}

-- what happened since
abbrev pub since_disk : History → List Event
since_disk h = drop h.flushed (map event_of h.events.items)

-- one event more can be told without taking memory
abbrev pub HasRoom : History → Type 0
HasRoom h = vec_len h.events < vec_capacity h.events

-- two events more, and what stood before one
pub record HasAllRoom (h : History) : Type 0 where
  pub events : vec_len h.events + 2 ≤ vec_capacity h.events
  pub pasts : vec_len h.pasts < vec_capacity h.pasts

-- this happened, and what was on the disk stays that
pub record Goes (event : Event) (old new : History) : Type 0 where
  pub happened : Happens (event ∷ []) (history_state old) (history_state new)
  pub disk : disk_state new ≡ disk_state old

-- nothing happened
pub record IsAsBefore (old new : History) : Type 0 where
  pub state : history_state new ≡ history_state old
  pub disk : disk_state new ≡ disk_state old

-- all is on the disk
abbrev pub IsOnDisk : History → Type 0
IsOnDisk h = disk_state h ≡ history_state h

-- how it was when all was on the disk, seen from behind a step: behind one that brings all there that is now, else it was before
abbrev pub on_disk_behind : Step → History → State
on_disk_behind step old = cond (flushes step) (record { honest = true; world = (history_state old).world; events = (history_state old).events ++ Did step ∷ [] }) (disk_state old)

-- a step was made
pub record Steps (step : Step) (old new : History) : Type 0 where
  pub happened : Happens (Did step ∷ []) (history_state old) (history_state new)
  pub disk : disk_state new ≡ on_disk_behind step old

-- a fault behind what was done of a step
abbrev pub broken_off : Option Step → List Event
broken_off None = Failed ∷ []
broken_off (Some part) = Did part ∷ Failed ∷ []

abbrev pub DiskBroken : Option Step → History → History → Type 0
DiskBroken None old new = disk_state new ≡ disk_state old
DiskBroken (Some part) old new = disk_state new ≡ on_disk_behind part old

-- the device failed behind what was done of a step
pub record Breaks (part : Option Step) (old new : History) : Type 0 where
  pub happened : Happens (broken_off part) (history_state old) (history_state new)
  pub disk : DiskBroken part old new

-- a call ended so, and did of a planned change what may be done
pub record RunsSo (kept : Path → Bool) (call : Call) (ending : Ending) (planned : Change) (old new : History) : Type 0 where
  pub change : Change
  pub carries : Carries kept (history_state old).world planned change
  pub goes : Goes (how_ended call ending change) old new

-- A loss leaves what stood behind some events since all was on the disk, with at most `keep` steps on names; a file that was
-- written and not synced until then has one byte throughout.
pub record IsLeft (keep fill : ℕ) (h : History) (world : World) : Type 0 where
  pub count : ℕ
  pub survives : Survives keep (since_disk h) count
  pub left : (q : Path) → world q ≡ left_of fill (unsynced ((disk_state h).events ++ take count (since_disk h)) q) (follow_all (take count (since_disk h)) (disk_state h).world q)
