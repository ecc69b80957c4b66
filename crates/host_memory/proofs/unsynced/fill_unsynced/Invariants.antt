use Rattle.std.proofs.Common.{◌≡◌, ◌&&◌, map, take}
use Rattle.std.specs.BTreeMap.{get_by_text}
use Rattle.host_core.specs.Paths.{Path}
use Rattle.host_core.specs.Unsynced.{unsynced}
use Rattle.host_memory.specs.Doings.{event_of}
use Rattle.host_memory.specs.Losing.{left_of}
use Rattle.host_memory.specs.Traces.{is_targeted}
use Rattle.host_memory.proofs.unsynced.fill_unsynced.Given as goal

abbrev pub invariant-loop-done : goal.invariant-loop-done
invariant-loop-done l = (q : Path) → get_by_text l.files.nodes q ≡ left_of l.fill (is_targeted (map event_of (take l.done-index l.events)) q && unsynced (map event_of l.events) q) (get_by_text l.initial.files.nodes q)
