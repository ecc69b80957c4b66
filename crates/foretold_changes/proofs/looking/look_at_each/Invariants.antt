use Rattle.std.proofs.Common.{◌≡◌, ◌+◌, ◌≤◌, IsTrue, map, take}
use Rattle.std.specs.List.{AllByRecursion}
use Rattle.host_core.specs.Host.{Reads, faults}
use Rattle.host_overlay.specs.Overlays.{LooksThrough, begun_state, overlay_state}
use Rattle.host_overlay.specs.declared.changed_path.ChangedPath.{ChangedPath}
use Rattle.foretold_changes.specs.Changes.{IsFound, unread_paths}
use Rattle.foretold_changes.specs.declared.looking.LookedPath.{LookedPath}
use Rattle.foretold_changes.proofs.looking.look_at_each.Given as goal

abbrev pub invariant-loop-change : goal.invariant-loop-change
invariant-loop-change g l = record {
  paths : map (λ (x : LookedPath). x.path) l.looked.items ≡ map (λ (x : ChangedPath). x.path) (take l.change-index l.changed);
  found : IsTrue (overlay_state l.host).honest → AllByRecursion (IsFound (begun_state l.fn.host).world (overlay_state l.fn.host).world) l.looked.items;
  few : unread_paths l.looked.items + faults (overlay_state l.fn.host) ≤ faults (overlay_state l.host);
  reads : Reads (overlay_state l.fn.host) (overlay_state l.host);
  through : LooksThrough l.fn.host l.host;
}
