-- What an overlay tells of itself, and what its calls do to it and to the host below.
use Rattle.std.specs.Prelude.{◌≡◌, List, IsTrue, Result, Ok, Err, Contains, is_some, map}
use Rattle.std.specs.List.{IsDistinct}
use Rattle.std.specs.Str.{bytes_eq}
use Rattle.host_core.specs.Events.{follow_all}
use Rattle.host_core.specs.Host.{State, Silent, Counts, Does, Reads}
use Rattle.host_core.specs.Looks.{Looks}
use Rattle.host_core.specs.Paths.{Path}
use Rattle.host_core.specs.Tree.{IsTree}
use Rattle.host_core.specs.Unsynced.{IsSettled}
use Rattle.host_core.specs.World.{World, Step}
use Rattle.host_core.specs.declared.call.Call.{Call}
use Rattle.host_core.specs.declared.call.Outcome.{Outcome}
use Rattle.host_core.specs.declared.fault.HostFault.{HostFault}
use Rattle.host_core.specs.declared.host.Host.{Ghosts}
use Rattle.host_overlay.specs.Failing.{outcome_of, left_of}
use Rattle.host_overlay.specs.Layers.{events_in}
use Rattle.host_overlay.specs.TreeLaws.{IsTree-from_test}
use Rattle.host_overlay.specs.declared.changed_path.ChangedPath.{ChangedPath}
use Rattle.host_overlay.specs.declared.failing.AssumedFailure.{AssumedFailure}
use Rattle.host_overlay.specs.declared.overlay.Overlay.{Overlay}

module _ {H : Type 0} {host : Ghosts H} where
  -- the host below as it was when it was put below
  abbrev pub begun_state : Overlay H host → State
  begun_state o = host.state o.begun.value

  -- and as it is
  abbrev pub below_state : Overlay H host → State
  below_state o = host.state o.below

  -- as honest as the host below, and with the world that the overlay's events make of that which it was put over
  abbrev pub overlay_state : Overlay H host → State
  overlay_state o = record {
    honest = (below_state o).honest;
    world = follow_all (events_in o.layer) (begun_state o).world;
    events = events_in o.layer;
  }

  -- the calls that are still assumed to fail
  abbrev pub assumed : Overlay H host → List AssumedFailure
  assumed o = o.failing.items

  pub overlay_tree : (o : Overlay H host) → IsTrue (overlay_state o).honest → IsTree (overlay_state o).world
  overlay_tree o honest = IsTree-from_test (overlay_state o).world (o.tree honest)

  pub overlay_settled : (o : Overlay H host) → IsTrue (overlay_state o).honest → IsSettled (overlay_state o).events
  overlay_settled o honest = o.settled honest

  -- of each of these paths, which are told once, it is told whether something stands there; at all others stands what stood there below
  pub record TellsChanges (o : Overlay H host) (told : List ChangedPath) : Type 0 where
    pub once : IsDistinct bytes_eq (map (λ (x : ChangedPath). x.path) told)
    pub stands : IsTrue (overlay_state o).honest → (x : ChangedPath) → Contains told x → x.stands ≡ is_some ((overlay_state o).world x.path)
    pub whole : (q : Path) → ((x : ChangedPath) → Contains told x → x.path ≡ q → ⊥) → (overlay_state o).world q ≡ (begun_state o).world q

  -- no call was made on the host below
  pub record IsUntouched (old new : Overlay H host) : Type 0 where
    pub below : new.below ≡ old.below
    pub begun : begun_state new ≡ begun_state old

  -- the host below was only looked at, and no script of its was called
  pub record LooksThrough (old new : Overlay H host) : Type 0 where
    pub reads : Reads (below_state old) (below_state new)
    pub silent : Silent (below_state old) (below_state new)
    pub begun : begun_state new ≡ begun_state old
    pub assumed : assumed new ≡ assumed old

  -- a step is made over the host below, and not on it
  pub record MakesStep {T : Type 0} (step : Step) (old new : Overlay H host) (result : Result T HostFault) : Type 0 where
    pub does : Does step (overlay_state old) (overlay_state new) result
    pub silent : Silent (overlay_state old) (overlay_state new)
    pub counts : Counts (overlay_state old) (overlay_state new) result
    pub untouched : IsUntouched old new
    pub assumed : assumed new ≡ assumed old

  -- it is looked at, through to the host below where nothing was changed
  pub record LooksOver {T : Type 0} (result : Result T HostFault) (P : T → World → Type 0) (old new : Overlay H host) : Type 0 where
    pub looks : Looks result P (overlay_state old) (overlay_state new)
    pub through : LooksThrough old new

  -- a call ends as it is assumed to, and an assumption that was met is none any more
  abbrev pub CallsAsAssumed : Call → Overlay H host → Overlay H host → Result Outcome HostFault → Type 0
  CallsAsAssumed call old new (Ok outcome) = (outcome ≡ outcome_of (assumed old) call) × (assumed new ≡ left_of (assumed old) call)
  CallsAsAssumed call old new (Err fault) = assumed new ≡ assumed old
