-- What was done over a host below, and what that changed.
use Rattle.std.specs.Prelude.{◌≡◌, ◌<◌, List, [], ◌∷◌, Result, Ok, Err, map, vec_len, vec_capacity}
use Rattle.std.specs.BTreeMap.{get_by_text}
use Rattle.host_core.specs.Events.{Event, Failed}
use Rattle.host_core.specs.declared.fault.HostFault.{HostFault}
use Rattle.host_core.specs.declared.fault.HostFault.TheVariants.{Device, NoMemory, Declined}
use Rattle.host_overlay.specs.Doings.{event_of}
use Rattle.host_overlay.specs.Standings.{Changed}
use Rattle.host_overlay.specs.declared.layer.Layer.{Layer}

abbrev pub changed_in : Layer → Changed
changed_in layer = get_by_text layer.changes.map

abbrev pub events_in : Layer → List Event
events_in layer = map event_of layer.events.items

-- one event more can be told without taking memory
abbrev pub HasRoom : Layer → Type 0
HasRoom layer = vec_len layer.events < vec_capacity layer.events

pub record IsSameLayer (old new : Layer) : Type 0 where
  pub events : events_in new ≡ events_in old
  pub changes : changed_in new ≡ changed_in old

-- the failure of the device that an answer tells
abbrev pub failures_of : {T : Type 0} → Result T HostFault → List Event
failures_of (Ok x) = []
failures_of (Err Device) = Failed ∷ []
failures_of (Err NoMemory) = []
failures_of (Err Declined) = []
