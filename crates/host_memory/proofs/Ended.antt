-- A script call that ended, as an event.
use Rattle.std.proofs.Common.{◌≡◌, List, false, refl}
use Rattle.host_core.specs.World.{World, Change, changed}
use Rattle.host_core.specs.Events.{Event, follow}
use Rattle.host_core.specs.Loss.{is_barrier}
use Rattle.host_core.proofs.Losses.{EventKeepsSettled}
use Rattle.host_core.specs.declared.call.Call.{Call}
use Rattle.host_memory.specs.declared.change.Ending.{Ending}
use Rattle.host_memory.specs.declared.change.Ending.TheVariants.{Ended, CutOff}
use Rattle.host_memory.specs.Doings.{how_ended}
use Rattle.host_memory.specs.Losing.{is_naming}

pub ended_owes : (events : List Event) (call : Call) (ending : Ending) (change : Change) → EventKeepsSettled events (how_ended call ending change)
ended_owes events call (Ended outcome) change = tt
ended_owes events call CutOff change = tt

pub ended_flushes : (call : Call) (ending : Ending) (change : Change) → is_barrier (how_ended call ending change) ≡ false
ended_flushes call (Ended outcome) change = refl
ended_flushes call CutOff change = refl

pub ended_names : (call : Call) (ending : Ending) (change : Change) → is_naming (how_ended call ending change) ≡ false
ended_names call (Ended outcome) change = refl
ended_names call CutOff change = refl

pub ended_changes : (call : Call) (ending : Ending) (change : Change) (w : World) → follow (how_ended call ending change) w ≡ changed change w
ended_changes call (Ended outcome) change w = refl
ended_changes call CutOff change w = refl
