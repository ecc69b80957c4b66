-- The calls of a removal are those of the host's own list.
use Rattle.std.proofs.Common.{ℕ, Bool, List, refl}
use Rattle.undo_rows.proofs.Tellings.{begun_calls}
use Rattle.host_core.specs.Host.{State}
use Rattle.removal_engine.specs.Units.{Given, HasCalled}
use Rattle.removal_run.proofs.Removals.{silent_calls}
use Rattle.removal_run.specs.Units.{HasCalledRemoving, given_by}
use Rattle.unit_reports.specs.Held.{Held}
use Rattle.unit_stages.specs.Calls.{MayRunStages}
use Rattle.undo_rows.proofs.Makes.{tells_none, tells_then}
use Rattle.undo_rows.specs.Transcript.{TellsAll}
use Rattle.undo_rows.specs.declared.rows.Called.{Called}

called_tells : (g : Given) (s t : State) (told now : List Called) → HasCalled g s t told now → TellsAll s t told now
called_tells g s t told now (HasCalled.unplanned silent same) = tells_none s t told now (silent_calls s t silent) same
called_tells g s t told now (HasCalled.planned stages plan begun) = let made = begun_calls (MayRunStages stages) s t told now begun in (made.0, made.2, made.3.1)

pub removing_tells : (purge : Bool) (name : List ℕ) (before : Held) (s t : State) (told now : List Called) → HasCalledRemoving purge name before s t told now → TellsAll s t told now
removing_tells purge name before s t told now called =
    tells_then s called.m t told now now (called_tells (given_by purge name before) s called.m told now called.called) (tells_none called.m t now now (silent_calls called.m t called.silent) refl)
