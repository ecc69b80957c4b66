-- Who awaits what isn't pending any more ceases to, behind the turns (dpkg's `Triggers-Awaited`).
use Rattle.std.specs.Prelude.{◌≡◌, Bool, IsSome, List, ◌++◌, Some, None}
use Rattle.host_core.specs.Host.{State}
use Rattle.record_changes.specs.Awaits.{settled_awaits}
use Rattle.trigger_chains.specs.declared.wishes.Wish.{Wish}
use Rattle.unit_reports.specs.Held.{Held}
use Rattle.unit_reports.specs.declared.report.Report.{Report}
use Rattle.unit_reports.specs.declared.report.Unit.{Unit as AUnit}
use Rattle.trigger_turns.specs.Turns.{HasChanged, HasTurned, IsBlind}

-- Behind these units it was noted by the records; or nothing was, for want of memory.
pub data HasSettled (us : List AUnit) (done : Report) (before after : Held) (s end : State) : Type 0 where
  noted : (noted : Report) → HasChanged (settled_awaits before.records.records) noted before after s end → done.units.items ≡ us ++ noted.units.items → done.last ≡ noted.last → HasSettled us done before after s end
  unnoted : (u : AUnit) → IsBlind u before after s end → done.units.items ≡ us → done.last ≡ Some u → HasSettled us done before after s end

-- What was wished for was processed in turns, and then that was noted, unless a turn was broken off.
pub data HasProcessedPending (wishes : List Wish) (takes : Bool) (done : Report) (before after : Held) (s end : State) : Type 0 where
  broken : HasTurned wishes takes done before after s end → IsSome done.last → HasProcessedPending wishes takes done before after s end
  settled : (turned : Report) (mid : Held) (m : State) → HasTurned wishes takes turned before mid s m → turned.last ≡ None → HasSettled turned.units.items done mid after m end → HasProcessedPending wishes takes done before after s end
