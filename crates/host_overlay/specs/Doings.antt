-- What was done, as the list of events has it.
use Rattle.std.specs.Prelude.{[]}
use Rattle.host_core.specs.World.{Step, Write, Move, Take, MakeDir, RemoveDir, HardLink, MakeLink, Sync, Barrier, SyncAll, SyncRoot, Lower}
use Rattle.host_core.specs.Events.{Event, Did, Finished, Cut, Failed}
use Rattle.host_core.specs.Host.{ran_of}
use Rattle.host_overlay.specs.Failing.{call_for}
use Rattle.host_overlay.specs.declared.done.DeviceStep.{DeviceStep}
use Rattle.host_overlay.specs.declared.done.DeviceStep.TheVariants as device
use Rattle.host_overlay.specs.declared.done.Done.{Done}
use Rattle.host_overlay.specs.declared.done.Done.TheVariants as done
use Rattle.host_overlay.specs.declared.failing.AssumedFailure.{AssumedFailure}

abbrev pub step_of : DeviceStep → Step
step_of (device.Write p n) = Write p n
step_of (device.Move a b) = Move a b
step_of (device.Take p) = Take p
step_of (device.MakeDir p m) = MakeDir p m
step_of (device.RemoveDir p) = RemoveDir p
step_of (device.HardLink a b) = HardLink a b
step_of (device.MakeLink p t) = MakeLink p t
step_of (device.Sync p) = Sync p
step_of device.Barrier = Barrier
step_of device.SyncAll = SyncAll
step_of device.SyncRoot = SyncRoot
step_of (device.Lower p) = Lower p

-- a call that is assumed to fail, as it is foretold
abbrev pub told_for : AssumedFailure → Done
told_for failure = done.Foretold (call_for failure)

-- a call changes nothing
abbrev pub event_of : Done → Event
event_of (done.Did step) = Did (step_of step)
event_of (done.Finished made) = Finished (ran_of made.call made.outcome [])
event_of done.Failed = Failed
event_of (done.Foretold call) = Cut call []
