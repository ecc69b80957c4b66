-- Files that are synced, and links that are made.
use Rattle.std.proofs.Common.{◌≡◌, false, Result, Ok, Err}
use Rattle.std.specs.Prelude.{OnOk}
use Rattle.host_core.specs.Host.{State, Does}
use Rattle.host_core.specs.Paths.{Path}
use Rattle.host_core.specs.Unsynced.{unsynced}
use Rattle.host_core.specs.World.{MakeLink, Sync, SyncAll}
use Rattle.host_core.specs.declared.fault.HostFault.{HostFault}
use Rattle.host_core.proofs.Losses.{all_synced_by, synced_by, made_link_synced}

pub sync_tells : {T : Type 0} (r : Result T HostFault) (p : Path) (old new : State) → Does (Sync p) old new r → OnOk r (unsynced new.events p ≡ false)
sync_tells (Ok x) p old new does = synced_by old.events new.events p does.events
sync_tells (Err e) p old new does = tt

pub all_sync_tells : {T : Type 0} (r : Result T HostFault) (old new : State) → Does SyncAll old new r → OnOk r ((q : Path) → unsynced new.events q ≡ false)
all_sync_tells (Ok x) old new does = all_synced_by old.events new.events does.events
all_sync_tells (Err e) old new does = tt

pub link_tells : {T : Type 0} (r : Result T HostFault) (p t : Path) (old new : State) → Does (MakeLink p t) old new r → OnOk r (unsynced new.events p ≡ false)
link_tells (Ok x) p t old new does = made_link_synced old.events new.events p t does.events
link_tells (Err e) p t old new does = tt
