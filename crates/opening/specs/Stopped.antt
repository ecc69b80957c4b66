-- What a command that was stopped has left is brought to the disk first.
use Rattle.std.specs.Prelude.{◌≡◌, ◌⊎◌, List, [], ◌∷◌, ◌++◌, IsSome, IsTrue, Result, Ok, Err}
use Rattle.host_core.specs.World.{World, IsBare, SyncRoot}
use Rattle.host_core.specs.Events.{Event, Did, Finished, Cut, Failed, Denied}
use Rattle.host_core.specs.Host.{State, AllFailed}
use Rattle.administration.specs.Places.{tmp_path, updates_path}

-- a command was stopped: what a unit lays out is there, or a note
abbrev pub WasStopped : World → Type 0
WasStopped w = IsSome (w tmp_path) ⊎ (IsBare w updates_path → ⊥)

-- all that stands under the root was brought to the disk before any other step was made, or a script called
abbrev pub BeginsOnDisk : State → State → Type 0
BeginsOnDisk old new = (fs rest : List Event) × AllFailed fs × (new.events ≡ old.events ++ (fs ++ Did SyncRoot ∷ rest))

-- no step was made, and no script called
abbrev pub AreIdle : List Event → Type 0
AreIdle [] = Unit {0}
AreIdle (Did step ∷ es) = ⊥
AreIdle (Finished ran ∷ es) = ⊥
AreIdle (Cut call change ∷ es) = ⊥
AreIdle (Failed ∷ es) = AreIdle es
AreIdle (Denied path ∷ es) = AreIdle es

-- that was done first, or nothing else either
abbrev pub BeginsOnDiskIfAtAll : State → State → Type 0
BeginsOnDiskIfAtAll old new = BeginsOnDisk old new ⊎ ((es : List Event) × AreIdle es × (new.events ≡ old.events ++ es))

-- that nothing was done is told as a fault
abbrev pub IsBrought : {T E : Type 0} → Result T E → State → State → Type 0
IsBrought (Ok x) old new = BeginsOnDisk old new
IsBrought (Err e) old new = BeginsOnDiskIfAtAll old new

-- what holds where a command was stopped before
abbrev pub AfterAStop : (State → State → Type 0) → State → State → Type 0
AfterAStop P old new = IsTrue new.honest → WasStopped old.world → P old new
