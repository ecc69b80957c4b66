-- A file that is taken away lends no rights when it goes, so that no other name of it does afterwards.
use Rattle.std.specs.Prelude.{◌≡◌, List, [], ◌∷◌, ◌++◌, IsTrue}
use Rattle.host_core.specs.World.{World, Step, Write, Move, Take, MakeDir, RemoveDir, HardLink, MakeLink, Sync, Barrier, SyncAll, SyncRoot, Lower, lowered}
use Rattle.host_core.specs.Events.{Event, Did, Finished, Cut, Failed, Denied, follow, follow_all}
use Rattle.host_core.specs.Host.{State}

-- what a step takes away lends no rights
abbrev pub TakesLowered : World → Step → Type 0
TakesLowered w (Write p n) = Unit {0}
TakesLowered w (Move a b) = Unit {0}
TakesLowered w (Take p) = lowered (w p) ≡ w p
TakesLowered w (MakeDir p m) = Unit {0}
TakesLowered w (RemoveDir p) = Unit {0}
TakesLowered w (HardLink a b) = Unit {0}
TakesLowered w (MakeLink p t) = Unit {0}
TakesLowered w (Sync p) = Unit {0}
TakesLowered w Barrier = Unit {0}
TakesLowered w SyncAll = Unit {0}
TakesLowered w SyncRoot = Unit {0}
TakesLowered w (Lower p) = Unit {0}

-- so does each of these steps, one after another
abbrev pub AllTakeLowered : World → List Event → Type 0
AllTakeLowered w [] = Unit {0}
AllTakeLowered w (Did s ∷ es) = TakesLowered w s × AllTakeLowered (follow (Did s) w) es
AllTakeLowered w (Finished ran ∷ es) = AllTakeLowered (follow (Finished ran) w) es
AllTakeLowered w (Cut call change ∷ es) = AllTakeLowered (follow (Cut call change) w) es
AllTakeLowered w (Failed ∷ es) = AllTakeLowered w es
AllTakeLowered w (Denied path ∷ es) = AllTakeLowered w es

-- from one state to another
pub record TookLowered (old new : State) : Type 0 where
  pub added : List Event
  pub events : new.events ≡ old.events ++ added
  pub honest : IsTrue new.honest → IsTrue old.honest
  pub world : new.world ≡ follow_all added old.world
  pub lowered : IsTrue new.honest → AllTakeLowered old.world added
