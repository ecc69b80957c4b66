-- What has to stand on a root before a step is made.
use Rattle.std.specs.Prelude.{◌≡◌, None}
use Rattle.host_core.specs.World.{World, Step, Write, Move, Take, MakeDir, RemoveDir, HardLink, MakeLink, Sync, Barrier, SyncAll, SyncRoot, Lower, IsBare, IsDirectory, IsFile, IsLoose, HasParent}

abbrev pub CanDo : Step → World → Type 0
CanDo (Write p n) w = IsFile n × (w p ≡ None) × HasParent w p
CanDo (Move a b) w = IsLoose (w a) × (IsDirectory (w b) → ⊥) × HasParent w b
CanDo (Take p) w = IsLoose (w p)
CanDo (MakeDir p m) w = (w p ≡ None) × HasParent w p
CanDo (RemoveDir p) w = IsDirectory (w p) × IsBare w p
CanDo (HardLink a b) w = IsLoose (w a) × (w b ≡ None) × HasParent w b
CanDo (MakeLink p t) w = (w p ≡ None) × HasParent w p
CanDo (Sync p) w = IsLoose (w p)
CanDo Barrier w = Unit {0}
CanDo SyncAll w = Unit {0}
CanDo SyncRoot w = Unit {0}
CanDo (Lower p) w = IsLoose (w p)
