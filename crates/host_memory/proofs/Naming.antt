-- Steps on names.
use Rattle.std.proofs.Common.{◌≡◌, ◌∙◌, ◌++◌, ◌∷◌, [], true, false, refl, sym, ap}
use Rattle.std.specs.Prelude.{cond}
use Rattle.std.proofs.lemmas.Bool.{false≢true}
use Rattle.host_core.specs.World.{Step, Write, Move, Take, MakeDir, RemoveDir, HardLink, MakeLink, Sync, Barrier, SyncAll, SyncRoot, Lower, World, after}
use Rattle.host_core.specs.Host.{State}
use Rattle.host_core.specs.Loss.{flushes}
use Rattle.host_memory.specs.declared.history.History.{History}
use Rattle.host_core.specs.Events.{Did}
use Rattle.host_memory.specs.Histories.{disk_state, history_state, on_disk_behind}
use Rattle.host_memory.specs.Losing.{names}

pub naming_flushes : (s : Step) → names s ≡ true → flushes s ≡ false
naming_flushes (Write p n) is = refl
naming_flushes (Move a b) is = refl
naming_flushes (Take p) is = refl
naming_flushes (MakeDir p m) is = refl
naming_flushes (RemoveDir p) is = refl
naming_flushes (HardLink a b) is = refl
naming_flushes (MakeLink p t) is = refl
naming_flushes (Sync p) is = refl
naming_flushes Barrier is = absurd (false≢true is)
naming_flushes SyncAll is = refl
naming_flushes SyncRoot is = absurd (false≢true is)
naming_flushes (Lower p) is = refl

-- a step that flushes nothing leaves on the disk what was there
pub disk_behind : (s : Step) (old : History) (now : State) → flushes s ≡ false → now ≡ disk_state old → now ≡ on_disk_behind s old
disk_behind s old now is same = same ∙ ap (λ b. cond b (record { honest = true; world = (history_state old).world; events = (history_state old).events ++ Did s ∷ [] }) (disk_state old)) (sym is)

-- and behind one that flushes all is there
pub disk_flushed : (s : Step) (old : History) (now : State) → flushes s ≡ true → now ≡ record { honest = true; world = (history_state old).world; events = (history_state old).events ++ Did s ∷ [] } → now ≡ on_disk_behind s old
disk_flushed s old now is same = same ∙ ap (λ b. cond b (record { honest = true; world = (history_state old).world; events = (history_state old).events ++ Did s ∷ [] }) (disk_state old)) (sym is)

-- a step that touches no name leaves the world as it is
pub nameless_world : (s : Step) (w : World) → names s ≡ false → after s w ≡ w
nameless_world (Write p n) w is = absurd (false≢true (sym is))
nameless_world (Move a b) w is = absurd (false≢true (sym is))
nameless_world (Take p) w is = absurd (false≢true (sym is))
nameless_world (MakeDir p m) w is = absurd (false≢true (sym is))
nameless_world (RemoveDir p) w is = absurd (false≢true (sym is))
nameless_world (HardLink a b) w is = absurd (false≢true (sym is))
nameless_world (MakeLink p t) w is = absurd (false≢true (sym is))
nameless_world (Sync p) w is = refl
nameless_world Barrier w is = refl
nameless_world SyncAll w is = refl
nameless_world SyncRoot w is = refl
nameless_world (Lower p) w is = absurd (false≢true (sym is))
