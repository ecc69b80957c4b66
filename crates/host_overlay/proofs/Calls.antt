-- What the calls of an overlay leave of what it keeps.
use Rattle.std.proofs.Common.{◌≡◌, ◌∙◌, List, [], ◌∷◌, ◌++◌, Result, Ok, Err, refl, ap}
use Rattle.std.specs.Prelude.{IsTrue, OnOk, OnErr}
use Rattle.host_core.specs.Events.{Event, Did, Finished, follow_all}
use Rattle.host_core.specs.Host.{State, Happens, ran_of}
use Rattle.host_core.specs.Unsynced.{KeepsSettled}
use Rattle.host_core.specs.World.{Step}
use Rattle.host_core.specs.declared.call.Call.{Call}
use Rattle.host_core.specs.declared.call.Outcome.{Outcome}
use Rattle.host_core.specs.declared.host.Host.{Ghosts}
use Rattle.host_core.proofs.Losses.{settled_event}
use Rattle.host_core.proofs.Moments.{follow_all-append}
use Rattle.host_overlay.specs.Able.{CanDo}
use Rattle.host_overlay.specs.Layers.{changed_in, events_in}
use Rattle.host_overlay.specs.Overlays.{begun_state, below_state}
use Rattle.host_overlay.specs.Standings.{Changed, Becomes, Stays}
use Rattle.host_overlay.specs.declared.failing.AssumedFailure.{AssumedFailure}
use Rattle.host_overlay.specs.declared.overlay.Overlay.{Overlay}
use Rattle.host_overlay.proofs.Foreseen.{IsForeseen, foreseen_on, foreseen_same}
use Rattle.host_overlay.proofs.Sound.{Sound, sound_step, sound_stays, sound_call, over}
use Rattle.host_overlay.proofs.Telling.{Makes}

-- what an overlay keeps
pub sound_of : {H : Type 0} {host : Ghosts H} (o : Overlay H host) → Sound (begun_state o) (below_state o) (changed_in o.layer) (events_in o.layer)
sound_of o = record { world = o.world; failures = o.failures; honest = o.honest; tree = o.tree; settled = o.settled; there = o.there }

pub seen_of : {H : Type 0} {host : Ghosts H} (o : Overlay H host) → IsForeseen (events_in o.layer) o.failing.items
seen_of o = record { went = o.went; rest = o.rest }

-- a step that is made, or wants memory
pub sound_done : {A B : Type 0} (r : Result A B) (s : Step) (begun below : State) (m n : Changed) (es new : List Event) → Sound begun below m es → Makes m es
    → (IsTrue below.honest → CanDo s (follow_all es begun.world)) → (IsTrue below.honest → KeepsSettled es s)
    → OnOk r (Becomes s m n) → OnOk r (new ≡ es ++ Did s ∷ []) → OnErr r (Stays s m n) → OnErr r (new ≡ es) → Sound begun below n new
sound_done (Ok x) s begun below m n es new sound makes can keeps becomes told stays untold = sound_step begun below m n es new sound s makes can keeps becomes told
sound_done (Err e) s begun below m n es new sound makes can keeps becomes told stays untold = sound_stays begun below m n es new sound s makes can stays untold

-- a step that was made
pub step_happens : (s : Step) (begun below : State) (es new : List Event) → new ≡ es ++ Did s ∷ [] → Happens (Did s ∷ []) (over begun below es) (over begun below new)
step_happens s begun below es new is = record { honest = λ h. h; world = ap (λ (l : List Event). follow_all l begun.world) is ∙ follow_all-append es (Did s ∷ []) begun.world; events = is }

-- a call that was told
pub call_happens : (call : Call) (outcome : Outcome) (begun below : State) (es new : List Event) → new ≡ es ++ Finished (ran_of call outcome []) ∷ [] → Happens (Finished (ran_of call outcome []) ∷ []) (over begun below es) (over begun below new)
call_happens call outcome begun below es new is = record { honest = λ h. h; world = ap (λ (l : List Event). follow_all l begun.world) is ∙ follow_all-append es (Finished (ran_of call outcome []) ∷ []) begun.world; events = is }

pub sound_called : (call : Call) (outcome : Outcome) (begun below : State) (m n : Changed) (es new : List Event) → Sound begun below m es → n ≡ m → new ≡ es ++ Finished (ran_of call outcome []) ∷ [] → Sound begun below n new
sound_called call outcome begun below m n es new sound changes is = sound_call begun below m n es new sound changes (Finished (ran_of call outcome [])) (λ w. refl)
    (λ settled. settled_event es (Finished (ran_of call outcome [])) tt settled) is

pub foreseen_done : {A B : Type 0} (r : Result A B) (s : Step) (es new : List Event) (left : List AssumedFailure) → OnOk r (new ≡ es ++ Did s ∷ []) → OnErr r (new ≡ es) → IsForeseen es left → IsForeseen new left
foreseen_done (Ok x) s es new left told untold seen = foreseen_on es new (Did s) left refl refl told seen
foreseen_done (Err e) s es new left told untold seen = foreseen_same es new left untold seen
