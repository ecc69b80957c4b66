-- What is told last, and what it makes of a world.
use Rattle.std.proofs.Common.{◌≡◌, ◌∙◌, List, [], ◌∷◌, ◌++◌, map, Result, Ok, Err, sym, ap, subst}
use Rattle.std.proofs.lemmas.List.{map-append, append-nil}
use Rattle.host_core.specs.Events.{Event, Failed, follow, follow_all}
use Rattle.host_core.specs.Host.{AllFailed}
use Rattle.host_core.specs.Unsynced.{IsSettled}
use Rattle.host_core.specs.World.{World}
use Rattle.host_core.specs.declared.fault.HostFault.{HostFault}
use Rattle.host_core.specs.declared.fault.HostFault.TheVariants.{Device, NoMemory, Declined}
use Rattle.host_core.proofs.Losses.{settled_event}
use Rattle.host_core.proofs.Moments.{follow_all-append}
use Rattle.host_overlay.specs.Doings.{event_of}
use Rattle.host_overlay.specs.Layers.{failures_of}
use Rattle.host_overlay.specs.Standings.{Changed, overlaid}
use Rattle.host_overlay.specs.declared.done.Done.{Done}

pub told_last : (e : Event) (done : Done) (old roomy new : List Done) → event_of done ≡ e → roomy ≡ old → new ≡ roomy ++ done ∷ [] → map event_of new ≡ map event_of old ++ e ∷ []
told_last e done old roomy new is same added = ap (map event_of) (added ∙ ap (λ (l : List Done). l ++ done ∷ []) same) ∙ map-append event_of old (done ∷ []) ∙ ap (λ (x : Event). map event_of old ++ x ∷ []) is

-- the changes make of each world what the events make of it
abbrev pub Makes : Changed → List Event → Type 0
Makes m es = (w : World) → overlaid m w ≡ follow_all es w

pub makes_more : (m n : Changed) (es new : List Event) (e : Event) → Makes m es → ((w : World) → overlaid n w ≡ follow e (overlaid m w)) → new ≡ es ++ e ∷ [] → Makes n new
makes_more m n es new e makes goes is w = goes w ∙ ap (follow e) (makes w) ∙ sym (follow_all-append es (e ∷ []) w) ∙ ap (λ (l : List Event). follow_all l w) (sym is)

pub makes_same : (m n : Changed) (es new : List Event) → Makes m es → ((w : World) → overlaid n w ≡ overlaid m w) → new ≡ es → Makes n new
makes_same m n es new makes goes is w = goes w ∙ makes w ∙ ap (λ (l : List Event). follow_all l w) (sym is)

-- the failures that an answer tells

pub failures_failed : {T : Type 0} (r : Result T HostFault) → AllFailed (failures_of r)
failures_failed (Ok x) = tt
failures_failed (Err Device) = tt
failures_failed (Err NoMemory) = tt
failures_failed (Err Declined) = tt

pub told_world : {T : Type 0} (r : Result T HostFault) (es new : List Event) → new ≡ es ++ failures_of r → (w : World) → follow_all new w ≡ follow_all es w
told_world (Ok x) es new is w = ap (λ (l : List Event). follow_all l w) (is ∙ append-nil es)
told_world (Err Device) es new is w = ap (λ (l : List Event). follow_all l w) is ∙ follow_all-append es (Failed ∷ []) w
told_world (Err NoMemory) es new is w = ap (λ (l : List Event). follow_all l w) (is ∙ append-nil es)
told_world (Err Declined) es new is w = ap (λ (l : List Event). follow_all l w) (is ∙ append-nil es)

pub told_settled : {T : Type 0} (r : Result T HostFault) (es new : List Event) → new ≡ es ++ failures_of r → IsSettled es → IsSettled new
told_settled (Ok x) es new is settled = subst IsSettled (sym (is ∙ append-nil es)) settled
told_settled (Err Device) es new is settled = subst IsSettled (sym is) (settled_event es Failed tt settled)
told_settled (Err NoMemory) es new is settled = subst IsSettled (sym (is ∙ append-nil es)) settled
told_settled (Err Declined) es new is settled = subst IsSettled (sym (is ∙ append-nil es)) settled
