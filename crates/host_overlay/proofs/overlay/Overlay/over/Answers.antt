use Rattle.std.proofs.Common.{List, [], refl, sym, subst, ap}
use Rattle.host_core.specs.Events.{Event, follow_all}
use Rattle.host_core.specs.Unsynced.{IsSettled}
use Rattle.host_core.proofs.Losses.{settled_none}
use Rattle.host_overlay.specs.Layers.{changed_in, events_in}
use Rattle.host_overlay.specs.Standings.{Changed, AreThere}
use Rattle.host_overlay.specs.declared.failing.AssumedFailure.{AssumedFailure}
use Rattle.host_overlay.proofs.Foreseen.{IsForeseen, foreseen_none}
use Rattle.host_overlay.proofs.Sound.{Sound, sound_new}
use Rattle.host_overlay.proofs.overlay.Overlay.over.Goals as goal

pub invariant_of-result : goal.invariant_of-result
invariant_of-result g c =
    let s = g.H.Host.state c.args.below in
    let es = events_in c.new.result in
    let none = c.new.ensures.events in
    let there = subst (λ (m : Changed). AreThere m s.world) (sym c.new.ensures.changes) (λ q. refl) in
    let sound = subst (λ (x : g.row.H.Denot). Sound (g.H.Host.state x) s (changed_in c.new.result) es) (sym c.of-begun.ensures)
    (sound_new s (changed_in c.new.result) es (λ w. ap (λ (l : List Event). follow_all l w) none) (g.H.Host.tree c.args.below) there (subst IsSettled (sym none) settled_none)) in
    let seen = subst (λ (l : List Event). IsForeseen l c.new-2.result.items) (sym none) (subst (λ (fs : List AssumedFailure). IsForeseen [] fs) (sym c.new-2.ensures.items) foreseen_none) in
    record { world = sound.world; failures = sound.failures; honest = sound.honest; tree = sound.tree; settled = sound.settled; there = sound.there; went = seen.went; rest = seen.rest }
