use Rattle.std.proofs.Common.{◌≡◌, ◌∙◌, ◌++◌, ◌∷◌, [], List, refl, ap}
use Rattle.host_core.specs.Events.{Event, Finished}
use Rattle.host_core.specs.Host.{ran_of}
use Rattle.host_core.specs.declared.call.Call.{Call}
use Rattle.host_core.proofs.Counted.{no_fault}
use Rattle.host_overlay.specs.Layers.{changed_in, events_in}
use Rattle.host_overlay.proofs.Calls.{seen_of, sound_of, sound_called, call_happens}
use Rattle.host_overlay.proofs.Foreseen.{foreseen_same, foreseen_call}
use Rattle.host_overlay.proofs.Sound.{sound_same}
use Rattle.host_overlay.proofs.overlay.OverlayHost.run.Goals as goal
use Rattle.host_overlay.proofs.overlay.OverlayHost.run.Goals.{After-tell_call}
use Rattle.host_overlay.proofs.overlay.OverlayHost.run.Given.{Over}

-- what is told last
told : (g : Over) (c : After-tell_call g) → events_in c.tell_call.new.self ≡ events_in c.args.self.now.layer ++ Finished (ran_of c.args.call.now c.end_call-outcome.result []) ∷ []
told g c =
    c.tell_call.ensures.events ∙ ap (λ (es : List Event). es ++ Finished (ran_of c.in_ok-told.told c.end_call-outcome.result []) ∷ []) c.make_room.ensures.same.events
    ∙ ap (λ (x : Call). events_in c.args.self.now.layer ++ Finished (ran_of x c.end_call-outcome.result []) ∷ []) c.in_ok-told.ensures

pub invariant_of-self : goal.invariant_of-self
invariant_of-self g c =
    let o = c.args.self.now in
    let s = sound_same (g.H.Host.state o.begun.value) (g.H.Host.state o.below) (changed_in o.layer) (changed_in c.make_room.new.self) (events_in o.layer) (events_in c.make_room.new.self) (sound_of o) c.make_room.ensures.same.changes c.make_room.ensures.same.events in
    let seen = foreseen_same (events_in o.layer) (events_in c.make_room.new.self) o.failing.items c.make_room.ensures.same.events (seen_of o) in
    record { world = s.world; failures = s.failures; honest = s.honest; tree = s.tree; settled = s.settled; there = s.there; went = seen.went; rest = seen.rest }

pub invariant_of-self-2 : goal.invariant_of-self-2
invariant_of-self-2 g c =
    let o = c.args.self.now in
    let s = sound_called c.args.call.now c.end_call-outcome.result (g.H.Host.state o.begun.value) (g.H.Host.state o.below) (changed_in o.layer) (changed_in c.tell_call.new.self) (events_in o.layer) (events_in c.tell_call.new.self)
    (sound_of o) (c.tell_call.ensures.changes ∙ c.make_room.ensures.same.changes) (told g c) in
    let seen = foreseen_call (events_in o.layer) (events_in c.tell_call.new.self) c.args.call.now c.end_call-outcome.result o.failing.items c.end_call-outcome.new.failing.items (told g c) c.end_call-outcome.ensures.outcome c.end_call-outcome.ensures.left (seen_of o) in
    record { world = s.world; failures = s.failures; honest = s.honest; tree = s.tree; settled = s.settled; there = s.there; went = seen.went; rest = seen.rest }

pub returns-clause-runs : goal.returns-clause-runs
returns-clause-runs g c =
    let o = c.args.self.now in
    ([], λ h. tt, call_happens c.args.call.now c.end_call-outcome.result (g.H.Host.state o.begun.value) (g.H.Host.state o.below) (events_in o.layer) (events_in c.tell_call.new.self) (told g (goal.at.returns-clause-runs g c).After-tell_call))

pub returns-clause-counts : goal.returns-clause-counts
returns-clause-counts g c =
    let o = c.args.self.now in
    no_fault (Finished (ran_of c.args.call.now c.end_call-outcome.result []) ∷ []) _ _ refl
    (call_happens c.args.call.now c.end_call-outcome.result (g.H.Host.state o.begun.value) (g.H.Host.state o.below) (events_in o.layer) (events_in c.tell_call.new.self) (told g (goal.at.returns-clause-counts g c).After-tell_call))
