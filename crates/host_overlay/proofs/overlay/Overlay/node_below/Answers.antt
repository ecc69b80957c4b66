use Rattle.std.proofs.Common.{◌≡◌, ◌∙◌, ◌++◌, List, Option, refl, ap}
use Rattle.host_core.specs.Events.{Event}
use Rattle.host_core.specs.World.{World}
use Rattle.host_core.specs.declared.node.Node.{Node}
use Rattle.host_overlay.specs.Layers.{changed_in, events_in, failures_of}
use Rattle.host_overlay.proofs.Calls.{seen_of, sound_of}
use Rattle.host_overlay.proofs.Foreseen.{foreseen_same, foreseen_looked}
use Rattle.host_overlay.proofs.Sound.{sound_same, sound_looked, looked_over}
use Rattle.host_overlay.proofs.overlay.Overlay.node_below.Goals as goal

pub invariant_of-self : goal.invariant_of-self
invariant_of-self g c =
    let o = c.args.self.now in
    let s = sound_same (g.H.Host.state o.begun.value) (g.H.Host.state o.below) (changed_in o.layer) (changed_in c.make_room.new.self) (events_in o.layer) (events_in c.make_room.new.self) (sound_of o) c.make_room.ensures.same.changes c.make_room.ensures.same.events in
    let seen = foreseen_same (events_in o.layer) (events_in c.make_room.new.self) o.failing.items c.make_room.ensures.same.events (seen_of o) in
    record { world = s.world; failures = s.failures; honest = s.honest; tree = s.tree; settled = s.settled; there = s.there; went = seen.went; rest = seen.rest }

pub invariant_of-self-2 : goal.invariant_of-self-2
invariant_of-self-2 g c =
    let o = c.args.self.now in
    let s = sound_looked (g.H.Host.state o.begun.value) (g.H.Host.state o.below) (g.H.Host.state c.node-told.new.self) (changed_in o.layer) (changed_in c.tell.new.self) (events_in o.layer) (events_in c.tell.new.self)
    (sound_of o) c.node-told.ensures.reads c.node-told.result (c.tell.ensures.changes ∙ c.make_room.ensures.same.changes)
    (c.tell.ensures.events ∙ ap (λ (es : List Event). es ++ failures_of c.node-told.result) c.make_room.ensures.same.events) in
    let seen = foreseen_looked c.node-told.result (events_in o.layer) (events_in c.tell.new.self) o.failing.items
    (c.tell.ensures.events ∙ ap (λ (es : List Event). es ++ failures_of c.node-told.result) c.make_room.ensures.same.events) (seen_of o) in
    record { world = s.world; failures = s.failures; honest = s.honest; tree = s.tree; settled = s.settled; there = s.there; went = seen.went; rest = seen.rest }

pub returns : goal.returns
returns g c =
    let o = c.args.self.now in
    let begun = g.H.Host.state o.begun.value in
    let a = g.H.Host.state o.below in
    let b = g.H.Host.state c.node-told.new.self in
    let e = c.node-told.ensures in
    let path = c.args.path.now in
    let told = c.tell.ensures.events ∙ ap (λ (es : List Event). es ++ failures_of c.node-told.result) c.make_room.ensures.same.events in
    let P : Option Node → World → Type 0 = λ node w. node ≡ w path in
    let Q : Option Node → World → Type 0 = λ node w. node ≡ begun.world path in
    record {
      looks = looked_over begun a b (changed_in o.layer) (events_in o.layer) (events_in c.tell.new.self) (sound_of o) o.layer.makes c.node-told.result told P Q
          (λ node h is. is ∙ ap (λ (w : World). w path) (sound_of o).world) (record { found = e.found; reads = e.reads; silent = e.silent; counts = e.counts });
      through = record { reads = e.reads; silent = e.silent; begun = refl; assumed = refl };
    }
