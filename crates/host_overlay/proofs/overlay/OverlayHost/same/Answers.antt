use Rattle.std.proofs.Common.{◌≡◌, ◌∙◌, ◌++◌, List, Bool, refl, ap}
use Rattle.std.specs.Str.{bytes_eq}
use Rattle.host_core.specs.Events.{Event}
use Rattle.host_core.specs.World.{World}
use Rattle.host_overlay.specs.Layers.{changed_in, events_in, failures_of}
use Rattle.host_overlay.proofs.Calls.{seen_of, sound_of}
use Rattle.host_overlay.proofs.Foreseen.{foreseen_same, foreseen_looked}
use Rattle.host_overlay.proofs.Sound.{sound_same, sound_looked, looked_over}
use Rattle.host_overlay.proofs.overlay.OverlayHost.same.Goals as goal

pub invariant_of-self : goal.invariant_of-self
invariant_of-self g c =
    let o = c.args.self.now in
    let s = sound_same (g.H.Host.state o.begun.value) (g.H.Host.state o.below) (changed_in o.layer) (changed_in c.make_room.new.self) (events_in o.layer) (events_in c.make_room.new.self) (sound_of o) c.make_room.ensures.same.changes c.make_room.ensures.same.events in
    let seen = foreseen_same (events_in o.layer) (events_in c.make_room.new.self) o.failing.items c.make_room.ensures.same.events (seen_of o) in
    record { world = s.world; failures = s.failures; honest = s.honest; tree = s.tree; settled = s.settled; there = s.there; went = seen.went; rest = seen.rest }

pub invariant_of-self-2 : goal.invariant_of-self-2
invariant_of-self-2 g c =
    let o = c.args.self.now in
    let s = sound_looked (g.H.Host.state o.begun.value) (g.H.Host.state o.below) (g.H.Host.state c.same-told.new.self) (changed_in o.layer) (changed_in c.tell.new.self) (events_in o.layer) (events_in c.tell.new.self)
    (sound_of o) c.same-told.ensures.reads c.same-told.result (c.tell.ensures.changes ∙ c.make_room.ensures.same.changes)
    (c.tell.ensures.events ∙ ap (λ (es : List Event). es ++ failures_of c.same-told.result) c.make_room.ensures.same.events) in
    let seen = foreseen_looked c.same-told.result (events_in o.layer) (events_in c.tell.new.self) o.failing.items
    (c.tell.ensures.events ∙ ap (λ (es : List Event). es ++ failures_of c.same-told.result) c.make_room.ensures.same.events) (seen_of o) in
    record { world = s.world; failures = s.failures; honest = s.honest; tree = s.tree; settled = s.settled; there = s.there; went = seen.went; rest = seen.rest }

pub returns : goal.returns
returns g c =
    let o = c.args.self.now in
    let begun = g.H.Host.state o.begun.value in
    let a = g.H.Host.state o.below in
    let b = g.H.Host.state c.same-told.new.self in
    let e = c.same-told.ensures in
    let told = c.tell.ensures.events ∙ ap (λ (es : List Event). es ++ failures_of c.same-told.result) c.make_room.ensures.same.events in
    let P : Bool → World → Type 0 = λ same w. same ≡ bytes_eq c.args.one.now c.args.other.now in
    record {
      looks = looked_over begun a b (changed_in o.layer) (events_in o.layer) (events_in c.tell.new.self) (sound_of o) o.layer.makes c.same-told.result told P P
          (λ same h is. is) (record { found = e.same; reads = e.reads; silent = e.silent; counts = e.counts });
      through = record { reads = e.reads; silent = e.silent; begun = refl; assumed = refl };
    }
