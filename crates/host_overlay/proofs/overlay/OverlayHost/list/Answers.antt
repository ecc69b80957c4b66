use Rattle.std.proofs.Common.{◌∙◌, ◌++◌, List, refl, ap}
use Rattle.host_core.specs.Events.{Event}
use Rattle.host_overlay.specs.Layers.{changed_in, events_in, failures_of}
use Rattle.host_overlay.proofs.Calls.{seen_of, sound_of}
use Rattle.host_overlay.proofs.ListingLooks.{listing_looks, listing_fails}
use Rattle.host_overlay.proofs.Foreseen.{foreseen_same, foreseen_looked}
use Rattle.host_overlay.proofs.Sound.{sound_same, sound_looked}
use Rattle.host_overlay.proofs.overlay.OverlayHost.list.Goals as goal

pub invariant_of-self : goal.invariant_of-self
invariant_of-self g c =
    let o = c.args.self.now in
    let s = sound_same (g.H.Host.state o.begun.value) (g.H.Host.state o.below) (changed_in o.layer) (changed_in c.make_room.new.self) (events_in o.layer) (events_in c.make_room.new.self) (sound_of o) c.make_room.ensures.same.changes c.make_room.ensures.same.events in
    let seen = foreseen_same (events_in o.layer) (events_in c.make_room.new.self) o.failing.items c.make_room.ensures.same.events (seen_of o) in
    record { world = s.world; failures = s.failures; honest = s.honest; tree = s.tree; settled = s.settled; there = s.there; went = seen.went; rest = seen.rest }

pub invariant_of-self-2 : goal.invariant_of-self-2
invariant_of-self-2 g c =
    let o = c.args.self.now in
    let s = sound_looked (g.H.Host.state o.begun.value) (g.H.Host.state o.below) (g.H.Host.state c.list-told.new.self) (changed_in o.layer) (changed_in c.tell.new.self) (events_in o.layer) (events_in c.tell.new.self)
    (sound_of o) c.list-told.ensures.reads c.list-told.result (c.tell.ensures.changes ∙ c.make_room.ensures.same.changes)
    (c.tell.ensures.events ∙ ap (λ (es : List Event). es ++ failures_of c.list-told.result) c.make_room.ensures.same.events) in
    let seen = foreseen_looked c.list-told.result (events_in o.layer) (events_in c.tell.new.self) o.failing.items
    (c.tell.ensures.events ∙ ap (λ (es : List Event). es ++ failures_of c.list-told.result) c.make_room.ensures.same.events) (seen_of o) in
    record { world = s.world; failures = s.failures; honest = s.honest; tree = s.tree; settled = s.settled; there = s.there; went = seen.went; rest = seen.rest }

pub returns-in_ok-listing-in-Ok : goal.returns-in_ok-listing-in-Ok
returns-in_ok-listing-in-Ok g c =
    let o = c.args.self.now in
    let e = c.list-told.ensures in
    record {
      looks = listing_looks (g.H.Host.state o.begun.value) (g.H.Host.state o.below) (g.H.Host.state c.list-told.new.self) (changed_in o.layer) (changed_in c.tell.new.self) (events_in o.layer) (events_in c.tell.new.self) (sound_of o) o.layer.makes c.args.path.now
          c.list-told.result (c.tell.ensures.events ∙ ap (λ (es : List Event). es ++ failures_of c.list-told.result) c.make_room.ensures.same.events) (c.tell.ensures.changes ∙ c.make_room.ensures.same.changes)
          (record { found = e.listed; reads = e.reads; silent = e.silent; counts = e.counts }) c.in-Ok.listing c.in_ok-listing-in-Ok.field-0 c.in-Ok.is c.in_ok-listing-in-Ok.ensures;
      through = record { reads = e.reads; silent = e.silent; begun = refl; assumed = refl };
    }

pub returns-in-Err : goal.returns-in-Err
returns-in-Err g c =
    let o = c.args.self.now in
    let e = c.list-told.ensures in
    record {
      looks = listing_fails (g.H.Host.state o.begun.value) (g.H.Host.state o.below) (g.H.Host.state c.list-told.new.self) (changed_in o.layer) (changed_in c.tell.new.self) (events_in o.layer) (events_in c.tell.new.self) (sound_of o) o.layer.makes c.args.path.now
          c.list-told.result (c.tell.ensures.events ∙ ap (λ (es : List Event). es ++ failures_of c.list-told.result) c.make_room.ensures.same.events) (c.tell.ensures.changes ∙ c.make_room.ensures.same.changes)
          (record { found = e.listed; reads = e.reads; silent = e.silent; counts = e.counts }) c.in-Err.fault c.in-Err.is;
      through = record { reads = e.reads; silent = e.silent; begun = refl; assumed = refl };
    }
