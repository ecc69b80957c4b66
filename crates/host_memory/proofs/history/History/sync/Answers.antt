use Rattle.std.proofs.Common.{◌≡◌, ◌++◌, ◌∷◌, [], map, sym, subst, refl}
use Rattle.std.specs.BTreeMap.{get_by_text}
use Rattle.host_core.specs.Events.{Did}
use Rattle.host_core.specs.Host.{State}
use Rattle.host_core.specs.Unsynced.{KeepsSettled}
use Rattle.host_core.specs.World.{after}
use Rattle.host_memory.specs.declared.done.Done.TheVariants as done
use Rattle.host_memory.specs.Doings.{event_of, step_of}
use Rattle.host_memory.proofs.Naming.{nameless_world}
use Rattle.host_memory.proofs.Recorded.{recorded}
use Rattle.host_memory.proofs.Since.{kept_by, keeps_on}
use Rattle.host_memory.proofs.history.History.sync.Goals as goal

pub invariant_of-self : goal.invariant_of-self
invariant_of-self c =
    let h = c.make_room.new.self in
    let s = step_of c.args.step in
    let events = c.push_reserved.new.self.items in
    let told : map event_of events ≡ map event_of h.events.items ++ Did s ∷ [] = recorded (Did s) (done.Did c.args.step) h.events.items h.events.items events refl refl c.push_reserved.ensures.items in
    let owed : KeepsSettled (map event_of h.events.items) s = subst (λ (t : State). KeepsSettled t.events s) (sym c.make_room.ensures.same.state) c.requires.settled in
    let w = get_by_text h.files.nodes in
    let goes : w ≡ after s w = sym (nameless_world s w c.requires.naming) in
    let k = keeps_on h.flushed h.events.items events w w (get_by_text h.disk.nodes) h.pasts.items (Did s) (kept_by h) told owed c.requires.flushing goes c.requires.naming in
    record { settled = k.settled; bound = k.bound; late = k.late; reached = k.now; total = k.total; before = k.before }
