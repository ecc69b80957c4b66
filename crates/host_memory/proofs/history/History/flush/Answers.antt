use Rattle.std.proofs.Common.{◌≡◌, ◌++◌, ◌∷◌, [], length, map, sym, subst, refl, arith}
use Rattle.std.specs.BTreeMap.{get_by_text}
use Rattle.host_core.specs.Events.{Did}
use Rattle.host_core.specs.Host.{State}
use Rattle.host_core.specs.Unsynced.{KeepsSettled}
use Rattle.host_core.proofs.Losses.{settled_by}
use Rattle.host_memory.specs.declared.done.Done.TheVariants as done
use Rattle.host_memory.specs.Doings.{event_of, step_of}
use Rattle.host_memory.proofs.Recorded.{recorded}
use Rattle.host_memory.proofs.Since.{keeps_flushed}
use Rattle.host_memory.proofs.history.History.flush.Goals as goal

pub invariant_of-self : goal.invariant_of-self
invariant_of-self c =
    let h = c.make_room.new.self in
    let s = step_of c.args.step in
    let events = c.push_reserved.new.self.items in
    let told : map event_of events ≡ map event_of h.events.items ++ Did s ∷ [] = recorded (Did s) (done.Did c.args.step) h.events.items h.events.items events refl refl c.push_reserved.ensures.items in
    let owed : KeepsSettled (map event_of h.events.items) s = subst (λ (t : State). KeepsSettled t.events s) (sym c.make_room.ensures.same.state) c.requires.settled in
    let all : c.len-self.result ≡ length events = omega (arith, c.len-self.ensures) in
    let k = keeps_flushed c.len-self.result events (get_by_text h.files.nodes) (get_by_text c.in_ok-self.field-0.nodes) c.new.result.items all c.new.ensures.items c.in_ok-self.ensures
    (settled_by _ _ s owed h.settled told) in
    record { settled = k.settled; bound = k.bound; late = k.late; reached = k.now; total = k.total; before = k.before }
