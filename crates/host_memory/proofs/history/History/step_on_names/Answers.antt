use Rattle.std.proofs.Common.{◌≡◌, ◌+◌, ◌-◌, ◌++◌, ◌∷◌, [], length, map, true, refl, sym, ap, ◌∙◌, arith, subst}
use Rattle.std.specs.BTreeMap.{get_by_text}
use Rattle.host_core.specs.Events.{Did}
use Rattle.host_core.specs.Host.{State, Happens}
use Rattle.host_core.specs.Unsynced.{KeepsSettled}
use Rattle.host_core.specs.World.{after}
use Rattle.host_memory.specs.declared.done.Done.TheVariants as done
use Rattle.host_memory.specs.declared.files.Files.{Files}
use Rattle.host_memory.specs.declared.past.Past.{Past}
use Rattle.host_memory.specs.Doings.{event_of, step_of}
use Rattle.host_memory.proofs.Naming.{naming_flushes, disk_behind}
use Rattle.host_memory.proofs.Recorded.{recorded}
use Rattle.host_memory.proofs.Since.{kept_by, keeps_named, keeps_same, disk_stays, happens_so}
use Rattle.host_memory.proofs.history.History.step_on_names.Goals as goal

pub invariant_of-self : goal.invariant_of-self
invariant_of-self c =
    let h = c.make_room.new.self in
    let s = step_of c.args.step in
    let p : Past = record { count = c.len.result - h.flushed; files = c.replace-files.result } in
    let events = c.push_reserved-2.new.self.items in
    let left = get_by_text c.replace-files.new.dest.nodes in
    let told : map event_of events ≡ map event_of h.events.items ++ Did s ∷ [] = recorded (Did s) (done.Did c.args.step) h.events.items h.events.items events refl refl c.push_reserved-2.ensures.items in
    let goes : left ≡ after s (get_by_text h.files.nodes) = ap (λ (f : Files). get_by_text f.nodes) c.replace-files.ensures.after ∙ c.in_ok-perform.ensures.ok ∙ ap (after s) c.in_ok-files.ensures in
    let owed : KeepsSettled (map event_of h.events.items) s = subst (λ (t : State). KeepsSettled t.events s) (sym c.make_room.ensures.same.state) c.requires.settled in
    let count : p.count + h.flushed ≡ length h.events.items = omega (arith, c.len.ensures, h.bound) in
    let named = keeps_named h.flushed h.events.items events (get_by_text h.files.nodes) left (get_by_text h.disk.nodes) h.pasts.items (Did s) (kept_by h) told owed (naming_flushes s c.requires.naming) goes c.requires.naming p count
    (ap (λ (f : Files). get_by_text f.nodes) c.replace-files.ensures.value) in
    let k = keeps_same h.flushed events events left (get_by_text h.disk.nodes) (h.pasts.items ++ p ∷ []) c.push_reserved.new.self.items refl c.push_reserved.ensures.items named in
    record { settled = k.settled; bound = k.bound; late = k.late; reached = k.now; total = k.total; before = k.before }

pub returns-clause-ok : goal.returns-clause-ok
returns-clause-ok c =
    let h = c.make_room.new.self in
    let s = step_of c.args.step in
    let events = c.push_reserved-2.new.self.items in
    let left = get_by_text c.replace-files.new.dest.nodes in
    let told : map event_of events ≡ map event_of h.events.items ++ Did s ∷ [] = recorded (Did s) (done.Did c.args.step) h.events.items h.events.items events refl refl c.push_reserved-2.ensures.items in
    let goes : left ≡ after s (get_by_text h.files.nodes) = ap (λ (f : Files). get_by_text f.nodes) c.replace-files.ensures.after ∙ c.in_ok-perform.ensures.ok ∙ ap (after s) c.in_ok-files.ensures in (
      record {
        happened = subst (λ (t : State). Happens (Did s ∷ []) t (record { honest = true; world = left; events = map event_of events })) c.make_room.ensures.same.state (happens_so h events (Did s) told left goes);
        disk = disk_behind s c.args.self.now _ (naming_flushes s c.requires.naming) (disk_stays h events (Did s) told ∙ c.make_room.ensures.same.disk);
      },
      omega (arith, c.in_ok-make_room.ensures.ok.events, c.push_reserved-2.ensures.len, c.push_reserved-2.ensures.capacity),
    )
