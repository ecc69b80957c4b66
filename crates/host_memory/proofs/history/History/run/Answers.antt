use Rattle.std.proofs.Common.{◌≡◌, ◌++◌, ◌∷◌, [], map, true, subst, refl, sym, ap, ◌∙◌, arith}
use Rattle.std.specs.BTreeMap.{get_by_text}
use Rattle.host_core.specs.Events.{follow}
use Rattle.host_core.specs.Host.{State, Happens}
use Rattle.host_core.specs.World.{World, changed, is_kept}
use Rattle.host_core.specs.declared.call.Call.{Call}
use Rattle.host_memory.specs.Changes.{change_of, Carries}
use Rattle.host_memory.specs.Doings.{event_of, how_ended}
use Rattle.host_memory.proofs.Ended.{ended_owes, ended_flushes, ended_names, ended_changes}
use Rattle.host_memory.proofs.Recorded.{recorded}
use Rattle.host_memory.proofs.Since.{kept_by, keeps_on, happens_so, disk_stays}
use Rattle.host_memory.proofs.history.History.run.Goals as goal

pub invariant_of-self : goal.invariant_of-self
invariant_of-self c =
    let h = c.make_room.new.self in
    let change = change_of c.in_ok-change.change.items in
    let call = c.args.call.now in
    let ending = c.args.ending in
    let told : map event_of c.push_reserved.new.self.items ≡ map event_of h.events.items ++ how_ended call ending change ∷ [] =
    recorded (how_ended call ending change) c.done_of.result h.events.items h.events.items c.push_reserved.new.self.items
    (c.done_of.ensures ∙ ap (λ (k : Call). how_ended k ending change) c.in_ok-call.ensures) refl c.push_reserved.ensures.items in
    let goes : get_by_text c.carry_each.new.files.nodes ≡ follow (how_ended call ending change) (get_by_text h.files.nodes) =
    c.in_ok-change.ensures.changed ∙ ap (changed change) c.in_ok-files.ensures ∙ sym (ended_changes call ending change (get_by_text h.files.nodes)) in
    let k = keeps_on h.flushed h.events.items c.push_reserved.new.self.items (get_by_text h.files.nodes) (get_by_text c.carry_each.new.files.nodes) (get_by_text h.disk.nodes) h.pasts.items (how_ended call ending change) (kept_by h)
    told (ended_owes (map event_of h.events.items) call ending change) (ended_flushes call ending change) goes (ended_names call ending change) in
    record { settled = k.settled; bound = k.bound; late = k.late; reached = k.now; total = k.total; before = k.before }

pub returns-clause-ok : goal.returns-clause-ok
returns-clause-ok c =
    let h = c.make_room.new.self in
    let change = change_of c.in_ok-change.change.items in
    let call = c.args.call.now in
    let ending = c.args.ending in
    let same = c.make_room.ensures.same in
    let events = c.push_reserved.new.self.items in
    let left = get_by_text c.carry_each.new.files.nodes in
    let told : map event_of events ≡ map event_of h.events.items ++ how_ended call ending change ∷ [] =
    recorded (how_ended call ending change) c.done_of.result h.events.items h.events.items events
    (c.done_of.ensures ∙ ap (λ (k : Call). how_ended k ending change) c.in_ok-call.ensures) refl c.push_reserved.ensures.items in
    let goes : left ≡ follow (how_ended call ending change) (get_by_text h.files.nodes) =
    c.in_ok-change.ensures.changed ∙ ap (changed change) c.in_ok-files.ensures ∙ sym (ended_changes call ending change (get_by_text h.files.nodes)) in (
      record {
        change = change;
        carries = subst (λ (w : World). Carries (is_kept c.args.keep.now) w (change_of c.args.planned.now) change) (c.in_ok-files.ensures ∙ ap (λ (t : State). t.world) same.state) c.in_ok-change.ensures.carries;
        goes = record {
          happened = subst (λ (t : State). Happens (how_ended call ending change ∷ []) t (record { honest = true; world = left; events = map event_of events })) same.state (happens_so h events (how_ended call ending change) told left goes);
          disk = disk_stays h events (how_ended call ending change) told ∙ same.disk;
        };
      },
      omega (arith, c.in_ok-make_room.ensures.ok.events, c.push_reserved.ensures.len, c.push_reserved.ensures.capacity),
    )
