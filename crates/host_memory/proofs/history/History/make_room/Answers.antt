use Rattle.std.proofs.Common.{refl}
use Rattle.std.specs.BTreeMap.{get_by_text}
use Rattle.host_memory.proofs.Since.{kept_by, keeps_same}
use Rattle.host_memory.proofs.history.History.make_room.Goals as goal

pub invariant_of-self : goal.invariant_of-self
invariant_of-self c =
    let h = c.args.self.now in
    let k = keeps_same h.flushed h.events.items c.reserve.new.self.items (get_by_text h.files.nodes) (get_by_text h.disk.nodes) h.pasts.items h.pasts.items c.reserve.ensures.items refl (kept_by h) in
    record { settled = k.settled; bound = k.bound; late = k.late; reached = k.now; total = k.total; before = k.before }

pub invariant_of-self-2 : goal.invariant_of-self-2
invariant_of-self-2 c =
    let h = c.args.self.now in
    let k = keeps_same h.flushed h.events.items c.reserve.new.self.items (get_by_text h.files.nodes) (get_by_text h.disk.nodes) h.pasts.items c.reserve-2.new.self.items c.reserve.ensures.items c.reserve-2.ensures.items (kept_by h) in
    record { settled = k.settled; bound = k.bound; late = k.late; reached = k.now; total = k.total; before = k.before }
