use Rattle.std.proofs.Common.{refl}
use Rattle.std.specs.BTreeMap.{get_by_text}
use Rattle.host_core.specs.Events.{Denied}
use Rattle.host_memory.specs.declared.done.Done.TheVariants as done
use Rattle.host_memory.proofs.Recorded.{recorded}
use Rattle.host_memory.proofs.Since.{kept_by, keeps_on}
use Rattle.host_memory.proofs.history.History.tell_denial.Goals as goal

pub invariant_of-self : goal.invariant_of-self
invariant_of-self c =
    let h = c.args.self.now in
    let e = Denied c.args.path in
    let k = keeps_on h.flushed h.events.items c.push_reserved.new.self.items (get_by_text h.files.nodes) (get_by_text h.files.nodes) (get_by_text h.disk.nodes) h.pasts.items e (kept_by h)
    (recorded e (done.Denied c.args.path) h.events.items h.events.items c.push_reserved.new.self.items refl refl c.push_reserved.ensures.items) tt refl refl refl in
    record { settled = k.settled; bound = k.bound; late = k.late; reached = k.now; total = k.total; before = k.before }
