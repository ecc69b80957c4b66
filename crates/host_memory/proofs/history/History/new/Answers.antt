use Rattle.std.proofs.Common.{List, length, map, sym, ap, subst}
use Rattle.std.specs.BTreeMap.{get_by_text}
use Rattle.host_core.proofs.Losses.{settled_none}
use Rattle.host_core.specs.Unsynced.{IsSettled}
use Rattle.host_memory.specs.Doings.{event_of}
use Rattle.host_memory.specs.declared.done.Done.{Done}
use Rattle.host_memory.proofs.Since.{keeps_flushed}
use Rattle.host_memory.proofs.history.History.new.Goals as goal

pub invariant_of-result : goal.invariant_of-result
invariant_of-result c =
    let k = keeps_flushed 0 c.new-2.result.items (get_by_text c.in_ok-files.files.nodes) (get_by_text c.in_ok-disk.disk.nodes) c.new-3.result.items (sym (ap length c.new-2.ensures.items)) c.new-3.ensures.items c.in_ok-disk.ensures
    (subst (λ (l : List Done). IsSettled (map event_of l)) (sym c.new-2.ensures.items) settled_none) in
    record { settled = k.settled; bound = k.bound; late = k.late; reached = k.now; total = k.total; before = k.before }
